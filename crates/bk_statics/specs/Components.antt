-- A component by its clauses: what is absent is empty. The clauses are those of the B Language Reference Manual, in any order.
use Rattle.std.specs.Prelude.{ℕ, Bool, true, false, cond, nat_eq, List, [], ◌∷◌, ◌++◌, Option, None, Some}
use Rattle.bk_raw.specs.declared.component.ComponentKind.{ComponentKind}
use Rattle.bk_raw.specs.declared.component.ComponentKind.TheVariants.{Machine as AsMachine, Refinement as AsRefinement}
use Rattle.bk_raw.specs.declared.component.ComponentKind.TheVariants.{Implementation as AsImplementation}
use Rattle.bk_raw.specs.declared.component.ClauseWord.{ClauseWord}
use Rattle.bk_raw.specs.declared.component.ClauseWord.TheVariants.{Sets, Constants, Properties, Variables, ConcreteVariables}
use Rattle.bk_raw.specs.declared.component.ClauseWord.TheVariants.{Invariant, Assertions, Values, Initialisation, Operations}
use Rattle.bk_raw.specs.declared.component.RawValue.{RawValue}
use Rattle.bk_raw.specs.declared.term.RawName.{RawName}
use Rattle.bk_raw.specs.Trees.RawTree.{RawTree}
use Rattle.bk_raw.specs.Trees.SubTree.{SubTree, sub, SubNode, sub_skip, sub_begin, sub_pre}
use Rattle.bk_raw.specs.Trees.ComponentTree.{RawSet, RawOperation, RawClause, RawComponent, ClauseParts, clause_sets, clause_names}
use Rattle.bk_raw.specs.Trees.ComponentTree.{clause_term, clause_terms, clause_values, clause_sub, clause_operations, clause_number}
use Rattle.bk_dev.specs.declared.kind.Kind.{Kind}
use Rattle.bk_dev.specs.declared.kind.Kind.TheVariants.{Machine, Refinement, Implementation}
use Rattle.bk_dev.specs.Development.{is_implementing}

-- a variable, and whether its clause is CONCRETE_VARIABLES
pub record WrittenVariable : Type 0 where
  pub name : RawName
  pub is_concrete : Bool

-- a component's clauses
pub record Component : Type 0 where
  -- the byte where it starts
  pub at : ℕ
  pub kind : Kind
  pub name : RawName
  pub sets : List RawSet
  pub constants : List RawName
  pub properties : Option RawTree
  -- of both clauses, in the order of the text
  pub variables : List WrittenVariable
  pub invariant : Option RawTree
  pub assertions : List RawTree
  -- an implementation's alone
  pub values : List RawValue
  pub init : Option SubTree
  pub operations : List RawOperation
  -- all names of sets, elements, constants and variables, in the order of the text
  pub declared : List RawName

-- ---- the parts of clauses
-- what kind of component it is
abbrev pub kind_as : ComponentKind → Kind
kind_as AsMachine = Machine
kind_as AsRefinement = Refinement
kind_as AsImplementation = Implementation

-- the sets that the parts of a clause are; other parts are none
abbrev pub sets_in : ClauseParts → List RawSet
sets_in (clause_sets ss) = ss
sets_in _ = []

-- the names that they are
abbrev pub names_in : ClauseParts → List RawName
names_in (clause_names xs) = xs
names_in _ = []

-- the term that they are
abbrev pub term_in : ClauseParts → Option RawTree
term_in (clause_term t) = Some t
term_in _ = None

-- the terms that they are
abbrev pub terms_in : ClauseParts → List RawTree
terms_in (clause_terms ts) = ts
terms_in _ = []

-- the values that they are
abbrev pub values_in : ClauseParts → List RawValue
values_in (clause_values vs) = vs
values_in _ = []

-- the substitution that they are
abbrev pub substitution_in : ClauseParts → Option SubTree
substitution_in (clause_sub s) = Some s
substitution_in _ = None

-- the operations that they are
abbrev pub operations_in : ClauseParts → List RawOperation
operations_in (clause_operations os) = os
operations_in _ = []

-- ---- the clauses of one word
-- whether it is the clause of this word: CONSTANTS is CONCRETE_CONSTANTS too, and VARIABLES is ABSTRACT_VARIABLES
abbrev pub is_clause : ClauseWord → RawClause → Bool
is_clause word c = nat_eq (clause_number c.word) (clause_number word)

-- what a clause lists, where it is that of this word
abbrev pub if_clause : {A : Type 0} → ClauseWord → (ClauseParts → List A) → RawClause → List A
if_clause word part c = cond (is_clause word c) (part c.parts) []

-- what the clauses of this word list
abbrev pub listed : {A : Type 0} → ClauseWord → (ClauseParts → List A) → List RawClause → List A
listed word part [] = []
listed word part (c ∷ cs) = if_clause word part c ++ listed word part cs

-- the first that is there
abbrev pub or_next : {A : Type 0} → Option A → Option A → Option A
or_next None other = other
or_next (Some x) other = Some x

-- what the clause of this word states, if there is such a clause
abbrev pub stated : {A : Type 0} → ClauseWord → (ClauseParts → Option A) → List RawClause → Option A
stated word part [] = None
stated word part (c ∷ cs) = or_next (cond (is_clause word c) (part c.parts) None) (stated word part cs)

-- ---- names
-- names of a clause of variables
abbrev pub as_variables : Bool → List RawName → List WrittenVariable
as_variables is_concrete [] = []
as_variables is_concrete (x ∷ xs) = record { name = x; is_concrete = is_concrete } ∷ as_variables is_concrete xs

-- the variables that a clause declares
abbrev pub variables_of_clause : RawClause → List WrittenVariable
variables_of_clause c = as_variables false (if_clause Variables names_in c) ++ as_variables true (if_clause ConcreteVariables names_in c)

-- the variables that clauses declare
abbrev pub variables_of : List RawClause → List WrittenVariable
variables_of [] = []
variables_of (c ∷ cs) = variables_of_clause c ++ variables_of cs

-- sets, each with its elements
abbrev pub set_names : List RawSet → List RawName
set_names [] = []
set_names (s ∷ ss) = s.name ∷ (s.elements ++ set_names ss)

-- the names of variables
abbrev pub variable_names : List WrittenVariable → List RawName
variable_names [] = []
variable_names (v ∷ vs) = v.name ∷ variable_names vs

-- the names of variables of VARIABLES
abbrev pub abstract_names : List WrittenVariable → List RawName
abstract_names [] = []
abstract_names (v ∷ vs) = cond v.is_concrete (abstract_names vs) (v.name ∷ abstract_names vs)

-- the names of operations
abbrev pub operation_names : List RawOperation → List RawName
operation_names [] = []
operation_names (o ∷ os) = o.name ∷ operation_names os

-- the sets, elements, constants and variables that a clause declares
abbrev pub declared_by : RawClause → List RawName
declared_by c = set_names (if_clause Sets sets_in c) ++ (if_clause Constants names_in c ++ variable_names (variables_of_clause c))

-- those of clauses
abbrev pub all_declared_by : List RawClause → List RawName
all_declared_by [] = []
all_declared_by (c ∷ cs) = declared_by c ++ all_declared_by cs

-- ---- the component
-- a component as it is written, by its clauses
abbrev pub component_of : RawComponent → Component
component_of c = record {
  at = c.at;
  kind = kind_as c.kind;
  name = c.name;
  sets = listed Sets sets_in c.clauses;
  constants = listed Constants names_in c.clauses;
  properties = stated Properties term_in c.clauses;
  variables = variables_of c.clauses;
  invariant = stated Invariant term_in c.clauses;
  assertions = listed Assertions terms_in c.clauses;
  values = cond (is_implementing (kind_as c.kind)) (listed Values values_in c.clauses) [];
  init = stated Initialisation substitution_in c.clauses;
  operations = listed Operations operations_in c.clauses;
  declared = all_declared_by c.clauses;
}

-- its initialisation, which is skip where none is written
abbrev pub initialisation : Component → SubTree
initialisation c = given c.init
  where
    given : Option SubTree → SubTree
    given None = sub c.at sub_skip
    given (Some s) = s

-- where an operation's first token stands: an output's, or its name's
abbrev pub first_token : RawOperation → ℕ
first_token o = first_of o.outputs
  where
    first_of : List RawName → ℕ
    first_of [] = o.name.at
    first_of (x ∷ xs) = x.at

-- whether it is a machine
abbrev pub is_machine : Kind → Bool
is_machine Machine = true
is_machine _ = false

-- ---- the outermost precondition
-- the predicate of a body's PRE, where the body is a PRE; BEGIN round it does not hide it
abbrev pub outermost : SubTree → Option RawTree
outermost (sub at (sub_begin s)) = outermost s
outermost (sub at (sub_pre p s)) = Some p
outermost s = None

-- what is left of a body without its outermost precondition
abbrev pub inner_body : SubTree → SubTree
inner_body (sub at (sub_begin s)) = inner_body s
inner_body (sub at (sub_pre p s)) = s
inner_body s = s
