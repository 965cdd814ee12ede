-- Small components as they are written, and the developments that they are, to be checked by hand.
use Rattle.std.specs.Prelude.{ℕ, ℤ, pos, List, [], ◌∷◌, ◌++◌, Option, None, Some}
use Rattle.bk_limits.specs.declared.TheConstants.{MAXINT}
use Rattle.bk_val.specs.ValueType.{int_type, enum_type}
use Rattle.bk_form.specs.Table.{SetEntry, VariableEntry, with_set}
use Rattle.bk_form.specs.Formula.{variable, literal, element, named, binary, btrue}
use Rattle.bk_form.specs.declared.operator.BinOp.TheVariants.{In, Range}
use Rattle.bk_form.specs.declared.operator.Domain.TheVariants.{Enum}
use Rattle.bk_gsl.specs.Substitution.{Substitution, assign, any, seq, par}
use Rattle.bk_dev.specs.declared.kind.Kind.TheVariants.{Machine, Refinement, Implementation}
use Rattle.bk_dev.specs.declared.kind.Home.TheVariants.{Constant, Input, Abstract, Concrete, Inner}
use Rattle.bk_dev.specs.Development.{Level, Development, level_at, body_at, default_max}
use Rattle.bk_dev.specs.Counter.{counter, number_at, counter_level, machine_name, implementation_name, reset_name, setmax_name, get_name}
use Rattle.bk_raw.specs.declared.operator.InfixOp.{InfixOp}
use Rattle.bk_raw.specs.declared.operator.InfixOp.TheVariants.{Member, Times, TotalFunctions, Interval}
use Rattle.bk_raw.specs.declared.component.ComponentKind.{ComponentKind}
use Rattle.bk_raw.specs.declared.component.ComponentKind.TheVariants.{Machine as AsMachine, Refinement as AsRefinement}
use Rattle.bk_raw.specs.declared.component.ComponentKind.TheVariants.{Implementation as AsImplementation}
use Rattle.bk_raw.specs.declared.component.ClauseWord.{ClauseWord}
use Rattle.bk_raw.specs.declared.component.ClauseWord.TheVariants.{Sets, Constants, Properties, Variables, ConcreteVariables}
use Rattle.bk_raw.specs.declared.component.ClauseWord.TheVariants.{Invariant, Values, Initialisation, Operations}
use Rattle.bk_raw.specs.declared.component.RawValue.{RawValue}
use Rattle.bk_raw.specs.declared.term.RawName.{RawName}
use Rattle.bk_raw.specs.Trees.RawTree.{RawTree, raw, raw_name, raw_number, raw_infix, raw_extension, RawTrees, no_trees, tree_and}
use Rattle.bk_raw.specs.Trees.SubTree.{SubTree, sub, sub_assign, sub_pre, sub_var, sub_sequence, sub_parallel}
use Rattle.bk_raw.specs.Trees.ComponentTree.{RawOperation, RawClause, RawComponent, ClauseParts, clause_sets}
use Rattle.bk_raw.specs.Trees.ComponentTree.{clause_names, clause_term, clause_values, clause_sub, clause_operations}
use Rattle.bk_statics.specs.Components.{component_of}
use Rattle.bk_statics.specs.Above.{above_of}
use Rattle.bk_statics.specs.Verdict.{Verdict, level_below, verdict_of}

-- MAXINT
abbrev pub maxint : ℤ
maxint = MAXINT

-- ---- pieces
-- a name where it is declared
abbrev pub name_at : ℕ → List ℕ → RawName
name_at at x = record { at = at; text = x }

-- a name in a term
abbrev pub term_at : ℕ → List ℕ → RawTree
term_at at x = raw at (raw_name x)

-- a number
abbrev pub number : ℕ → ℕ → RawTree
number at n = raw at (raw_number (pos n))

-- an operator between two terms
abbrev pub infix_at : ℕ → InfixOp → RawTree → RawTree → RawTree
infix_at at o a b = raw at (raw_infix o a b)

-- 0 .. n
abbrev pub up_to : ℕ → ℕ → RawTree
up_to at n = infix_at at Interval (number at 0) (number at n)

-- x : D
abbrev pub is_in : ℕ → List ℕ → RawTree → RawTree
is_in at x d = infix_at at Member (term_at at x) d

-- x := E
abbrev pub takes : ℕ → List ℕ → RawTree → SubTree
takes at x e = sub at (sub_assign (name_at at x ∷ []) (tree_and e no_trees))

-- x := y
abbrev pub takes_at : ℕ → List ℕ → List ℕ → SubTree
takes_at at x y = takes at x (term_at at y)

-- a clause
abbrev pub clause : ClauseWord → ℕ → ClauseParts → RawClause
clause word at parts = record { word = word; at = at; parts = parts }

-- outs <-- name(ins) = body
abbrev pub operation : List RawName → RawName → List RawName → SubTree → RawOperation
operation outputs name inputs body = record { outputs = outputs; name = name; inputs = inputs; body = body }

-- a component with one variable, and that of the machine above, if there is one
abbrev pub component : ComponentKind → List ℕ → Option RawName → List RawClause → RawComponent
component kind name refines clauses = record { at = 0; kind = kind; name = name_at 8 name; refines = refines; clauses = clauses }

-- ---- the counter
-- the text n
abbrev pub n_text : List ℕ
n_text = 110 ∷ []

-- the text r
abbrev pub r_text : List ℕ
r_text = 114 ∷ []

-- n := k
abbrev pub n_is : ℕ → ℕ → SubTree
n_is at k = takes at n_text (number at k)

-- reset = n := 0
abbrev pub reset_at : ℕ → RawOperation
reset_at at = operation [] (name_at at reset_name) [] (n_is at 0)

-- setmax = n := 10
abbrev pub setmax_at : ℕ → RawOperation
setmax_at at = operation [] (name_at at setmax_name) [] (n_is at 10)

-- r <-- get = r := n
abbrev pub get_at : ℕ → RawOperation
get_at at = operation (name_at at r_text ∷ []) (name_at at get_name) [] (takes_at at r_text n_text)

-- INVARIANT n : 0 .. 10 INITIALISATION n := 0 and these operations
abbrev pub counting : List RawOperation → List RawClause
counting os = clause Invariant 22 (clause_term (is_in 30 n_text (up_to 34 10))) ∷
    clause Initialisation 36 (clause_sub (n_is 40 0)) ∷ clause Operations 45 (clause_operations os) ∷ []

-- the counter as it is written
abbrev pub counter_text : RawComponent
counter_text = component AsMachine machine_name None
    (clause Variables 15 (clause_names (name_at 20 n_text ∷ [])) ∷ counting (reset_at 50 ∷ setmax_at 60 ∷ get_at 70 ∷ []))

-- its implementation, whose operations stand in another order
abbrev pub counter_code_text : RawComponent
counter_code_text = component AsImplementation implementation_name (Some (name_at 10 machine_name))
    (clause ConcreteVariables 15 (clause_names (name_at 20 n_text ∷ [])) ∷ counting (get_at 50 ∷ reset_at 60 ∷ setmax_at 70 ∷ []))

-- both, numbered level by level
abbrev pub counter_made : Development
counter_made = record {
  max = default_max;
  table = record { sets = []; variables = number_at 110 48 ∷ number_at 114 48 ∷ number_at 110 49 ∷ number_at 114 49 ∷ [] };
  homes = Abstract 0 ∷ Inner 0 ∷ Concrete 1 ∷ Inner 1 ∷ [];
  sets = [];
  heads = counter.heads;
  levels = counter_level btrue machine_name Machine 0 1 [] ∷ counter_level btrue implementation_name Implementation 2 3 ((2, 0) ∷ []) ∷ [];
  values = [];
  extents = (0, 2) ∷ (0, 4) ∷ [];
}

-- ---- a set, a constant and a concrete variable
-- the text S
abbrev pub s_text : List ℕ
s_text = 83 ∷ []

-- the text a
abbrev pub a_text : List ℕ
a_text = 97 ∷ []

-- the text b
abbrev pub b_text : List ℕ
b_text = 98 ∷ []

-- the text c
abbrev pub c_text : List ℕ
c_text = 99 ∷ []

-- the text t
abbrev pub t_text : List ℕ
t_text = 116 ∷ []

-- the text u
abbrev pub u_text : List ℕ
u_text = 117 ∷ []

-- the text v
abbrev pub v_text : List ℕ
v_text = 118 ∷ []

-- the text x
abbrev pub x_text : List ℕ
x_text = 120 ∷ []

-- the text f
abbrev pub f_text : List ℕ
f_text = 102 ∷ []

-- the text step
abbrev pub step_text : List ℕ
step_text = 115 ∷ 116 ∷ 101 ∷ 112 ∷ []

-- x : S
abbrev pub in_set : ℕ → List ℕ → RawTree
in_set at x = is_in at x (term_at at s_text)

-- step(x) = PRE x : S THEN this END
abbrev pub step_with : SubTree → RawOperation
step_with body = operation [] (name_at 50 step_text) (name_at 55 x_text ∷ []) (sub 60 (sub_pre (in_set 64 x_text) body))

-- MACHINE M SETS S = {a, b} CONSTANTS c PROPERTIES c : 0 .. 5 CONCRETE_VARIABLES v INVARIANT v : S INITIALISATION v := a OPERATIONS, these
abbrev pub machine_of : List RawOperation → RawComponent
machine_of os = component AsMachine (77 ∷ []) None (
    clause Sets 9 (clause_sets (record { name = name_at 10 s_text; elements = name_at 12 a_text ∷ name_at 14 b_text ∷ [] } ∷ []))
    ∷ clause Constants 15 (clause_names (name_at 16 c_text ∷ []))
    ∷ clause Properties 18 (clause_term (is_in 20 c_text (up_to 24 5)))
    ∷ clause ConcreteVariables 28 (clause_names (name_at 30 v_text ∷ []))
    ∷ clause Invariant 32 (clause_term (in_set 34 v_text))
    ∷ clause Initialisation 38 (clause_sub (takes_at 40 v_text a_text))
    ∷ clause Operations 45 (clause_operations os) ∷ [])

-- the same, where step does this
abbrev pub machine_with : SubTree → RawComponent
machine_with body = machine_of (step_with body ∷ [])

-- with step(x) = PRE x : S THEN v := x END
abbrev pub machine_text : RawComponent
machine_text = machine_with (takes_at 70 v_text x_text)

-- VAR t IN t := c ; u := t END
abbrev pub by_local : SubTree
by_local = sub 60 (sub_var (name_at 64 t_text ∷ []) (sub 70 (sub_sequence (takes_at 70 t_text c_text) (takes_at 80 u_text t_text))))

-- v := a || u := c
abbrev pub both_start : SubTree
both_start = sub 40 (sub_parallel (takes_at 40 v_text a_text) (takes_at 50 u_text c_text))

-- REFINEMENT R REFINES M VARIABLES, these, INVARIANT u : 0 .. c, and these clauses
abbrev pub refinement_of : List RawName → List RawClause → RawComponent
refinement_of variables clauses = component AsRefinement (82 ∷ []) (Some (name_at 10 (77 ∷ []))) (
    clause Variables 18 (clause_names variables)
    ∷ clause Invariant 23 (clause_term (is_in 24 u_text (infix_at 28 Interval (number 28 0) (term_at 32 c_text)))) ∷ clauses)

-- step with these inputs that does this
abbrev pub step_by : List RawName → SubTree → RawOperation
step_by inputs body = operation [] (name_at 56 step_text) inputs body

-- INITIALISATION this
abbrev pub started : SubTree → RawClause
started s = clause Initialisation 38 (clause_sub s)

-- OPERATIONS these
abbrev pub with_operations : List RawOperation → RawClause
with_operations os = clause Operations 55 (clause_operations os)

-- OPERATIONS step(x) = this
abbrev pub stepping : SubTree → RawClause
stepping body = with_operations (step_by (name_at 58 x_text ∷ []) body ∷ [])

-- R with VARIABLES u, INITIALISATION v := a || u := c and step(x) = VAR t IN t := c ; u := t END
abbrev pub refinement_text : RawComponent
refinement_text = refinement_of (name_at 20 u_text ∷ []) (started both_start ∷ stepping by_local ∷ [])

-- the variables of M
abbrev pub machine_entries : List VariableEntry
machine_entries = record { text = c_text; of_type = int_type } ∷
    record { text = 118 ∷ 36 ∷ 48 ∷ []; of_type = enum_type 0 } ∷ record { text = x_text; of_type = enum_type 0 } ∷ []

-- M as a level
abbrev pub machine_level : Level
machine_level = record {
  name = 77 ∷ [];
  kind = Machine;
  vars = 1 ∷ [];
  properties = binary In (variable 0) (binary Range (literal (pos 0)) (literal (pos 5)));
  invariant = binary In (variable 1) (named (Enum 0));
  links = [];
  assertions = [];
  init = assign ((1, element 0 0) ∷ []);
  bodies = record { condition = binary In (variable 2) (named (Enum 0)); sub = assign ((1, variable 2) ∷ []); outputs = [] } ∷ [];
}

-- R as a level: v stands here as if it were declared, before u, and is the v above
abbrev pub refinement_level : Level
refinement_level = record {
  name = 82 ∷ [];
  kind = Refinement;
  vars = 3 ∷ 4 ∷ [];
  properties = btrue;
  invariant = binary In (variable 4) (binary Range (literal (pos 0)) (variable 0));
  links = (3, 1) ∷ [];
  assertions = [];
  init = par (assign ((3, element 0 0) ∷ [])) (assign ((4, variable 0) ∷ []));
  bodies = record {
    condition = btrue;
    sub = any (5 ∷ []) (seq (assign ((5, variable 0) ∷ [])) (assign ((4, variable 5) ∷ [])));
    outputs = [];
  } ∷ [];
}

-- M and R
abbrev pub refined : Development
refined = record {
  max = default_max;
  table = record {
    sets = record { name = s_text; elements = a_text ∷ b_text ∷ []; size = 2 } ∷ [];
    variables = machine_entries ++ record { text = 118 ∷ 36 ∷ 49 ∷ []; of_type = enum_type 0 } ∷
        record { text = 117 ∷ 36 ∷ 49 ∷ []; of_type = int_type } ∷ record { text = t_text; of_type = int_type } ∷ [];
  };
  homes = Constant ∷ Concrete 0 ∷ Input ∷ Concrete 1 ∷ Abstract 1 ∷ Inner 1 ∷ [];
  sets = record { name = s_text; elements = a_text ∷ b_text ∷ []; size = 2 } ∷ [];
  heads = record { name = step_text; inputs = 2 ∷ []; outputs = 0 } ∷ [];
  levels = machine_level ∷ refinement_level ∷ [];
  values = [];
  extents = (1, 3) ∷ (1, 6) ∷ [];
}

-- ---- answers
-- one component below another
abbrev pub below : Option Development → RawComponent → Development
below above written = level_below maxint (above_of above) (component_of written)

-- M by itself
abbrev pub first_level : Option Development
first_level = Some (below None machine_text)

-- what a machine is answered
abbrev pub machine_verdict : RawComponent → Verdict
machine_verdict written = verdict_of maxint None written

-- what a component below M is answered
abbrev pub lower_verdict : RawComponent → Verdict
lower_verdict written = verdict_of maxint first_level written

-- what step does in M, where it is written so
abbrev pub step_done : SubTree → Substitution
step_done body = (body_at (below None (machine_with body)) 0 0).sub

-- ---- implementations
-- an implementation of M with this initialisation and these values, and these clauses
abbrev pub code_of : List RawClause → SubTree → List RawValue → RawComponent
code_of clauses init values = component AsImplementation (73 ∷ []) (Some (name_at 10 (77 ∷ [])))
    (clause Values 29 (clause_values values) ∷ started init ∷ stepping (takes_at 60 v_text x_text) ∷ clauses)

-- c = E
abbrev pub c_is : RawTree → RawValue
c_is e = record { name = name_at 30 c_text; value = e }

-- the same with these values
abbrev pub code_with : SubTree → List RawValue → RawComponent
code_with init values = code_of [] init values

-- the same with c = 5
abbrev pub code_doing : SubTree → RawComponent
code_doing init = code_with init (c_is (number 34 5) ∷ [])

-- D
abbrev pub d_text : List ℕ
d_text = 68 ∷ []

-- a deferred set D of this size
abbrev pub deferred : ℕ → SetEntry
deferred size = record { name = d_text; elements = []; size = size }

-- the development with that set
abbrev pub deferring : ℕ → Development → Development
deferring size dev = record dev { table = with_set dev.table (deferred size); sets = dev.sets ++ deferred size ∷ [] }

-- M, with that set
abbrev pub above_code : ℕ → Option Development
above_code size = Some (deferring size (below None machine_text))

-- what an implementation below them is answered that starts with v := a and has these values
abbrev pub deferred_verdict : ℕ → List RawValue → Verdict
deferred_verdict size values = verdict_of maxint (above_code size) (code_with (takes_at 40 v_text a_text) values)

-- D = 3
abbrev pub d_is : RawValue
d_is = record { name = name_at 36 d_text; value = number 38 3 }

-- f := (0 .. top) * {0}
abbrev pub filled_at : ℕ → ℕ → SubTree
filled_at at top = takes at f_text (infix_at at Times (up_to at top) (raw at (raw_extension (tree_and (number at 0) no_trees))))

-- an implementation of M with an array f : 0 .. 9 --> 0 .. 5, that starts with v := a and then this
abbrev pub array_code : SubTree → RawComponent
array_code init = code_of
    (clause ConcreteVariables 19 (clause_names (name_at 20 f_text ∷ [])) ∷
    clause Invariant 23 (clause_term (is_in 24 f_text (infix_at 26 TotalFunctions (up_to 26 9) (up_to 28 5)))) ∷ [])
    (sub 40 (sub_sequence (takes_at 40 v_text a_text) init)) (c_is (number 34 5) ∷ [])
