-- Components of the B notation as they are written, as mathematical trees.
-- Source: B Language Reference Manual.
use Rattle.std.specs.Prelude.{ℕ, List, map, Option, Bool, true, false, ◌||◌, nat_eq, nat_lt}
use Rattle.bk_form.specs.declared.token.TokenKind.{TokenKind}
use Rattle.bk_raw.specs.Grammar.Brackets.{is_word}
use Rattle.bk_raw.specs.Trees.RawTree.{RawTree, tree_height}
use Rattle.bk_raw.specs.declared.term.RawName.{RawName}
use Rattle.bk_ops.specs.declared.word.TheConstants.{MACHINE, REFINEMENT, IMPLEMENTATION, SETS, CONSTANTS, CONCRETE_CONSTANTS}
use Rattle.bk_ops.specs.declared.word.TheConstants.{PROPERTIES, VARIABLES, ABSTRACT_VARIABLES, CONCRETE_VARIABLES, INVARIANT}
use Rattle.bk_ops.specs.declared.word.TheConstants.{ASSERTIONS, VALUES, INITIALISATION, OPERATIONS, END, IMPORTS}
use Rattle.bk_raw.specs.Trees.Numbers.{greatest}
use Rattle.bk_raw.specs.Trees.SubTree.{SubTree, sub_height}
use Rattle.bk_raw.specs.declared.component.ComponentKind.{ComponentKind}
use Rattle.bk_raw.specs.declared.component.ComponentKind.TheVariants.{Machine, Refinement, Implementation}
use Rattle.bk_raw.specs.declared.component.ClauseWord.{ClauseWord}
use Rattle.bk_raw.specs.declared.component.ClauseWord.TheVariants.{Sets, Constants, ConcreteConstants, Properties, Variables}
use Rattle.bk_raw.specs.declared.component.ClauseWord.TheVariants.{AbstractVariables, ConcreteVariables, Invariant}
use Rattle.bk_raw.specs.declared.component.ClauseWord.TheVariants.{Assertions, Values, Initialisation, Operations, Imports}
use Rattle.bk_raw.specs.declared.component.RawValue.{RawValue}

-- a set with its elements; none where it is a name alone
pub record RawSet : Type 0 where
  pub name : RawName
  pub elements : List RawName

-- outs <-- name(ins) = body
pub record RawOperation : Type 0 where
  pub outputs : List RawName
  pub name : RawName
  pub inputs : List RawName
  pub body : SubTree

-- what stands after a clause's word
pub data ClauseParts : Type 0 where
  clause_sets : List RawSet → ClauseParts
  clause_names : List RawName → ClauseParts
  clause_term : RawTree → ClauseParts
  clause_terms : List RawTree → ClauseParts
  clause_values : List RawValue → ClauseParts
  clause_sub : SubTree → ClauseParts
  clause_operations : List RawOperation → ClauseParts

-- a clause: its word, the byte where it starts, and its parts
pub record RawClause : Type 0 where
  pub word : ClauseWord
  pub at : ℕ
  pub parts : ClauseParts

-- a component: the byte where it starts, its kind, its name, what it refines, and its clauses in the order of the text
pub record RawComponent : Type 0 where
  pub at : ℕ
  pub kind : ComponentKind
  pub name : RawName
  -- what it refines; a machine nothing
  pub refines : Option RawName
  pub clauses : List RawClause

-- ---- words
-- the number of the word that begins a component
abbrev pub kind_number : ComponentKind → ℕ
kind_number Machine = MACHINE
kind_number Refinement = REFINEMENT
kind_number Implementation = IMPLEMENTATION

-- the number of a clause's word
abbrev pub word_number : ClauseWord → ℕ
word_number Sets = SETS
word_number Constants = CONSTANTS
word_number ConcreteConstants = CONCRETE_CONSTANTS
word_number Properties = PROPERTIES
word_number Variables = VARIABLES
word_number AbstractVariables = ABSTRACT_VARIABLES
word_number ConcreteVariables = CONCRETE_VARIABLES
word_number Invariant = INVARIANT
word_number Assertions = ASSERTIONS
word_number Values = VALUES
word_number Initialisation = INITIALISATION
word_number Operations = OPERATIONS
word_number Imports = IMPORTS

-- the number of the clause: CONSTANTS and CONCRETE_CONSTANTS are one clause, and so are VARIABLES and ABSTRACT_VARIABLES
abbrev pub clause_number : ClauseWord → ℕ
clause_number ConcreteConstants = CONSTANTS
clause_number AbstractVariables = VARIABLES
clause_number word = word_number word

-- whether a component of the kind has the clause: an implementation has no VARIABLES, and alone has VALUES. IMPORTS is a
-- clause of implementations that is not read yet: no component has it
abbrev pub is_allowed : ComponentKind → ClauseWord → Bool
is_allowed Implementation Variables = false
is_allowed Implementation AbstractVariables = false
is_allowed Implementation Imports = false
is_allowed Implementation word = true
is_allowed kind Values = false
is_allowed kind Imports = false
is_allowed kind word = true

-- whether a token is a word that begins a component or a clause, or REFINES: their numbers are those below the one of END, and
-- that of IMPORTS
abbrev pub is_component_word : TokenKind → Bool
is_component_word = is_word (λ op. nat_lt op END || nat_eq op IMPORTS)

-- ---- heights
-- the height of the highest term or substitution of a clause; a clause and an operation are no nodes
abbrev pub parts_height : ClauseParts → ℕ
parts_height (clause_sets ss) = 0
parts_height (clause_names xs) = 0
parts_height (clause_term t) = tree_height t
parts_height (clause_terms ts) = greatest (map tree_height ts)
parts_height (clause_values vs) = greatest (map (λ v. tree_height v.value) vs)
parts_height (clause_sub s) = sub_height s
parts_height (clause_operations os) = greatest (map (λ o. sub_height o.body) os)

-- that of a component
abbrev pub component_height : RawComponent → ℕ
component_height c = greatest (map (λ d. parts_height d.parts) c.clauses)
