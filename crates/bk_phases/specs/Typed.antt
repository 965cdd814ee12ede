-- When a resolved substitution types: what its places ask of its terms, and what its names and terms have.
-- Source: B-Book, type checking.
use Rattle.std.specs.Prelude.{◌≡◌, List, [], ◌∷◌, Some}
use Rattle.bk_val.specs.ValueType.{ValueType}
use Rattle.bk_form.specs.Each.{Each}
use Rattle.bk_form.specs.Table.{Table}
use Rattle.bk_gsl.specs.Typed.{Types as TypesIn}
use Rattle.bk_raw.specs.Meaning.Speaking.{AreTyped}
use Rattle.bk_raw.specs.Trees.SubTree.{SubTree}
use Rattle.bk_statics.specs.Typings.{Target, variable_target, typed, type_at}
use Rattle.bk_statics.specs.Settled.{IsSettled, AreOf}
use Rattle.bk_phases.specs.Scope.{Local, Written}
use Rattle.bk_phases.specs.Term.{Term, a_predicate, a_number, value_for, domain_for, index_for, element_for}
use Rattle.bk_phases.specs.Statement.{Statement, assign_at, update_at, member_at, such_at, pre_at, assert_at, if_at, guard_at, any_at}
use Rattle.bk_phases.specs.Statement.{loop_at, within, own_terms, left_names, binding_list}
use Rattle.bk_phases.specs.Resolve.{Scope, resolved}
use Rattle.bk_phases.specs.Types.{Types}
use Rattle.bk_phases.specs.Formulas.{untyped_in}
use Rattle.bk_phases.specs.Resolved.{Resolved}
use Rattle.bk_phases.specs.Parts.{statements, terms}
use Rattle.bk_phases.specs.NoType.{without_type}
use Rattle.bk_phases.specs.Writes.{is_writable, wrong_write, wrong_writes}
use Rattle.bk_phases.specs.LevelOf.{elaborated}
use Rattle.bk_phases.specs.Scoping.{IsVariableOf}

-- ---- what places ask
-- of x, y := E, F: each term for its variable
abbrev pub AskValues : List Written → List Term → Type 0
AskValues (x ∷ xs) (e ∷ es) = (e.wanted ≡ value_for x.target) × AskValues xs es
AskValues _ _ = Unit {0}

-- the places of a substitution's own terms ask this of them
abbrev pub AsksRight : Statement → Type 0
AsksRight (assign_at at xs es) = AskValues xs es
AsksRight (update_at at f e v) = (e.wanted ≡ index_for f) × (v.wanted ≡ element_for f)
AsksRight (member_at at x z e) = e.wanted ≡ domain_for x.target
AsksRight (such_at at xs p) = p.wanted ≡ a_predicate
AsksRight (pre_at at p s) = p.wanted ≡ a_predicate
AsksRight (assert_at at p s) = p.wanted ≡ a_predicate
AsksRight (if_at at p s t) = p.wanted ≡ a_predicate
AsksRight (guard_at at p s) = p.wanted ≡ a_predicate
AsksRight (any_at at xs p s) = p.wanted ≡ a_predicate
AsksRight (loop_at at p s i v) = (p.wanted ≡ a_predicate) × (i.wanted ≡ a_predicate) × (v.wanted ≡ a_number)
AsksRight _ = Unit {0}

-- so it is of every substitution, and of all that stand in it
abbrev pub PlacesAsk : Type 0
PlacesAsk = (c : Scope) (s : SubTree) → Each AsksRight (within (resolved c s))

-- ---- what has types
-- a term whose names are those of the table and have types, and in which nothing is without a type
pub record IsTypedTerm (types : Types) (table : Table) (t : Term) : Type 0 where
  pub of : AreOf table t.names
  pub names : AreTyped (typed types.of t.names)
  pub right : untyped_in types t ≡ []

-- a variable with a type
abbrev pub IsTypedVariable : Types → Target → Type 0
IsTypedVariable types (variable_target n) = (t : ValueType) × (types.of n ≡ Some t)
IsTypedVariable types _ = ⊥

-- the value of a written name has its type
abbrev pub HasTypeOf : Types → Written → Local → Type 0
HasTypeOf types x z = types.of z.number ≡ type_at types.of x.target

-- so have all that a substitution itself binds for values of its names
abbrev pub InnerHaveTypes : Types → Statement → Type 0
InnerHaveTypes types (member_at at x z e) = HasTypeOf types x z
InnerHaveTypes types (such_at at xs p) = Each (λ (x : Written × Local). HasTypeOf types x.0 x.1) xs
InnerHaveTypes types _ = Unit {0}

-- a substitution, but for what stands in it: its terms, the variables that it writes and the names that it binds have types
pub record IsTypedHere (types : Types) (table : Table) (s : Statement) : Type 0 where
  pub terms : Each (IsTypedTerm types table) (own_terms s)
  pub left : Each (λ (x : Written). IsTypedVariable types x.target) (left_names s)
  pub bound : Each (λ (x : Local). (t : ValueType) × (types.of x.number ≡ Some t)) (binding_list s)
  pub inner : InnerHaveTypes types s

-- such a substitution types in the table, where its places ask what they do
abbrev pub StatementsType : Type 0
StatementsType = (types : Types) (table : Table) → IsSettled table types.of → (s : Statement) →
    Each AsksRight (within s) → Each (IsTypedHere types table) (within s) → TypesIn table (elaborated types s)

-- ---- what no fault says
-- a substitution, but for what stands in it, writes different variables that may be written
pub record IsRightWritten (r : Resolved) (s : Statement) : Type 0 where
  pub left : Each (λ (x : Written). IsVariableOf (is_writable r) x.target) (left_names s)
  pub writes : wrong_write s ≡ []

-- where no phase has found a fault of writes, or of types, so it is of all substitutions, and all terms have types
pub record PhasesFoundNone : Type 0 where
  pub writes : (r : Resolved) → wrong_writes r ≡ [] → Each (IsRightWritten r) (statements r)
  pub types : (types : Types) (r : Resolved) → without_type types r ≡ [] → Each (λ (t : Term). untyped_in types t ≡ []) (terms r)
