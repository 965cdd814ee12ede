-- What is shown of what terms read as.
use Rattle.std.specs.Prelude.{◌≡◌, ℕ, ℤ, Bool, List, [], Some}
use Rattle.bk_val.specs.ValueType.{ValueType}
use Rattle.bk_form.specs.Table.{Table, IsWellFormed}
use Rattle.bk_form.specs.Formula.{Formula}
use Rattle.bk_form.specs.Role.{role}
use Rattle.bk_form.specs.Wider.{IsTypedRole}
use Rattle.bk_form.specs.declared.token.Token.{Token}
use Rattle.bk_raw.specs.Trees.RawTree.{RawTree}
use Rattle.bk_raw.specs.Grammar.Spelling.{Spells}
use Rattle.bk_raw.specs.Meaning.Names.{Names, Agree}
use Rattle.bk_raw.specs.Meaning.TermReading.{reading, is_predicate}
use Rattle.bk_raw.specs.Meaning.RightReading.{IsRight}
use Rattle.bk_raw.specs.Meaning.Speaking.{AreTyped, Fits, IsTold}
use Rattle.bk_raw.specs.Meaning.Built.{NamesHave, OutcomeHas, IsVisible}
use Rattle.bk_raw.specs.Meaning.ScopeReading.{ScopeNames, names_in, formula_in}

-- ---- readings under names
-- where the names agree with a table and with types of bound variables, what is told of a term is its formula's role, and the
-- types that are told have only sets of the table
abbrev pub ReadingsAreRight : Type 0
ReadingsAreRight =
    (int_max : ℤ) (table : Table) (around : List ValueType) (names : Names) →
    Agree table around names → (t : RawTree) → IsRight table around (reading int_max names t).outcome

-- where all names have types, a term without a fault has a formula of the kind that its form says
abbrev pub ReadingsSpeak : Type 0
ReadingsSpeak =
    (int_max : ℤ) (names : Names) → AreTyped names → (t : RawTree) →
    (reading int_max names t).faults ≡ [] → Fits (is_predicate t) (reading int_max names t).outcome

-- what has a fault tells nothing
abbrev pub FaultsAreSilent : Type 0
FaultsAreSilent = (int_max : ℤ) (names : Names) (t : RawTree) →
    IsTold (reading int_max names t).outcome → (reading int_max names t).faults ≡ []

-- where only some variables are visible by their names, only these stand in what is told
abbrev pub ReadingsNameVisible : Type 0
ReadingsNameVisible =
    (int_max : ℤ) (visible : ℕ → Bool) (names : Names) → NamesHave (IsVisible visible) names →
    (t : RawTree) → OutcomeHas (IsVisible visible) (reading int_max names t).outcome

-- ---- terms by themselves
-- the names in scope of a term by itself are those of the table, and all have types
pub record ScopesAgree : Type 0 where
  pub agree : (table : Table) → IsWellFormed table → (scope : ScopeNames) → Agree table [] (names_in table scope)
  pub typed : (table : Table) (scope : ScopeNames) → AreTyped (names_in table scope)

-- the formula that a term reads as types in the table, with no loose bound number
abbrev pub FormulasType : Type 0
FormulasType =
    (table : Table) → IsWellFormed table → (scope : ScopeNames) (t : RawTree) (f : Formula) →
    (formula_in table scope t).answer ≡ Some f → IsTypedRole (role table [] f)

-- a term has a formula exactly where it has no fault
pub record FormulaOrFault : Type 0 where
  pub formula : (table : Table) (scope : ScopeNames) (t : RawTree) →
      (formula_in table scope t).faults ≡ [] → (f : Formula) × ((formula_in table scope t).answer ≡ Some f)
  pub no_fault : (table : Table) (scope : ScopeNames) (t : RawTree) (f : Formula) →
      (formula_in table scope t).answer ≡ Some f → (formula_in table scope t).faults ≡ []

-- tokens are at most one formula in a scope, and have one list of faults
abbrev pub TokensReadOnce : Type 0
TokensReadOnce =
    (table : Table) (scope : ScopeNames) (tokens : List Token) (one other : RawTree) →
    Spells one tokens → Spells other tokens → formula_in table scope one ≡ formula_in table scope other
