-- Laws of the rules, as statements.
use Rattle.std.specs.Prelude.{◌≡◌, List}
use Rattle.bk_form.specs.Table.{Table, IsWellFormed}
use Rattle.bk_form.specs.Wider.{IsWider}
use Rattle.bk_kernel.specs.declared.rule.Rule.{Rule}
use Rattle.bk_kernel.specs.declared.replaying.Verdict.{Verdict}
use Rattle.bk_seq.specs.Sequents.{Sequent, Types, IsValidSequent, IsValidForAllSizes}
use Rattle.bk_form.specs.Each.{Each}
use Rattle.bk_kernel.specs.Rules.{IsInstance}
use Rattle.bk_kernel.specs.Derivations.{Derives, IsVerdict}

-- a rule makes one list of sequents of a sequent
abbrev pub RulesAreFunctions : Type 0
RulesAreFunctions = (table : Table) (s : Sequent) (rule : Rule) (news others : List Sequent) →
    IsInstance table s rule news → IsInstance table s rule others → news ≡ others

-- a sequent is valid where all that come of it by a step are
abbrev pub RulesAreSound : Type 0
RulesAreSound = (table : Table) → IsWellFormed table → (s : Sequent) (rule : Rule) (news : List Sequent) →
    Types table s → IsInstance table s rule news → Each (IsValidSequent table) news → IsValidSequent table s

-- what is derived is valid
abbrev pub DerivedIsValid : Type 0
DerivedIsValid = (table : Table) → IsWellFormed table → (rules : List Rule) (s : Sequent) →
    Types table s → Derives table rules s → IsValidSequent table s

-- the rules derive a sequent of the small table over one with more variables, as the names of a script are
pub record DerivesWider (small large : Table) (rules : List Rule) (s : Sequent) : Type 0 where
  pub small_formed : IsWellFormed small
  pub large_formed : IsWellFormed large
  pub wider : IsWider small large
  pub types : Types small s
  pub derives : Derives large rules s

-- what is derived over a table with more variables, as the names of a script are, is valid without them
abbrev pub DerivedWiderIsValid : Type 0
DerivedWiderIsValid = (small large : Table) (rules : List Rule) (s : Sequent) → DerivesWider small large rules s → IsValidSequent small s

-- one thing is said of a list of rules and a sequent
abbrev pub OneVerdict : Type 0
OneVerdict = (table : Table) (rules : List Rule) (s : Sequent) (v w : Verdict) →
    IsVerdict table rules s v → IsVerdict table rules s w → v ≡ w

-- ---- sets without sizes
-- the same of validity for all sizes: a step and a derivation over a table are ones with any sizes
pub record SoundForAllSizes : Type 0 where
  pub steps : (table : Table) → IsWellFormed table → (s : Sequent) (rule : Rule) (news : List Sequent) →
      Types table s → IsInstance table s rule news → Each (IsValidForAllSizes table) news → IsValidForAllSizes table s
  pub derived : (table : Table) → IsWellFormed table → (rules : List Rule) (s : Sequent) →
      Types table s → Derives table rules s → IsValidForAllSizes table s
  pub wider : (small large : Table) (rules : List Rule) (s : Sequent) → DerivesWider small large rules s → IsValidForAllSizes small s
