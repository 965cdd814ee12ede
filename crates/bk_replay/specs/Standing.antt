-- How far a list of rules goes on a sequent. What rules leave is Leaves of bk_kernel: each rule in order is a step on the first open
-- sequent, whose results stand in its place.
use Rattle.std.specs.Prelude.{◌≡◌, ◌<◌, ◌+◌, ◌⊎◌, ℕ, zero, suc, nat_lt, cond, List, [], ◌∷◌, take, length, Some}
use Rattle.bk_form.specs.Table.{Table}
use Rattle.bk_seq.specs.Paths.{numbered_item}
use Rattle.bk_seq.specs.Sequents.{Sequent}
use Rattle.bk_kernel.specs.Derivations.{Leaves}
use Rattle.bk_kernel.specs.Standing.{at_end}
use Rattle.bk_kernel.specs.Rules.{IsInstance}
use Rattle.bk_kernel.specs.declared.rule.Rule.{Rule}
use Rattle.bk_kernel.specs.declared.replaying.Verdict.{Verdict}
use Rattle.bk_kernel.specs.declared.replaying.Verdict.TheVariants.{BadStep, Extra}

-- these are the sequents that are left after the first k rules
abbrev pub AreOpenAfter : Table → List Rule → Sequent → ℕ → List Sequent → Type 0
AreOpenAfter table rules s k left = Leaves table (s ∷ []) (take k rules) left

-- rule k + 1 is no step on the first of them
pub record StopsAt (table : Table) (rules : List Rule) (k : ℕ) (left : List Sequent) : Type 0 where
  pub rule : Rule
  pub first : Sequent
  pub others : List Sequent
  pub is_rule : numbered_item rules (k + 1) ≡ Some rule
  pub in_front : left ≡ first ∷ others
  pub no_instance : (news : List Sequent) → IsInstance table first rule news → ⊥

-- the first k rules are steps and leave these, and no further rule is one: none is there, none of them is open, or the next does not fit
pub record IsFurthest (table : Table) (rules : List Rule) (s : Sequent) (k : ℕ) (left : List Sequent) : Type 0 where
  pub after : AreOpenAfter table rules s k left
  pub further : (k ≡ length rules) ⊎ ((k < length rules) × ((left ≡ []) ⊎ StopsAt table rules k left))

-- ---- verdicts
-- the verdict before a further rule, where so many rules are steps and so many sequents are left
abbrev pub at_rule : ℕ → ℕ → Verdict
at_rule k zero = Extra (k + 1)
at_rule k (suc n) = BadStep (k + 1)

-- of a number of rules, of which k are steps, with so many sequents left
abbrev pub verdict_at : ℕ → ℕ → ℕ → Verdict
verdict_at rules k left = cond (nat_lt k rules) (at_rule k left) (at_end left)
