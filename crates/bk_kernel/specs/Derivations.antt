-- Lists of rules: what they leave open, and what is said of them.
-- Source: B-Book, proof.
use Rattle.std.specs.Prelude.{◌≡◌, ◌<◌, ◌-◌, ◌^◌, ℕ, min, List, [], ◌∷◌, ◌++◌, take, length, Some}
use Rattle.bk_form.specs.Table.{Table}
use Rattle.bk_seq.specs.Paths.{numbered_item}
use Rattle.bk_kernel.specs.declared.rule.Rule.{Rule}
use Rattle.bk_kernel.specs.declared.replaying.Verdict.{Verdict}
use Rattle.bk_kernel.specs.declared.replaying.Verdict.TheVariants.{Closed, BadStep, Open, Extra}
use Rattle.bk_seq.specs.Sequents.{Sequent}
use Rattle.bk_kernel.specs.Rules.{IsInstance}

-- each rule in order is a step on the first open sequent, whose results stand in its place; these are left in the end
abbrev pub Leaves : Table → List Sequent → List Rule → List Sequent → Type 0
Leaves table claims [] left = claims ≡ left
Leaves table [] (r ∷ rs) left = ⊥
Leaves table (s ∷ claims) (r ∷ rs) left = (news : List Sequent) × IsInstance table s r news × Leaves table (news ++ claims) rs left

-- the rules prove the sequent: none is left open, and no rule is left over
abbrev pub Derives : Table → List Rule → Sequent → Type 0
Derives table rules s = Leaves table (s ∷ []) rules []

-- rule k, from 1, is no step on the first sequent that the rules before it leave
pub record FailsAt (table : Table) (rules : List Rule) (s : Sequent) (k : ℕ) : Type 0 where
  pub rule : Rule
  pub first : Sequent
  pub others : List Sequent
  pub is_rule : numbered_item rules k ≡ Some rule
  pub before : Leaves table (s ∷ []) (take (k - 1) rules) (first ∷ others)
  pub no_instance : (news : List Sequent) → IsInstance table first rule news → ⊥

-- all rules are steps, and this many sequents are left, at least one; a count past 32 bits stands at their greatest number
pub record StaysOpen (table : Table) (rules : List Rule) (s : Sequent) (n : ℕ) : Type 0 where
  pub left : List Sequent
  pub after : Leaves table (s ∷ []) rules left
  pub some : 0 < length left
  pub counted : n ≡ min (length left) (2 ^ 32 - 1)

-- none is left before rule k
pub record EndsBefore (table : Table) (rules : List Rule) (s : Sequent) (k : ℕ) : Type 0 where
  pub rule : Rule
  pub is_rule : numbered_item rules k ≡ Some rule
  pub before : Leaves table (s ∷ []) (take (k - 1) rules) []

-- what is said of a list of rules and a sequent
abbrev pub IsVerdict : Table → List Rule → Sequent → Verdict → Type 0
IsVerdict table rules s Closed = Derives table rules s
IsVerdict table rules s (BadStep k) = FailsAt table rules s k
IsVerdict table rules s (Open n) = StaysOpen table rules s n
IsVerdict table rules s (Extra k) = EndsBefore table rules s k
