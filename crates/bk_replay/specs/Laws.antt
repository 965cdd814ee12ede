-- What is shown of standings.
use Rattle.std.specs.Prelude.{◌≡◌, ℕ, List, length}
use Rattle.bk_form.specs.Table.{Table}
use Rattle.bk_seq.specs.Sequents.{Sequent}
use Rattle.bk_kernel.specs.Derivations.{IsVerdict}
use Rattle.bk_kernel.specs.declared.rule.Rule.{Rule}
use Rattle.bk_replay.specs.Standing.{AreOpenAfter, IsFurthest, verdict_at}

-- a number of rules leaves one list of sequents at most
abbrev pub OpenIsOne : Type 0
OpenIsOne = (table : Table) (rules : List Rule) (s : Sequent) (k : ℕ) (left other : List Sequent) →
    AreOpenAfter table rules s k left → AreOpenAfter table rules s k other → left ≡ other

-- rules go as far as they go
abbrev pub FurthestIsOne : Type 0
FurthestIsOne = (table : Table) (rules : List Rule) (s : Sequent) (k j : ℕ) (left other : List Sequent) →
    IsFurthest table rules s k left → IsFurthest table rules s j other → (k ≡ j) × (left ≡ other)

-- the verdict of the kernel is that of how far they go
abbrev pub VerdictIsOfStanding : Type 0
VerdictIsOfStanding = (table : Table) (rules : List Rule) (s : Sequent) (k : ℕ) (left : List Sequent) →
    IsFurthest table rules s k left → IsVerdict table rules s (verdict_at (length rules) k (length left))
