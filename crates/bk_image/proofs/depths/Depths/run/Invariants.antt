use Rattle.std.proofs.Common.{ℕ}
use Rattle.bk_image.specs.Progress.{progress, IsProgress, IsGrown, left}
use Rattle.bk_image.proofs.depths.Depths.run.Given as goal

abbrev pub decreases-loop-at : goal.decreases-loop-at
decreases-loop-at l = left (progress l.self)

abbrev pub invariant-loop-at : goal.invariant-loop-at
invariant-loop-at l = record {
  kept : (limit : ℕ) → IsProgress l.image limit (progress l.fn.self) → IsProgress l.image limit (progress l.self);
  grown : IsGrown l.fn.self.known.items l.self.known.items;
}
