use Rattle.bk_image.specs.Progress.{progress, IsProgress, IsGrown, AreStartedBelow}
use Rattle.bk_image.proofs.depths.Depths.start_unreached.Given as goal

abbrev pub invariant-loop-at : goal.invariant-loop-at
invariant-loop-at l = record {
  progressing : IsProgress l.image 0 (progress l.self);
  grown : IsGrown l.fn.self.known.items l.self.known.items;
  started : AreStartedBelow l.reached l.at l.self.known.items;
}
