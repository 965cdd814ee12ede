use Rattle.bk_image.specs.Progress.{progress, IsProgress, IsGrown, EntriesStartBelow}
use Rattle.bk_image.proofs.depths.Depths.start_entries.Given as goal

abbrev pub invariant-loop-entry : goal.invariant-loop-entry
invariant-loop-entry l = record {
  progressing : IsProgress l.image 0 (progress l.self);
  grown : IsGrown l.fn.self.known.items l.self.known.items;
  started : EntriesStartBelow l.image l.entry-index l.self.known.items;
}
