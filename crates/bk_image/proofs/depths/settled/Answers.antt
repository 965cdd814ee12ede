use Rattle.bk_image.specs.Progress.{progress}
use Rattle.bk_image.proofs.Opening.{settled_first}
use Rattle.bk_image.proofs.depths.settled.Goals as goal

pub open-requires-clause-settled : goal.open-requires-clause-settled
open-requires-clause-settled c =
    settled_first c.args.image.now c.start_roots.new.self.known.items (progress c.run.new.self) (c.in_ok-run.ensures.progress 0 c.in_ok-start_roots.ensures.progress)
    c.in_ok-run.ensures.done c.in_ok-run.ensures.grown c.in_ok-start_roots.ensures.started
