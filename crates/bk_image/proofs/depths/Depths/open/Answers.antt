use Rattle.std.proofs.Common.{refl, ◌+◌, ◌<◌, sym, subst, length, arith}
use Rattle.std.proofs.lemmas.Bool.{false≢true}
use Rattle.bk_image.specs.Progress.{progress, IsSettled}
use Rattle.bk_image.proofs.Starting.{Zero, grown_covers, grown_through}
use Rattle.bk_image.proofs.Opening.{progress_more, unknown_open, opened_known, settled_known, settled_unknown}
use Rattle.bk_image.proofs.depths.Depths.open.Goals as goal
use Rattle.bk_image.proofs.depths.Depths.open.Goals.{then-is_unknown+in_ok-start+in_ok-run, else-is_unknown}

pub run-requires-clause-progress : goal.run-requires-clause-progress
run-requires-clause-progress c =
    let image = c.args.image.now in
    let at = c.loop-at.at in
    let p = progress c.loop-at.self in
    let alone = unknown_open image at p c.loop-at.invariant (c.if-is_unknown.ensures.0 refl) in
    (at + 1, c.in_ok-start.ensures.progress image (at + 1) (progress_more image at (at + 1) p (omega arith) c.loop-at.invariant.progressing) (opened_known image at alone))

pub loop-at-preserved : goal.loop-at-preserved
loop-at-preserved c =
    let image = c.args.image.now in
    let at = c.loop-at.at in
    let p = progress c.loop-at.self in
    let lt = subst (λ code. at < length code) c.as_slice-at-end.ensures c.loop-at-test.true in
    elim c.if-is_unknown.branch [
      | then-is_unknown+in_ok-start+in_ok-run w ↦
          let alone = unknown_open image at p c.loop-at.invariant (w.if-is_unknown.ensures.0 refl) in
          let started = w.in_ok-start.ensures.progress image (at + 1) (progress_more image at (at + 1) p (omega arith) c.loop-at.invariant.progressing) (opened_known image at alone) in
          let known = w.run.new.self.known.items in
          subst (λ s. IsSettled image (at + 1) (progress s)) (sym w.self-is)
          (settled_unknown image at p (progress w.run.new.self) c.loop-at.invariant (w.in_ok-run.ensures.progress (at + 1) started) w.in_ok-run.ensures.done
          (grown_through p.known w.start.new.self.known.items known w.in_ok-start.ensures.grown w.in_ok-run.ensures.grown)
          (grown_covers w.start.new.self.known.items known at Zero w.in_ok-run.ensures.grown w.in_ok-start.ensures.covered))
      | else-is_unknown w ↦
          subst (λ s. IsSettled image (at + 1) (progress s)) (sym w.self-is) (settled_known image at p c.loop-at.invariant lt (λ e. false≢true (w.if-is_unknown.ensures.1 e)))
    ]
