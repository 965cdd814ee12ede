use Rattle.std.proofs.Common.{◌∙◌, subst}
use Rattle.std.proofs.lemmas.List.{append-nil}
use Rattle.bk_image.specs.Progress.{IsProgress, depth_at}
use Rattle.bk_image.proofs.Flowing.{covers_through}
use Rattle.bk_image.proofs.Following.{popped, popped_place}
use Rattle.bk_image.proofs.depths.Depths.run.Goals as goal

pub follow_place-requires-clause-place : goal.follow_place-requires-clause-place
follow_place-requires-clause-place c =
    let h = c.loop-at.invariant.kept c.requires.progress.0 c.requires.progress.1 in
    popped_place c.args.image.now c.requires.progress.0 c.loop-at.self.known.items c.pop.new.self.items c.in-Some.at
    (subst (λ work. IsProgress c.args.image.now c.requires.progress.0 (record { known = c.loop-at.self.known.items; work = work })) c.in-Some.ensures.items h)

pub follow_place-requires-clause-progress : goal.follow_place-requires-clause-progress
follow_place-requires-clause-progress c =
    let h = c.loop-at.invariant.kept c.requires.progress.0 c.requires.progress.1 in (
      c.requires.progress.0,
      popped c.args.image.now c.requires.progress.0 c.loop-at.self.known.items c.pop.new.self.items c.in-Some.at
          (subst (λ work. IsProgress c.args.image.now c.requires.progress.0 (record { known = c.loop-at.self.known.items; work = work })) c.in-Some.ensures.items h),
    )

pub loop-at-preserved : goal.loop-at-preserved
loop-at-preserved c = record {
  kept = λ limit old. c.in_ok-follow_place.ensures.progress limit
      (popped c.args.image.now limit c.loop-at.self.known.items c.pop.new.self.items c.in-Some.at
      (subst (λ work. IsProgress c.args.image.now limit (record { known = c.loop-at.self.known.items; work = work })) c.in-Some.ensures.items (c.loop-at.invariant.kept limit old)));
  grown = λ at. covers_through (depth_at c.follow_place.new.self.known.items at) (depth_at c.loop-at.self.known.items at) (depth_at c.args.self.now.known.items at)
      (c.in_ok-follow_place.ensures.grown at) (c.loop-at.invariant.grown at);
}

pub returns-clause-progress : goal.returns-clause-progress
returns-clause-progress c limit old =
    subst (λ work. IsProgress c.args.image.now limit (record { known = c.loop-at.self.known.items; work = work })) (c.in_default.ensures.items ∙ append-nil c.pop.new.self.items) (c.loop-at.invariant.kept limit old)
