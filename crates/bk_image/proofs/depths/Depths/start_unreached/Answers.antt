use Rattle.std.proofs.Common.{◌∙◌, ◌+◌, sym, subst, true, false}
use Rattle.std.proofs.lemmas.List.{get_or_default}
use Rattle.std.proofs.lemmas.Bool.{false≢true}
use Rattle.bk_image.specs.declared.depths.Depths.{Depths}
use Rattle.bk_image.specs.Progress.{progress, IsProgress, IsGrown, AreStartedBelow}
use Rattle.bk_image.proofs.Flowing.{covers_itself}
use Rattle.bk_image.proofs.Starting.{grown_through, root_known, unreached_root, started_more}
use Rattle.bk_image.proofs.depths.Depths.start_unreached.Goals as goal
use Rattle.bk_image.proofs.depths.Depths.start_unreached.Goals.{then-not-reached-at+in_ok-start, else-not-reached-at}

pub loop-at-preserved : goal.loop-at-preserved
loop-at-preserved c =
    let image = c.args.image.now in
    let reached = c.args.reached.now in
    let n = c.loop-at.at in
    let old = c.loop-at.self.known.items in
    let P : Depths → Type 0 = λ s. record { progressing : IsProgress image 0 (progress s); grown : IsGrown c.args.self.now.known.items s.known.items; started : AreStartedBelow reached (n + 1) s.known.items } in
    elim c.if-not-reached-at.branch [
      | then-not-reached-at+in_ok-start w ↦
          let new = w.start.new.self.known.items in
          let unmarked = get_or_default reached n true false c.loop-at-test.true ∙ w.if-not-reached-at.true in
          subst P (sym w.self-is) (record {
            progressing = w.in_ok-start.ensures.progress image 0 c.loop-at.invariant.progressing (root_known image 0 n (unreached_root image reached n c.requires.reached c.loop-at-test.true unmarked));
            grown = grown_through c.args.self.now.known.items old new c.loop-at.invariant.grown w.in_ok-start.ensures.grown;
            started = started_more reached n old new c.loop-at.invariant.started w.in_ok-start.ensures.grown (λ _. w.in_ok-start.ensures.covered);
          })
      | else-not-reached-at w ↦
          let marked = get_or_default reached n true false c.loop-at-test.true ∙ w.if-not-reached-at.false in
          subst P (sym w.self-is) (record {
            progressing = c.loop-at.invariant.progressing;
            grown = c.loop-at.invariant.grown;
            started = started_more reached n old old c.loop-at.invariant.started (λ at. covers_itself _) (λ unmarked. absurd (false≢true (sym unmarked ∙ marked)));
          })
    ]
