use Rattle.std.proofs.Common.{ℕ, List, ◌++◌, ◌∙◌, ap, codes, refl, subst}
use Rattle.bk_goal.specs.Shown.{ShowsHypotheses}
use Rattle.bk_goal.proofs.Lines.{joined}
use Rattle.bk_goal.proofs.sequents.sequent_text.Goals as goal

pub returns : goal.returns
returns c =
    let hypotheses = c.in_ok-text.text.items in
    let shown = c.in_ok-goal.goal.items in
    let last = c.in_ok-extend_from_slice-2.ensures.items ∙ ap (λ (xs : List ℕ). c.extend_from_slice.new.self.items ++ xs) c.deref-2.ensures.value in
    record {
      hypotheses = hypotheses;
      goal = shown;
      shows_hypotheses = subst (λ fs. ShowsHypotheses c.args.table.now c.args.old 1 fs hypotheses) c.deref.ensures.value c.in_ok-text.ensures;
      shows_goal = c.in_ok-goal.ensures;
      whole = joined hypotheses c.extend_from_slice.new.self.items c.extend_from_slice-2.new.self.items hypotheses (codes "  goal: ") shown refl c.in_ok-extend_from_slice.ensures.items last;
    }
