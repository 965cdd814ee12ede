use Rattle.std.proofs.Common.{ℕ, List, ◌++◌, ◌∙◌, ap}
use Rattle.bk_goal.proofs.goal.rule_told.Goals as goal

pub returns : goal.returns
returns c =
    let misfit = c.in_ok-misfit.misfit.items in
    let last = c.in_ok-extend_from_slice.ensures.items ∙ ap (λ (xs : List ℕ). c.in_ok-text.text.items ++ xs) c.deref.ensures.value in
    record {
      length_written = c.in_ok-text.ensures.0;
      misfit = misfit;
      line = last ∙ ap (λ xs. xs ++ misfit) c.in_ok-text.ensures.1;
      told = c.in_ok-misfit.ensures;
    }
