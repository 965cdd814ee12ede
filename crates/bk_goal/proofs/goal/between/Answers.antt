use Rattle.std.proofs.Common.{ℕ, List, ◌++◌, ◌∙◌, ap}
use Rattle.bk_goal.proofs.Lines.{joined}
use Rattle.bk_goal.proofs.goal.between.Goals as goal

pub returns : goal.returns
returns c =
    let shown = c.in_ok-shown.shown.items in
    let second = c.in_ok-extend_from_slice.ensures.items ∙ ap (λ (xs : List ℕ). c.in_ok-text.text.items ++ xs) c.deref.ensures.value in
    record {
      shown_text = shown;
      shows = c.in_ok-shown.ensures;
      whole = joined c.in_ok-text.text.items c.extend_from_slice.new.self.items c.extend_from_slice-2.new.self.items c.args.before.now shown c.args.behind.now c.in_ok-text.ensures.items second c.in_ok-extend_from_slice-2.ensures.items;
    }
