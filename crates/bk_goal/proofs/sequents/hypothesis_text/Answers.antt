use Rattle.std.proofs.Common.{ℕ, List, ◌≡◌, ◌++◌, ◌∙◌, ap, codes, subst}
use Rattle.std.specs.Prelude.{decimal}
use Rattle.bk_goal.proofs.Lines.{joined}
use Rattle.bk_goal.proofs.sequents.hypothesis_text.Goals as goal

pub returns : goal.returns
returns c =
    let mark = c.mark_of-mark.result.now in
    let formula = c.in_ok-formula.formula.items in
    let last = c.in_ok-extend_from_slice-2.ensures.items ∙ ap (λ (xs : List ℕ). c.extend_from_slice.new.self.items ++ xs) c.deref.ensures.value in
    record {
      formula = formula;
      shows = c.in_ok-formula.ensures;
      line = subst (λ m. c.extend_from_slice-2.new.self.items ≡ (m ++ decimal c.args.number) ++ codes ": " ++ formula) c.mark_of-mark.ensures (joined c.in_ok-text.text.items c.extend_from_slice.new.self.items c.extend_from_slice-2.new.self.items (mark ++ decimal c.args.number) (codes ": ") formula c.in_ok-text.ensures c.in_ok-extend_from_slice.ensures.items last);
    }
