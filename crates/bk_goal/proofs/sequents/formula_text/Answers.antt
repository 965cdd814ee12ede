use Rattle.std.proofs.Common.{ℕ, List, ◌++◌, codes, refl, subst, ◌∙◌, ap}
use Rattle.bk_layout.specs.Laid.{IsLaidOut}
use Rattle.bk_goal.proofs.Lines.{joined}
use Rattle.bk_goal.proofs.sequents.formula_text.Goals as goal

pub returns : goal.returns
returns c =
    let laid = c.in_ok-text.text.items in
    let names = c.in_ok-names.names.items in
    let last = c.in_ok-extend_from_slice-2.ensures.items ∙ ap (λ (xs : List ℕ). c.extend_from_slice.new.self.items ++ xs) c.deref-2.ensures.value in
    record {
      laid = laid;
      is_laid = subst (λ t. IsLaidOut t laid) (c.deref.ensures.value ∙ c.in_ok-shown.ensures) c.in_ok-text.ensures.laid;
      names = names;
      tells = c.in_ok-names.ensures;
      ends = joined laid c.extend_from_slice.new.self.items c.extend_from_slice-2.new.self.items laid (codes "\n") names refl c.in_ok-extend_from_slice.ensures.items last;
    }
