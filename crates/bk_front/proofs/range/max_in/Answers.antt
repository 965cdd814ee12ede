use Rattle.std.proofs.Common.{◌≡◌, ℕ, ℤ, List, Option, MatchOption, sym, subst}
use Rattle.bk_front.specs.ProjectFile.{max_in, IsRangeText}
use Rattle.bk_front.proofs.RangeText.{few_bits, max_told}
use Rattle.bk_front.proofs.range.max_in.Goals as goal

pub returns-in_err-number : goal.returns-in_err-number
returns-in_err-number c =
    let text : List ℕ = c.args.text.now in
    subst (λ (o : Option ℤ). MatchOption o (IsRangeText text → ⊥) (λ max. IsRangeText text × (max ≡ max_in text))) (sym c.from_residual.ensures)
    (λ range. c.in_err-number.ensures range.digits (few_bits text range))

pub returns : goal.returns
returns c = max_told c.args.text.now c.in_ok-number.number c.max_of.result c.in_ok-number.ensures.0 c.in_ok-number.ensures.1 c.max_of.ensures
