use Rattle.bk_arith.specs.Same.{is_same}
use Rattle.bk_arith.proofs.SameFormula.{same-then, same-if}
use Rattle.bk_form.proofs.Members.{both_ways}
use Rattle.bk_arith.proofs.occurrence.same.Goals as goal

pub returns : goal.returns
returns c =
    let a = c.args.left.now in
    let b = c.args.right.now in
    both_ways c.equal.result (is_same a b) (λ h. same-if a b (c.equal.ensures.0 h)) (λ h. c.equal.ensures.1 (same-then a b h))
