use Rattle.bk_form.specs.Role.{same_type}
use Rattle.bk_form.proofs.Members.{both_ways}
use Rattle.bk_form.proofs.Roles.{same_type-then}
use Rattle.bk_kernel.proofs.SameTypes.{same_type-if}
use Rattle.bk_kernel.proofs.roles.same_type.Goals as goal

pub returns : goal.returns
returns c =
    let a = c.args.one.now in
    let b = c.args.other.now in
    both_ways c.equal.result (same_type a b) (λ h. same_type-if a b (c.equal.ensures.0 h)) (λ h. c.equal.ensures.1 (same_type-then a b h))
