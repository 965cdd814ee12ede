use Rattle.std.proofs.Common.{◌≡◌, ℤ, ◌*ℤ◌, ◌<ℤ◌, IsTrue, ◌↔◌, Option, sym, rules, ap, subst}
use Rattle.std.specs.Global.{Vec}
use Rattle.std.specs.Int.{w128, cast_signed, cast_unsigned}
use Rattle.bk_lin.proofs.Adding.{back}
use Rattle.bk_elim.specs.Elimination.{entry}
use Rattle.bk_elim.specs.Bounds.{IsBelow}
use Rattle.bk_elim.specs.Layout.{list_in}
use Rattle.bk_elim.proofs.Joining.{not_less, iff_same}
use Rattle.bk_elim.proofs.bounds.low_wants.Goals as goal

pub returns-in-Some : goal.returns-in-Some
returns-in-Some c =
    let a : cast_signed w128 (cast_unsigned w128 c.args.constant) ≡ c.args.constant = back c.args.constant (search rules) in
    let b : cast_signed w128 (cast_unsigned w128 c.args.coef) ≡ c.args.coef = back c.args.coef (search rules) in
    let d : entry c.deref.result.now 3 ≡ entry c.in-Some.old.items 3 = ap (λ r. entry r 3) c.deref.ensures.value in
    let e : entry c.deref.result.now 4 ≡ entry c.in-Some.old.items 4 = ap (λ r. entry r 4) c.deref.ensures.value in
    let test : IsTrue c.is_more_low.result ↔ ((c.args.constant *ℤ entry c.in-Some.old.items 3) <ℤ (entry c.in-Some.old.items 4 *ℤ c.args.coef)) = iff_same c.is_more_low.result _ _ (c.args.constant *ℤ entry c.in-Some.old.items 3) (entry c.in-Some.old.items 4 *ℤ c.args.coef) c.is_more_low.ensures (cc) (cc) in
    λ no. subst (λ (v : Option (Vec ℤ)). IsBelow c.args.coef c.args.constant (list_in v)) (sym c.in-Some.is) (not_less c.is_more_low.result (c.args.constant *ℤ entry c.in-Some.old.items 3) (entry c.in-Some.old.items 4 *ℤ c.args.coef) test no)
