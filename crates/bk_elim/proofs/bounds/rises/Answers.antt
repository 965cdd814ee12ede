use Rattle.std.proofs.Common.{ℤ, ◌*ℤ◌, ◌<ℤ◌, IsTrue, ◌↔◌, Option, sym, subst}
use Rattle.std.specs.Global.{Vec}
use Rattle.bk_elim.specs.Elimination.{entry}
use Rattle.bk_elim.specs.Bounds.{IsBelow, IsBetterLow}
use Rattle.bk_elim.specs.Layout.{list_in}
use Rattle.bk_elim.proofs.Joining.{not_less, then_less}
use Rattle.bk_elim.proofs.bounds.rises.Goals as goal

pub returns-in-Some-clause-no : goal.returns-in-Some-clause-no
returns-in-Some-clause-no c =
    let test : IsTrue c.is_better_low.result ↔ ((entry c.args.row.now 4 *ℤ entry c.in-Some.old.items 3) <ℤ (entry c.in-Some.old.items 4 *ℤ entry c.args.row.now 3)) = rw (← c.deref.ensures.value) c.is_better_low.ensures in
    λ no sign. subst (λ (v : Option (Vec ℤ)). IsBelow (entry c.args.row.now 3) (entry c.args.row.now 4) (list_in v)) (sym c.in-Some.is) (not_less c.is_better_low.result (entry c.args.row.now 4 *ℤ entry c.in-Some.old.items 3) (entry c.in-Some.old.items 4 *ℤ entry c.args.row.now 3) test no)

pub returns-in-Some-clause-yes : goal.returns-in-Some-clause-yes
returns-in-Some-clause-yes c =
    let test : IsTrue c.is_better_low.result ↔ ((entry c.args.row.now 4 *ℤ entry c.in-Some.old.items 3) <ℤ (entry c.in-Some.old.items 4 *ℤ entry c.args.row.now 3)) = rw (← c.deref.ensures.value) c.is_better_low.ensures in
    λ yes. subst (λ (v : Option (Vec ℤ)). IsBetterLow c.args.row.now (list_in v)) (sym c.in-Some.is) (then_less c.is_better_low.result (entry c.args.row.now 4 *ℤ entry c.in-Some.old.items 3) (entry c.in-Some.old.items 4 *ℤ entry c.args.row.now 3) test yes)
