use Rattle.std.proofs.Common.{◌≡◌, ◌∙◌, ap, sym, subst, List, false, true, Some, OnOk, arith}
use Rattle.std.proofs.lemmas.Result.{on_ok_weaker}
use Rattle.bk_form.specs.Formula.{Formula, binary}
use Rattle.bk_form.specs.declared.operator.BinOp.{BinOp}
use Rattle.bk_kernel.specs.Obvious.{holds_plainly}
use Rattle.bk_auto.specs.Found.{ClosesAnywhere}
use Rattle.bk_auto.proofs.Obvious.{closes_decided, decided-other}
use Rattle.bk_auto.proofs.closing.close_sides.Goals as goal

pub close_equation-requires : goal.close_equation-requires
close_equation-requires c = ap (λ (o : BinOp). holds_plainly o c.args.left.now c.args.right.now) (sym c.in-Eq.is) ∙ c.requires

pub close_membership-requires : goal.close_membership-requires
close_membership-requires c = ap (λ (o : BinOp). holds_plainly o c.args.left.now c.args.right.now) (sym c.in-In.is) ∙ c.requires

pub returns-in-Eq : goal.returns-in-Eq
returns-in-Eq c = subst (λ (o : BinOp). OnOk c.close_equation.result (ClosesAnywhere c.args.rules.now.items c.close_equation.new.rules.items (binary o c.args.left.now c.args.right.now))) (sym c.in-Eq.is) c.close_equation.ensures

pub returns-in-In : goal.returns-in-In
returns-in-In c = subst (λ (o : BinOp). OnOk c.close_membership.result (ClosesAnywhere c.args.rules.now.items c.close_membership.new.rules.items (binary o c.args.left.now c.args.right.now))) (sym c.in-In.is) c.close_membership.ensures

pub returns-in_default : goal.returns-in_default
returns-in_default c =
    on_ok_weaker c.add.result
    (λ e. closes_decided c.args.rules.now.items c.add.new.rules.items (binary c.args.op c.args.left.now c.args.right.now) e (decided-other c.args.op c.args.left.now c.args.right.now c.in_default.not-Eq c.in_default.not-In c.requires))
    c.add.ensures
