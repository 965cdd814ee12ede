use Rattle.std.proofs.Common.{◌≡◌, ◌∙◌, ap, sym, subst, refl, false, Bool, List, arith}
use Rattle.std.proofs.lemmas.Result.{IfOk-weaker}
use Rattle.bk_form.specs.Formula.{Formula, binary}
use Rattle.bk_form.specs.declared.operator.BinOp.TheVariants.{Le}
use Rattle.bk_seq.specs.Sequents.{Sequent, sequent_of}
use Rattle.bk_auto.specs.Found.{Orders, TellsBoth}
use Rattle.bk_auto.proofs.Shapes.{first_fails, second_tells}
use Rattle.bk_auto.proofs.ordering.both_orders.Goals as goal

pub by_order-requires : goal.by_order-requires
by_order-requires c = record { left = c.args.low.now; right = c.args.middle.now; is = sym (ap (λ (s : Sequent). s.1) c.in_ok-first.ensures) }

pub returns-then-not-branch : goal.returns-then-not-branch
returns-then-not-branch c =
    first_fails c.in_ok-by_order.field-0 c.args.rules.now.items c.by_order.new.rules.items c.args.sequent.now.hyps.items (binary Le c.args.low.now c.args.middle.now) (binary Le c.args.middle.now c.args.high.now)
    (sequent_of c.in_ok-first.first) c.if-not-branch.true c.in_ok-first.ensures c.in_ok-by_order.ensures

pub by_order-requires-2 : goal.by_order-requires-2
by_order-requires-2 c = record { left = c.args.middle.now; right = c.args.high.now; is = sym (ap (λ (s : Sequent). s.1) c.in_ok-second.ensures) }

pub returns : goal.returns
returns c =
    let r0 = c.args.rules.now.items in
    let r1 = c.by_order.new.rules.items in
    let r2 = c.by_order-2.new.rules.items in
    let hyps = c.args.sequent.now.hyps.items in
    let p : Formula = binary Le c.args.low.now c.args.middle.now in
    let q : Formula = binary Le c.args.middle.now c.args.high.now in
    IfOk-weaker c.by_order-2.result (λ (b : Bool). Orders b r1 r2 (sequent_of c.in_ok-second.second)) (λ (b : Bool). TellsBoth b r0 r2 hyps p q)
    (λ b h. second_tells c.in_ok-by_order.field-0 b r0 r1 r2 hyps p q (sequent_of c.in_ok-first.first) (sequent_of c.in_ok-second.second) c.if-not-branch.false c.in_ok-first.ensures c.in_ok-second.ensures c.in_ok-by_order.ensures h)
    c.by_order-2.ensures
