use Rattle.std.proofs.Common.{◌≡◌, ◌∙◌, ◌+◌, ◌<◌, ◌++◌, ◌∷◌, [], ap, sym, subst, Ok, Bool, List, arith}
use Rattle.std.proofs.lemmas.Result.{IfOk-weaker}
use Rattle.bk_form.specs.Formula.{Formula, binary, formula_size}
use Rattle.bk_form.specs.declared.operator.BinOp.TheVariants.{Le}
use Rattle.bk_seq.specs.Sequents.{sequent_of}
use Rattle.bk_kernel.specs.declared.rule.Rule.{Rule}
use Rattle.bk_auto.specs.Found.{Told, TellsBoth}
use Rattle.bk_auto.proofs.Tellings.{told_equal, hard_equal}
use Rattle.bk_auto.proofs.ordering.equal.Goals as goal

pub returns-then-not-branch : goal.returns-then-not-branch
returns-then-not-branch c =
    hard_equal c.args.types.now c.args.sequent.now.hyps.items c.args.left.now c.args.right.now c.args.sequent.now.goal (sym c.requires.goal) c.requires.open (c.in_ok-is_number.ensures.other (ap (λ (b : Bool). Ok b) c.if-not-branch.true))

pub both_orders-requires-clause-first : goal.both_orders-requires-clause-first
both_orders-requires-clause-first c = (let e = ap formula_size c.requires.goal in let h = c.requires.ready.goal.nodes in omega arith)

pub both_orders-requires-clause-second : goal.both_orders-requires-clause-second
both_orders-requires-clause-second c = (let e = ap formula_size c.requires.goal in let h = c.requires.ready.goal.nodes in omega arith)

pub returns : goal.returns
returns c =
    let table = c.args.types.now in
    let r0 = c.args.rules.now.items in
    let r1 = c.add_law.new.rules.items in
    let r2 = c.both_orders.new.rules.items in
    let hyps = c.args.sequent.now.hyps.items in
    let x = c.args.left.now in
    let y = c.args.right.now in
    IfOk-weaker c.both_orders.result (λ (b : Bool). TellsBoth b c.add.new.rules.items r2 hyps (binary Le x y) (binary Le y x)) (λ (b : Bool). Told b table table r0 r2 (sequent_of c.args.sequent.now))
    (λ b h. told_equal b table r0 r1 r2 hyps x y c.args.sequent.now.goal (sym c.requires.goal) c.requires.ready c.requires.open (c.in_ok-is_number.ensures.number (ap (λ (z : Bool). Ok z) c.if-not-branch.false)) c.in_ok-add_law.ensures
    (subst (λ (rs : List Rule). TellsBoth b rs r2 hyps (binary Le x y) (binary Le y x)) c.in_ok-add.ensures h))
    c.both_orders.ensures
