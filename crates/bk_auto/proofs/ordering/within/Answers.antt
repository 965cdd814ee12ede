use Rattle.std.proofs.Common.{◌≡◌, ◌∙◌, ◌+◌, ◌<◌, ◌++◌, ◌∷◌, [], ap, sym, subst, Bool, List, arith}
use Rattle.std.proofs.lemmas.Result.{IfOk-weaker}
use Rattle.bk_form.specs.Formula.{Formula, binary, formula_size}
use Rattle.bk_form.specs.declared.operator.BinOp.TheVariants.{Le, In, Range}
use Rattle.bk_seq.specs.Sequents.{sequent_of}
use Rattle.bk_kernel.specs.declared.rule.Rule.{Rule}
use Rattle.bk_kernel.specs.Held.{pair_in}
use Rattle.bk_kernel.proofs.Viewed.{sides-then}
use Rattle.bk_auto.specs.Found.{Told, TellsBoth}
use Rattle.bk_auto.proofs.Tellings.{told_within, hard_within}
use Rattle.bk_auto.proofs.ordering.within.Goals as goal

pub returns-in_default : goal.returns-in_default
returns-in_default c =
    hard_within c.args.types.now c.args.sequent.now.hyps.items c.args.element.now c.args.set.now c.args.sequent.now.goal (sym c.requires.goal) c.requires.open (sym c.sides.ensures ∙ ap pair_in c.in_default.is)

pub both_orders-requires-clause-first : goal.both_orders-requires-clause-first
both_orders-requires-clause-first c =
    let e = ap formula_size c.requires.goal in
    let f = ap formula_size (sides-then Range c.args.set.now (c.in-Some.low.now, c.in-Some.high.now) (sym c.in-Some.ensures)) in
    let h = c.requires.ready.goal.nodes in omega arith

pub both_orders-requires-clause-second : goal.both_orders-requires-clause-second
both_orders-requires-clause-second c =
    let e = ap formula_size c.requires.goal in
    let f = ap formula_size (sides-then Range c.args.set.now (c.in-Some.low.now, c.in-Some.high.now) (sym c.in-Some.ensures)) in
    let h = c.requires.ready.goal.nodes in omega arith

pub returns : goal.returns
returns c =
    let table = c.args.types.now in
    let r0 = c.args.rules.now.items in
    let r1 = c.add_law.new.rules.items in
    let r2 = c.both_orders.new.rules.items in
    let hyps = c.args.sequent.now.hyps.items in
    let a = c.args.element.now in
    let l = c.in-Some.low.now in
    let h = c.in-Some.high.now in
    let is : c.args.sequent.now.goal ≡ binary In a (binary Range l h) =
    c.requires.goal ∙ ap (λ (s : Formula). binary In a s) (sides-then Range c.args.set.now (l, h) (sym c.in-Some.ensures)) in
    IfOk-weaker c.both_orders.result (λ (b : Bool). TellsBoth b c.add.new.rules.items r2 hyps (binary Le l a) (binary Le a h)) (λ (b : Bool). Told b table table r0 r2 (sequent_of c.args.sequent.now))
    (λ b k. told_within b table r0 r1 r2 hyps a l h c.args.sequent.now.goal (sym is) c.requires.ready c.requires.open c.in_ok-add_law.ensures
    (subst (λ (rs : List Rule). TellsBoth b rs r2 hyps (binary Le l a) (binary Le a h)) c.in_ok-add.ensures k))
    c.both_orders.ensures
