use Rattle.std.proofs.Common.{◌≡◌, ◌∙◌, false, true, sym}
use Rattle.bk_auto.proofs.Refuted.{bounded, system, decides}
use Rattle.bk_auto.proofs.arithmetic.refuted.Goals as goal

pub returns-then-not-are_small : goal.returns-then-not-are_small
returns-then-not-are_small c = λ k. (let t : true ≡ false = sym (c.are_small.ensures.1 (bounded c.args.hyps.now c.args.goal.now c.args.all.now c.requires k)) ∙ c.if-not-are_small.true in cc)

pub refute-requires : goal.refute-requires
refute-requires c = record { small = system c.args.hyps.now c.args.goal.now c.args.all.now c.requires (c.are_small.ensures.0 c.if-not-are_small.false) }

pub returns-in-Ok : goal.returns-in-Ok
returns-in-Ok c = decides c.args.hyps.now c.args.goal.now c.args.all.now c.requires c.in-Ok.found c.in-Ok.ensures
