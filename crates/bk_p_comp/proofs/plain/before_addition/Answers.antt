use Rattle.std.proofs.Common.{refl, sym, ◌∙◌, arith}
use Rattle.bk_p_comp.proofs.Cutting.{cut_goes_on, cut_here, cut_nowhere}
use Rattle.bk_p_comp.proofs.plain.before_addition.Goals as goal

pub loop-end-init : goal.loop-end-init
loop-end-init c = refl

pub loop-end-preserved : goal.loop-end-preserved
loop-end-preserved c = cut_goes_on c.args.tokens.now c.loop-end.end c.index-tokens-end.result c.loop-end.behind_brace c.is_brace-behind_brace.result c.loop-end-test.true c.loop-end.invariant (sym c.is_addition.ensures ∙ c.if-is_addition.false) c.is_brace-behind_brace.ensures

pub returns-then-is_addition : goal.returns-then-is_addition
returns-then-is_addition c = cut_here c.args.tokens.now c.loop-end.end c.index-tokens-end.result c.loop-end.behind_brace c.loop-end-test.true c.loop-end.invariant (sym c.is_addition.ensures ∙ c.if-is_addition.true)

pub returns : goal.returns
returns c = cut_nowhere c.args.tokens.now c.loop-end.end c.loop-end.behind_brace (omega (arith, c.loop-end-test.false)) c.loop-end.invariant
