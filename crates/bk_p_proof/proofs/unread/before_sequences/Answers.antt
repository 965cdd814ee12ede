use Rattle.std.proofs.Common.{refl, sym, ◌∙◌, arith}
use Rattle.bk_p_proof.proofs.SequenceCuts.{cut_goes_on, cut_here, cut_nowhere}
use Rattle.bk_p_proof.proofs.unread.before_sequences.Goals as goal

pub loop-end-init : goal.loop-end-init
loop-end-init c = refl

pub loop-end-preserved : goal.loop-end-preserved
loop-end-preserved c = cut_goes_on c.args.tokens.now c.loop-end.end c.index-tokens-end.result c.loop-end.is_part c.is_before_part-is_part.result c.loop-end-test.true c.loop-end.invariant (sym c.is_unread.ensures ∙ c.if-is_unread.false) c.is_before_part-is_part.ensures

pub returns-then-is_unread : goal.returns-then-is_unread
returns-then-is_unread c = cut_here c.args.tokens.now c.loop-end.end c.index-tokens-end.result c.loop-end.is_part c.loop-end-test.true c.loop-end.invariant (sym c.is_unread.ensures ∙ c.if-is_unread.true)

pub returns : goal.returns
returns c = cut_nowhere c.args.tokens.now c.loop-end.end c.loop-end.is_part (omega (arith, c.loop-end-test.false)) c.loop-end.invariant
