use Rattle.std.proofs.Common.{◌≡◌, ◌∙◌, ◌+◌, ◌++◌, ◌∷◌, [], ℕ, List, false, true, ap, sym, subst, arith}
use Rattle.bk_auto.proofs.Loops.{comparisons_step, comparisons_end}
use Rattle.bk_auto.proofs.arithmetic.comparisons.Goals as goal

pub loop-hyp-preserved : goal.loop-hyp-preserved
loop-hyp-preserved c =
    comparisons_step c.args.hyps.now c.loop-hyp.read.items c.add_comparison.new.read.items c.loop-hyp.hyp-index c.hyp-item.result c.loop-hyp-test.true c.hyp-item.is c.loop-hyp.invariant c.in_ok-add_comparison.ensures

pub returns : goal.returns
returns c = comparisons_end c.args.hyps.now c.loop-hyp.read.items c.loop-hyp.hyp-index (omega arith) c.loop-hyp.invariant
