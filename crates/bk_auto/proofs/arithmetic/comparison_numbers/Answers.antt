use Rattle.std.proofs.Common.{◌≡◌, ◌∙◌, ◌+◌, ◌++◌, ◌∷◌, [], ℕ, List, false, true, ap, sym, subst, arith}
use Rattle.bk_auto.proofs.Loops.{numbers_step, numbers_end}
use Rattle.bk_auto.proofs.arithmetic.comparison_numbers.Goals as goal

pub loop-index-preserved : goal.loop-index-preserved
loop-index-preserved c =
    numbers_step c.args.hyps.now c.loop-index.numbers.items c.add_number.new.numbers.items c.loop-index.index c.index-hyps-index.result c.loop-index-test.true c.index-hyps-index.is c.loop-index.invariant c.in_ok-add_number.ensures

pub returns : goal.returns
returns c = numbers_end c.args.hyps.now c.loop-index.numbers.items c.loop-index.index (omega arith) c.loop-index.invariant
