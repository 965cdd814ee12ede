use Rattle.bk_kernel.proofs.ListedFacts.{listed-more, not-listed, all-listed}
use Rattle.bk_kernel.proofs.closing.listed.Goals as goal

pub returns-in_default : goal.returns-in_default
returns-in_default c = not-listed c.args.hyps.now c.args.numbers.now c.loop-number.number-index c.loop-number-test.true c.in_default.ensures

pub loop-number-preserved : goal.loop-number-preserved
loop-number-preserved c =
    listed-more c.args.hyps.now c.args.numbers.now c.loop-number.number-index c.loop-number.found.items c.push.new.self.items c.in-Some.hypothesis.now c.in_ok-copy.field-0 c.loop-number-test.true c.loop-number.invariant c.in-Some.ensures c.in_ok-copy.ensures c.in_ok-push.ensures.items

pub returns : goal.returns
returns c = all-listed c.args.hyps.now c.args.numbers.now c.loop-number.number-index c.loop-number.found.items c.loop-number-test.false c.loop-number.invariant
