use Rattle.std.proofs.Common.{arith}
use Rattle.bk_print.proofs.Pieces.{line_step, line_end}
use Rattle.bk_print.proofs.printing.write_rules.Goals as goal

pub loop-index-preserved : goal.loop-index-preserved
loop-index-preserved c =
    line_step c.args.types.now c.args.rules.now c.loop-index.index c.index-rules-index.result c.loop-index.out.items c.extend_from_slice.new.self.items c.write_rule.new.out.items c.extend_from_slice-in-loop-index.new.self.items c.end_of_line.result.now _
    c.loop-index-test.true c.index-rules-index.is c.loop-index.invariant c.in_ok-extend_from_slice.ensures.items c.in_ok-write_rule.ensures c.end_of_line.ensures c.in_ok-extend_from_slice-2.ensures.items

pub returns : goal.returns
returns c = line_end c.args.types.now c.args.rules.now c.loop-index.index c.loop-index.out.items _ (omega arith) c.loop-index.invariant
