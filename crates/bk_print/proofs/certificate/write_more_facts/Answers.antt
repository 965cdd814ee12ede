use Rattle.std.proofs.Common.{arith}
use Rattle.bk_print.specs.Text.{comma, number_items}
use Rattle.bk_print.proofs.Pieces.{piece_step_at, piece_end}
use Rattle.bk_print.proofs.certificate.write_more_facts.Goals as goal

pub loop-fact-preserved : goal.loop-fact-preserved
loop-fact-preserved c =
    piece_step_at number_items comma c.args.facts.now c.loop-fact.fact-index 0 c.loop-fact.out.items c.extend_from_slice.new.self.items c.write_digits.new.out.items _ c.loop-fact-test.true c.loop-fact.invariant c.in_ok-extend_from_slice.ensures.items c.in_ok-write_digits.ensures

pub returns : goal.returns
returns c = piece_end (number_items) comma c.args.facts.now c.loop-fact.fact-index c.loop-fact.out.items _ (omega arith) c.loop-fact.invariant
