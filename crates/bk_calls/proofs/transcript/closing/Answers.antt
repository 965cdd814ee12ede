use Rattle.std.proofs.Common.{ap, length, arith}
use Rattle.bk_calls.proofs.Lengths.{closing_length}
use Rattle.bk_calls.proofs.transcript.closing.Goals as goal

pub write_closing-requires : goal.write_closing-requires
write_closing-requires c = omega (arith, closing_length c.args.calls c.args.steps (omega arith) (omega arith), ap length c.clear.ensures.bytes)
