use Rattle.std.proofs.Common.{◌∙◌}
use Rattle.bk_tests_program.proofs.twice.call_twice.Goals as goal

-- the second call finds the files that the first one leaves
pub returns : goal.returns
returns g c answered again files told =
    (g.K.Sink.written c.bkit-first_status.new.out, c.bkit-first_status.ensures.answer answered files told, c.bkit-second_status.ensures.answer again files (c.bkit-first_status.ensures.leaves.files ∙ told))
