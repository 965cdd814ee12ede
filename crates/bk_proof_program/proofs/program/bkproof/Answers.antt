use Rattle.std.proofs.Common.{Global, Err, map, ◌∙◌, ap}
use Rattle.std.specs.Prelude.{string_bytes}
use Rattle.bk_proof_program.proofs.Ending.{answer_at_end, not_of_writing, stop_at_end}
use Rattle.bk_proof_program.proofs.program.bkproof.Goals as goal

pub write_stop-requires : goal.write_stop-requires
write_stop-requires g c = not_of_writing c.in-Err.stop c.in-Err.ensures.err

pub returns-in-Ok-clause-told : goal.returns-in-Ok-clause-told
returns-in-Ok-clause-told g c said files told =
    answer_at_end files (map (string_bytes {Z = Global}) c.args.words.now) (g.K.Sink.written c.args.out.now) (g.K.Sink.written c.write_answer.new.out) c.write_answer.result said c.in-Ok.answer (c.in-Ok.ensures.told files told) c.write_answer.ensures.told

pub returns-in-Ok-clause-read_fault : goal.returns-in-Ok-clause-read_fault
returns-in-Ok-clause-read_fault g c e = absurd (c.write_answer.ensures.read e)

pub returns-in-Err-clause-told : goal.returns-in-Err-clause-told
returns-in-Err-clause-told g c said files told =
    stop_at_end files (map (string_bytes {Z = Global}) c.args.words.now) (g.K.Sink.written c.args.out.now) (g.K.Sink.written c.write_stop.new.out) c.write_stop.result said c.in-Err.stop (c.in-Err.ensures.cause files told) c.write_stop.ensures.told

pub returns-in-Err-clause-read_fault : goal.returns-in-Err-clause-read_fault
returns-in-Err-clause-read_fault g c e = c.answer_to.ensures.failed.rose (c.in-Err.is ∙ ap Err (c.write_stop.ensures.read e))
