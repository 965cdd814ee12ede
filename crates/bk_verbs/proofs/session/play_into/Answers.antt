use Rattle.std.proofs.Common.{rules}
use Rattle.bk_verbs.proofs.Plays.{plays_call}
use Rattle.bk_verbs.proofs.Fronts.{on_err, call_front}
use Rattle.bk_verbs.proofs.Puts.{puts_call}
use Rattle.bk_verbs.proofs.session.play_into.Goals as goal

pub returns-clause-ok : goal.returns-clause-ok
returns-clause-ok g c = plays_call c.calls_make_a_session.ensures.call c.args.player.now.image c.args.fuel c.args.call.now.op c.args.call.now.args c.args.player.now.cells c.args.outs.now c.call-end.result c.call-end.new.self.cells c.call-end.new.outs c.image.result.now c.call-end.new.outs (g.K.Sink.written c.args.out.now) (g.K.Sink.written c.answer.new.out) (search rules) (search rules) (search rules) (search rules) (search rules)

pub returns-in_err-answer-clause-front : goal.returns-in_err-answer-clause-front
returns-in_err-answer-clause-front g c =
    on_err c.from_residual.result _
    (call_front c.calls_make_a_session.ensures.call c.args.player.now.image c.args.fuel c.args.call.now.op c.args.call.now.args c.args.player.now.cells c.args.outs.now c.call-end.result c.call-end.new.self.cells c.call-end.new.outs c.image.result.now c.call-end.new.outs (g.K.Sink.written c.args.out.now) (g.K.Sink.written c.answer.new.out) (search rules) (search rules) (search rules) (search rules) (search rules))

pub returns-clause-lines : goal.returns-clause-lines
returns-clause-lines g c =
    puts_call c.calls_make_a_session.ensures.call c.args.player.now.image c.args.fuel c.args.call.now.op c.args.call.now.args c.args.player.now.cells c.args.outs.now c.call-end.result c.call-end.new.self.cells c.call-end.new.outs c.image.result.now c.call-end.new.outs
    (g.K.Sink.written c.args.out.now) (g.K.Sink.written c.answer.new.out) (g.K.Sink.pieces c.args.out.now) (g.K.Sink.pieces c.answer.new.out) (search rules) (search rules) (search rules) (search rules) (search rules) c.in_ok-answer.ensures.put
