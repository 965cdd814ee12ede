use Rattle.std.proofs.Common.{rules, map, ◌+◌, [], None, subst}
use Rattle.bk_io.specs.Pieces.{WroteFront, PutWhole}
use Rattle.bk_calls.specs.Script.{request_of}
use Rattle.bk_calls.specs.Transcript.{reply_text, closing_text, steps_of}
use Rattle.bk_vm.specs.Ends.{end_of}
use Rattle.bk_verbs.specs.Session.{PlaysCalls, PlaysCallsFront}
use Rattle.bk_verbs.proofs.Plays.{plays_of}
use Rattle.bk_verbs.proofs.Fronts.{on_err, front_at_start, front_at_calls, front_at_closing}
use Rattle.bk_verbs.proofs.Puts.{puts_of}
use Rattle.bk_verbs.proofs.Frames.{appends_text, appends_front, appends_twice}
use Rattle.bk_verbs.proofs.session.play_session.Goals as goal

pub returns-in_err-answer-clause-front : goal.returns-in_err-answer-clause-front
returns-in_err-answer-clause-front g c =
    on_err c.from_residual.result _
    (front_at_start c.calls_make_a_session.ensures.start c.args.player.now.image c.args.fuel c.start-start.result c.start-start.new.self.cells c.start-start.ensures.ends (map request_of c.args.calls.now)
    (g.K.Sink.written c.args.out.now) (g.K.Sink.written c.answer.new.out)
    (subst (λ x. WroteFront (reply_text x None (end_of c.start-start.result) []) (g.K.Sink.written c.args.out.now) (g.K.Sink.written c.answer.new.out)) {x = c.image.result.now} {y = c.args.player.now.image} (search rules) c.in_err-answer.ensures.front))

pub returns-in_err-played-clause-front : goal.returns-in_err-played-clause-front
returns-in_err-played-clause-front g c =
    on_err c.from_residual-in_err-played.result _
    (front_at_calls c.calls_make_a_session.ensures.start c.args.player.now.image c.args.fuel c.start-start.result c.start-start.new.self.cells c.start-start.ensures.ends (map request_of c.args.calls.now)
    (g.K.Sink.written c.args.out.now) (g.K.Sink.written c.answer.new.out) (g.K.Sink.written c.play_calls.new.out)
    (search rules)
    (subst (λ x. PlaysCallsFront x c.args.fuel (map request_of c.args.calls.now) (end_of c.start-start.result) c.start-start.new.self.cells (g.K.Sink.written c.answer.new.out) (g.K.Sink.written c.play_calls.new.out)) {x = c.start-start.new.self.image} {y = c.args.player.now.image} (search rules) c.in_err-played.ensures.front))

pub returns-in_err-put_all-clause-front : goal.returns-in_err-put_all-clause-front
returns-in_err-put_all-clause-front g c =
    on_err c.from_residual-in_err-put_all.result _
    (front_at_closing c.calls_make_a_session.ensures.start c.args.player.now.image c.args.fuel c.start-start.result c.start-start.new.self.cells c.start-start.ensures.ends (map request_of c.args.calls.now)
    (end_of c.in_ok-played.played.end) c.in_ok-played.played.done c.in_ok-played.played.steps (g.K.Sink.written c.args.out.now) (g.K.Sink.written c.answer.new.out) (g.K.Sink.written c.play_calls.new.out) (g.K.Sink.written c.put_all.new.sink)
    (search rules)
    (subst (λ x. PlaysCalls x c.args.fuel (map request_of c.args.calls.now) (end_of c.start-start.result) c.start-start.new.self.cells (end_of c.in_ok-played.played.end) c.in_ok-played.played.done c.in_ok-played.played.steps (g.K.Sink.written c.answer.new.out) (g.K.Sink.written c.play_calls.new.out)) {x = c.start-start.new.self.image} {y = c.args.player.now.image} (search rules) c.in_ok-played.ensures.ok)
    (subst (λ x. WroteFront x (g.K.Sink.written c.play_calls.new.out) (g.K.Sink.written c.put_all.new.sink)) {x = c.bytes.result.now} {y = closing_text c.in_ok-played.played.done (steps_of c.args.fuel (end_of c.start-start.result) + c.in_ok-played.played.steps)} (search rules) c.in_err-put_all.ensures.err))

pub returns-clause-ok : goal.returns-clause-ok
returns-clause-ok g c = plays_of c.calls_make_a_session.ensures.start c.args.player.now.image c.args.player.now.image c.start-start.new.self.image c.image.result.now c.args.fuel c.start-start.result c.start-start.new.self.cells (map request_of c.args.calls.now) c.status.result (end_of c.in_ok-played.played.end) c.in_ok-played.played.done c.in_ok-played.played.steps c.steps.result (g.K.Sink.written c.args.out.now) (g.K.Sink.written c.answer.new.out) (g.K.Sink.written c.play_calls.new.out) (g.K.Sink.written c.put_all.new.sink) (search rules) (search rules) (search rules) (search rules) (search rules) (search rules) (search rules) (search rules) (search rules)

pub returns-clause-lines : goal.returns-clause-lines
returns-clause-lines g c =
    puts_of c.calls_make_a_session.ensures.start c.args.player.now.image c.args.player.now.image c.start-start.new.self.image c.image.result.now c.args.fuel c.start-start.result c.start-start.new.self.cells (map request_of c.args.calls.now) c.status.result (end_of c.in_ok-played.played.end) c.in_ok-played.played.done c.in_ok-played.played.steps c.steps.result
    (g.K.Sink.written c.args.out.now) (g.K.Sink.written c.answer.new.out) (g.K.Sink.written c.play_calls.new.out) (g.K.Sink.written c.put_all.new.sink) (g.K.Sink.pieces c.args.out.now) (g.K.Sink.pieces c.answer.new.out) (g.K.Sink.pieces c.play_calls.new.out) (g.K.Sink.pieces c.put_all.new.sink)
    (search rules) (search rules) (search rules) (search rules) (search rules) c.in_ok-answer.ensures.put (search rules) (search rules) (search rules)
    (subst (λ x. PutWhole x (g.K.Sink.pieces c.play_calls.new.out) (g.K.Sink.pieces c.put_all.new.sink)) {x = c.bytes.result.now} {y = closing_text c.in_ok-played.played.done (c.steps.result + c.in_ok-played.played.steps)} (search rules) c.in_ok-put_all.ensures.told)
    (search rules)

-- ---- what is written is appended, piece by piece
pub returns-in_err-answer-clause-appends : goal.returns-in_err-answer-clause-appends
returns-in_err-answer-clause-appends g c = appends_front _ (g.K.Sink.written c.args.out.now) (g.K.Sink.written c.answer.new.out) c.in_err-answer.ensures.front

pub returns-in_err-played-clause-appends : goal.returns-in_err-played-clause-appends
returns-in_err-played-clause-appends g c =
    appends_twice (g.K.Sink.written c.args.out.now) (g.K.Sink.written c.answer.new.out) (g.K.Sink.written c.play_calls.new.out)
    (appends_text _ (g.K.Sink.written c.args.out.now) (g.K.Sink.written c.answer.new.out) c.in_ok-answer.ensures.ok)
    (appends_front _ (g.K.Sink.written c.answer.new.out) (g.K.Sink.written c.play_calls.new.out) c.in_err-played.ensures.front.front)

pub returns-in_err-put_all-clause-appends : goal.returns-in_err-put_all-clause-appends
returns-in_err-put_all-clause-appends g c =
    appends_twice (g.K.Sink.written c.args.out.now) (g.K.Sink.written c.play_calls.new.out) (g.K.Sink.written c.put_all.new.sink)
    (appends_twice (g.K.Sink.written c.args.out.now) (g.K.Sink.written c.answer.new.out) (g.K.Sink.written c.play_calls.new.out)
    (appends_text _ (g.K.Sink.written c.args.out.now) (g.K.Sink.written c.answer.new.out) c.in_ok-answer.ensures.ok)
    (appends_text _ (g.K.Sink.written c.answer.new.out) (g.K.Sink.written c.play_calls.new.out) c.in_ok-played.ensures.ok.written))
    (appends_front _ (g.K.Sink.written c.play_calls.new.out) (g.K.Sink.written c.put_all.new.sink) c.in_err-put_all.ensures.err)

pub returns-clause-appends : goal.returns-clause-appends
returns-clause-appends g c =
    appends_twice (g.K.Sink.written c.args.out.now) (g.K.Sink.written c.play_calls.new.out) (g.K.Sink.written c.put_all.new.sink)
    (appends_twice (g.K.Sink.written c.args.out.now) (g.K.Sink.written c.answer.new.out) (g.K.Sink.written c.play_calls.new.out)
    (appends_text _ (g.K.Sink.written c.args.out.now) (g.K.Sink.written c.answer.new.out) c.in_ok-answer.ensures.ok)
    (appends_text _ (g.K.Sink.written c.answer.new.out) (g.K.Sink.written c.play_calls.new.out) c.in_ok-played.ensures.ok.written))
    (appends_text _ (g.K.Sink.written c.play_calls.new.out) (g.K.Sink.written c.put_all.new.sink) c.in_ok-put_all.ensures.ok)
