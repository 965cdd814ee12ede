use Rattle.std.proofs.Common.{rules, refl, map, take, subst}
use Rattle.bk_calls.specs.Script.{request_of}
use Rattle.bk_vm.specs.Ends.{end_of}
use Rattle.std.proofs.lemmas.List.{length-map}
use Rattle.bk_verbs.specs.Session.{PlaysCall, PlaysCallFront, PutsCall}
use Rattle.bk_verbs.proofs.Plays.{request_at, take_more, sofar_more, done_end, over_stop, over_end, whole_at}
use Rattle.bk_verbs.proofs.Fronts.{on_err, calls_front}
use Rattle.bk_verbs.proofs.Puts.{sofar_puts_nothing, sofar_puts_more, whole_puts_at}
use Rattle.bk_verbs.proofs.session.play_calls.Goals as goal

pub play_call-requires-clause-request : goal.play_call-requires-clause-request
play_call-requires-clause-request g c = request_at c.args.player.now.image c.loop-call.player.image c.args.calls.now c.loop-call.call-index c.call-item.result c.requires.requests (c.loop-call.invariant.1) c.loop-call-test.true c.call-item.is

pub loop-call-init : goal.loop-call-init
loop-call-init g c =
    let none = sofar_puts_nothing c.args.player.now.image c.args.fuel (end_of c.args.start) c.args.player.now.cells (g.K.Sink.written c.args.out.now) (g.K.Sink.pieces c.args.out.now) in
    (none.sofar, refl, c.requires.started, c.requires.stopped, search rules, search rules, c.requires.outputs, c.requires.made, search rules, none)

pub loop-call-preserved : goal.loop-call-preserved
loop-call-preserved g c =
    let more = take_more c.args.calls.now c.loop-call.call-index c.call-item.result c.loop-call-test.true c.call-item.is in
    let call : PlaysCall c.args.player.now.image c.args.fuel (request_of c.call-item.result) c.loop-call.player.cells (end_of c.in_ok-end.end) c.play_call.new.player.cells (g.K.Sink.written c.loop-call.out) (g.K.Sink.written c.play_call.new.out) = subst (λ x. PlaysCall x c.args.fuel (request_of c.call-item.result) c.loop-call.player.cells (end_of c.in_ok-end.end) c.play_call.new.player.cells (g.K.Sink.written c.loop-call.out) (g.K.Sink.written c.play_call.new.out)) c.loop-call.invariant.1 c.in_ok-end.ensures.ok in
    let grown = sofar_more c.args.player.now.image c.args.fuel (take c.loop-call.call-index (map request_of c.args.calls.now)) (end_of c.args.start) c.args.player.now.cells (end_of c.loop-call.played.end) c.loop-call.player.cells c.loop-call.played.done c.loop-call.played.steps (g.K.Sink.written c.args.out.now) (g.K.Sink.written c.loop-call.out) (g.K.Sink.written c.play_call.new.out) (request_of c.call-item.result) (end_of c.in_ok-end.end) c.play_call.new.player.cells c.loop-call.invariant.0 (done_end c.loop-call.played.end (search rules)) call in
    let put : PutsCall c.args.player.now.image c.args.fuel (request_of c.call-item.result) c.loop-call.player.cells (end_of c.in_ok-end.end) c.play_call.new.player.cells (g.K.Sink.written c.loop-call.out) (g.K.Sink.written c.play_call.new.out) (g.K.Sink.pieces c.loop-call.out) (g.K.Sink.pieces c.play_call.new.out) = subst (λ x. PutsCall x c.args.fuel (request_of c.call-item.result) c.loop-call.player.cells (end_of c.in_ok-end.end) c.play_call.new.player.cells (g.K.Sink.written c.loop-call.out) (g.K.Sink.written c.play_call.new.out) (g.K.Sink.pieces c.loop-call.out) (g.K.Sink.pieces c.play_call.new.out)) c.loop-call.invariant.1 c.in_ok-end.ensures.lines in
    let put_so_far = sofar_puts_more c.args.player.now.image c.args.fuel (take c.loop-call.call-index (map request_of c.args.calls.now)) (end_of c.args.start) c.args.player.now.cells (end_of c.loop-call.played.end) c.loop-call.player.cells c.loop-call.played.done c.loop-call.played.steps (g.K.Sink.written c.args.out.now) (g.K.Sink.written c.loop-call.out) (g.K.Sink.written c.play_call.new.out) (g.K.Sink.pieces c.args.out.now) (g.K.Sink.pieces c.loop-call.out) (g.K.Sink.pieces c.play_call.new.out) (request_of c.call-item.result) (end_of c.in_ok-end.end) c.play_call.new.player.cells c.loop-call.invariant.9 (done_end c.loop-call.played.end (search rules)) put in
    (rw (more, c.done_number.ensures.value, c.steps.ensures) grown, search rules, search rules, search rules, search rules, search rules, search rules, search rules, search rules, rw (more, c.done_number.ensures.value, c.steps.ensures) put_so_far)

pub returns-then-is_stop-clause-ok : goal.returns-then-is_stop-clause-ok
returns-then-is_stop-clause-ok g c =
    whole_at c.args.player.now.image c.args.fuel (map request_of c.args.calls.now) c.loop-call.call-index (end_of c.args.start) c.args.player.now.cells (end_of c.loop-call.played.end) c.loop-call.player.cells c.loop-call.played.done c.loop-call.played.steps (g.K.Sink.written c.args.out.now) (g.K.Sink.written c.loop-call.out) c.loop-call.invariant.0
    (over_stop c.loop-call.played.end _ (search rules))

pub returns-then-is_stop-clause-lines : goal.returns-then-is_stop-clause-lines
returns-then-is_stop-clause-lines g c =
    whole_puts_at c.args.player.now.image c.args.fuel (map request_of c.args.calls.now) c.loop-call.call-index (end_of c.args.start) c.args.player.now.cells (end_of c.loop-call.played.end) c.loop-call.player.cells c.loop-call.played.done c.loop-call.played.steps (g.K.Sink.written c.args.out.now) (g.K.Sink.written c.loop-call.out) (g.K.Sink.pieces c.args.out.now) (g.K.Sink.pieces c.loop-call.out) c.loop-call.invariant.9
    (over_stop c.loop-call.played.end _ (search rules))

pub returns-after-loop-call-clause-lines : goal.returns-after-loop-call-clause-lines
returns-after-loop-call-clause-lines g c =
    whole_puts_at c.args.player.now.image c.args.fuel (map request_of c.args.calls.now) c.loop-call.call-index (end_of c.args.start) c.args.player.now.cells (end_of c.loop-call.played.end) c.loop-call.player.cells c.loop-call.played.done c.loop-call.played.steps (g.K.Sink.written c.args.out.now) (g.K.Sink.written c.loop-call.out) (g.K.Sink.pieces c.args.out.now) (g.K.Sink.pieces c.loop-call.out) c.loop-call.invariant.9
    (over_end (end_of c.loop-call.played.end) (map request_of c.args.calls.now) c.loop-call.call-index (rw (length-map c.args.calls.now request_of) (search rules)))

pub returns-after-loop-call-clause-ok : goal.returns-after-loop-call-clause-ok
returns-after-loop-call-clause-ok g c =
    whole_at c.args.player.now.image c.args.fuel (map request_of c.args.calls.now) c.loop-call.call-index (end_of c.args.start) c.args.player.now.cells (end_of c.loop-call.played.end) c.loop-call.player.cells c.loop-call.played.done c.loop-call.played.steps (g.K.Sink.written c.args.out.now) (g.K.Sink.written c.loop-call.out) c.loop-call.invariant.0
    (over_end (end_of c.loop-call.played.end) (map request_of c.args.calls.now) c.loop-call.call-index (rw (length-map c.args.calls.now request_of) (search rules)))

pub returns-in_err-end-clause-front : goal.returns-in_err-end-clause-front
returns-in_err-end-clause-front g c =
    let call : PlaysCallFront c.args.player.now.image c.args.fuel (request_of c.call-item.result) c.loop-call.player.cells (g.K.Sink.written c.loop-call.out) (g.K.Sink.written c.play_call.new.out) = subst (λ x. PlaysCallFront x c.args.fuel (request_of c.call-item.result) c.loop-call.player.cells (g.K.Sink.written c.loop-call.out) (g.K.Sink.written c.play_call.new.out)) c.loop-call.invariant.1 c.in_err-end.ensures.front in
    on_err c.from_residual.result _
    (calls_front c.args.player.now.image c.args.fuel (map request_of c.args.calls.now) c.loop-call.call-index (request_of c.call-item.result) (end_of c.args.start) c.args.player.now.cells (end_of c.loop-call.played.end) c.loop-call.player.cells c.loop-call.played.done c.loop-call.played.steps (g.K.Sink.written c.args.out.now) (g.K.Sink.written c.loop-call.out) (g.K.Sink.written c.play_call.new.out)
    (take_more c.args.calls.now c.loop-call.call-index c.call-item.result c.loop-call-test.true c.call-item.is)
    c.loop-call.invariant.0
    (done_end c.loop-call.played.end (search rules))
    call)
