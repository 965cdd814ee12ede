use Rattle.std.proofs.Common.{◌≡◌, ◌≤◌, ◌*◌, true, map, take, length}
use Rattle.bk_vm.specs.Ends.{is_stop, end_of}
use Rattle.bk_calls.specs.Room.{IsMadeFor}
use Rattle.bk_calls.specs.Script.{request_of}
use Rattle.bk_verbs.specs.Session.{HasOutputRoom}
use Rattle.bk_verbs.proofs.Plays.{Sofar}
use Rattle.bk_verbs.proofs.Puts.{SofarPuts}
use Rattle.bk_verbs.proofs.session.play_calls.Given as goal

abbrev pub invariant-loop-call : goal.invariant-loop-call
invariant-loop-call g l =
    Sofar l.fn.player.image l.fuel (take l.call-index (map request_of l.calls)) (end_of l.fn.start) l.fn.player.cells (end_of l.played.end) l.player.cells l.played.done l.played.steps (g.K.Sink.written l.fn.out) (g.K.Sink.written l.out) ×
    (l.player.image ≡ l.fn.player.image) × (l.player.started ≡ true) × (l.player.stopped ≡ is_stop l.played.end) ×
    (l.played.done ≤ l.call-index) × (l.played.steps ≤ 1099511627776 * l.call-index) ×
    HasOutputRoom l.player.image (length l.outs) × IsMadeFor l.player.image l.line × (g.K.Sink.faults l.fn.out ≤ g.K.Sink.faults l.out) ×
    SofarPuts l.fn.player.image l.fuel (take l.call-index (map request_of l.calls)) (end_of l.fn.start) l.fn.player.cells (end_of l.played.end) l.player.cells l.played.done l.played.steps (g.K.Sink.written l.fn.out) (g.K.Sink.written l.out) (g.K.Sink.pieces l.fn.out) (g.K.Sink.pieces l.out)
