use Rattle.std.proofs.Common.{rules, map, subst}
use Rattle.bk_calls.specs.Script.{request_of}
use Rattle.bk_verbs.specs.Session.{PlaysFront}
use Rattle.bk_verbs.proofs.Fronts.{on_err}
use Rattle.bk_verbs.proofs.session.play.Goals as goal

pub returns-in_err-status-clause-front : goal.returns-in_err-status-clause-front
returns-in_err-status-clause-front g c =
    on_err c.from_residual-in_err-status.result _
    (subst (λ x. PlaysFront x c.args.fuel (map request_of c.args.calls.now) (g.K.Sink.written c.args.out.now) (g.K.Sink.written c.play_session.new.out)) (search rules) c.in_err-status.ensures.front)
