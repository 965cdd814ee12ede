use Rattle.std.proofs.Common.{rules, refl, ◌∙◌, arith}
use Rattle.bk_po.specs.Shown.{named_sequent}
use Rattle.bk_verbs.proofs.Plays.{written_nothing}
use Rattle.bk_verbs.proofs.Fronts.{on_err}
use Rattle.bk_verbs.proofs.Frames.{appends_text, appends_front, appends_twice}
use Rattle.bk_verbs.proofs.Listed.{written_more, pieces_more, front_before, front_within, written_all, pieces_all}
use Rattle.bk_verbs.proofs.putting.put_obligations.Goals as goal

pub loop-obligation-init : goal.loop-obligation-init
loop-obligation-init g c = record { written = written_nothing (g.K.Sink.written c.args.out.now); pieces = refl; faults = omega arith }

pub loop-obligation-preserved : goal.loop-obligation-preserved
loop-obligation-preserved g c = record {
  written = written_more named_sequent c.args.table.now c.args.list.now c.loop-obligation.obligation-index c.obligation-item.result c.deref.result.now (g.K.Sink.written c.args.out.now) (g.K.Sink.written c.loop-obligation.out) (g.K.Sink.written c.put_all.new.sink)
      c.loop-obligation-test.true c.obligation-item.is c.loop-obligation.invariant.written (c.deref.ensures.value ∙ c.in_ok-text.ensures) c.in_ok-put_all.ensures.ok;
  pieces = pieces_more named_sequent c.args.table.now c.args.list.now c.loop-obligation.obligation-index c.obligation-item.result c.deref.result.now (g.K.Sink.pieces c.args.out.now) (g.K.Sink.pieces c.loop-obligation.out) (g.K.Sink.pieces c.put_all.new.sink)
      c.loop-obligation-test.true c.obligation-item.is c.loop-obligation.invariant.pieces (c.deref.ensures.value ∙ c.in_ok-text.ensures) c.in_ok-put_all.ensures.told;
  faults = search rules;
}

-- ---- no memory for the next text
pub returns-in_err-text-clause-front : goal.returns-in_err-text-clause-front
returns-in_err-text-clause-front g c =
    on_err c.from_residual.result _ (front_before named_sequent c.args.table.now c.args.list.now c.loop-obligation.obligation-index (g.K.Sink.written c.args.out.now) (g.K.Sink.written c.loop-obligation.out) c.loop-obligation.invariant.written)

pub returns-in_err-text-clause-appends : goal.returns-in_err-text-clause-appends
returns-in_err-text-clause-appends g c = appends_text _ (g.K.Sink.written c.args.out.now) (g.K.Sink.written c.loop-obligation.out) c.loop-obligation.invariant.written

-- ---- the sink fails
pub returns-in_err-put_all-clause-front : goal.returns-in_err-put_all-clause-front
returns-in_err-put_all-clause-front g c =
    on_err c.from_residual-in_err-put_all.result _
    (front_within named_sequent c.args.table.now c.args.list.now c.loop-obligation.obligation-index c.obligation-item.result c.deref.result.now (g.K.Sink.written c.args.out.now) (g.K.Sink.written c.loop-obligation.out) (g.K.Sink.written c.put_all.new.sink)
    c.loop-obligation-test.true c.obligation-item.is c.loop-obligation.invariant.written (c.deref.ensures.value ∙ c.in_ok-text.ensures) c.in_err-put_all.ensures.err)

pub returns-in_err-put_all-clause-appends : goal.returns-in_err-put_all-clause-appends
returns-in_err-put_all-clause-appends g c =
    appends_twice (g.K.Sink.written c.args.out.now) (g.K.Sink.written c.loop-obligation.out) (g.K.Sink.written c.put_all.new.sink) (appends_text _ (g.K.Sink.written c.args.out.now) (g.K.Sink.written c.loop-obligation.out) c.loop-obligation.invariant.written)
    (appends_front _ (g.K.Sink.written c.loop-obligation.out) (g.K.Sink.written c.put_all.new.sink) c.in_err-put_all.ensures.err)

-- ---- all are put
pub returns-clause-appends : goal.returns-clause-appends
returns-clause-appends g c = appends_text _ (g.K.Sink.written c.args.out.now) (g.K.Sink.written c.loop-obligation.out) c.loop-obligation.invariant.written

pub returns-clause-ok : goal.returns-clause-ok
returns-clause-ok g c = (refl, written_all named_sequent c.args.table.now c.args.list.now c.loop-obligation.obligation-index (g.K.Sink.written c.args.out.now) (g.K.Sink.written c.loop-obligation.out) (search rules) c.loop-obligation.invariant.written)

pub returns-clause-pieces : goal.returns-clause-pieces
returns-clause-pieces g c = (refl, pieces_all named_sequent c.args.table.now c.args.list.now c.loop-obligation.obligation-index (g.K.Sink.pieces c.args.out.now) (g.K.Sink.pieces c.loop-obligation.out) (search rules) c.loop-obligation.invariant.pieces)
