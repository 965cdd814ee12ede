use Rattle.std.proofs.Common.{inl, inr, subst}
use Rattle.bk_verbs.specs.Causes.{IsOfReading}
use Rattle.bk_proof_program.proofs.Ending.{reports_read, rose_later, told_behind}
use Rattle.bk_proof_program.proofs.program.explained.Goals as goal

pub written-requires : goal.written-requires
written-requires g c = c.in_default.not-WriteFault

pub returns-in-WriteFault-clause-failed : goal.returns-in-WriteFault-clause-failed
returns-in-WriteFault-clause-failed g c e = elim (c.report-status.ensures.failed c.in-WriteFault.is) [
  | inl is ↦ absurd (subst IsOfReading is c.requires.writing)
  | inr rose ↦ rose
]

pub returns-in_default-clause-told : goal.returns-in_default-clause-told
returns-in_default-clause-told g c =
    told_behind c.args.stop.now (g.K.Sink.written c.args.out.now) (g.K.Sink.written c.report-status.new.out) (g.K.Sink.written c.written.new.out) c.report-status.result c.written.result c.args.text.now c.report-status.ensures.reports c.written.ensures.told

pub returns-in_default-clause-read : goal.returns-in_default-clause-read
returns-in_default-clause-read g c = λ e.
    c.requires.reading (reports_read c.args.stop.now c.report-status.result (g.K.Sink.written c.args.out.now) (g.K.Sink.written c.report-status.new.out) c.report-status.ensures.reports (c.written.ensures.done e))

pub returns-in_default-clause-failed : goal.returns-in_default-clause-failed
returns-in_default-clause-failed g c e =
    rose_later (g.K.Sink.faults c.args.out.now) (g.K.Sink.faults c.report-status.new.out) (g.K.Sink.faults c.written.new.out) c.report-status.ensures.later (c.written.ensures.failed e)
