use Rattle.std.proofs.Common.{◌≡◌, ◌⊎◌, inl, inr, subst}
use Rattle.bk_io.specs.Pieces.{written_with}
use Rattle.bk_verbs.specs.Stops.{IsCutShort}
use Rattle.bk_verbs.specs.declared.status.Status.TheVariants.{Usage}
use Rattle.bk_proof_program.proofs.Ending.{reports_read, usage_is_no_read_fault, usage_is_no_write_fault}
use Rattle.bk_proof_program.proofs.program.write_stop.Goals as goal

pub written-requires : goal.written-requires
written-requires g c = usage_is_no_write_fault

pub returns-in-Usage-clause-told : goal.returns-in-Usage-clause-told
returns-in-Usage-clause-told g c =
    inl (c.in-Usage.is, subst (λ t. IsCutShort c.written.result ⊎ ((c.written.result ≡ Usage) × (g.K.Sink.written c.written.new.out ≡ written_with (g.K.Sink.written c.args.out.now) t))) c.as_bytes.ensures.value c.written.ensures.told)

pub returns-in-Usage-clause-read : goal.returns-in-Usage-clause-read
returns-in-Usage-clause-read g c = λ e. absurd (usage_is_no_read_fault (c.written.ensures.done e))

pub returns-in_default-clause-told : goal.returns-in_default-clause-told
returns-in_default-clause-told g c = inr (c.in_default.not-Usage, c.report.ensures.reports)

pub returns-in_default-clause-read : goal.returns-in_default-clause-read
returns-in_default-clause-read g c = reports_read c.args.stop.now c.report.result (g.K.Sink.written c.args.out.now) (g.K.Sink.written c.report.new.out) c.report.ensures.reports

pub returns-in_default-clause-failed : goal.returns-in_default-clause-failed
returns-in_default-clause-failed g c e = elim (c.report.ensures.failed e) [
  | inl is ↦ absurd (c.requires is)
  | inr rose ↦ rose
]
