use Rattle.std.proofs.lemmas.Result.{IfOk-weaker}
use Rattle.bk_proof_program.proofs.report.written.Goals as goal

pub returns-in-Ok : goal.returns-in-Ok
returns-in-Ok c =
    IfOk-weaker c.form_text.result _ _ (λ text writes. (c.in-Ok.report, c.in-Ok.ensures.items, c.in-Ok.ensures.inputs, c.in-Ok.ensures.made, c.in-Ok.ensures.strays, writes)) c.form_text.ensures

pub report_of-requires : goal.report_of-requires
report_of-requires c = c.requires
