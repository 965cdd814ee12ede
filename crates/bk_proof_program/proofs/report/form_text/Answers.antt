use Rattle.std.proofs.Common.{sym, subst}
use Rattle.std.specs.Prelude.{IfOk}
use Rattle.bk_proof_words.specs.declared.task.ReportForm.{ReportForm}
use Rattle.bk_proof_program.specs.Told.{WritesReport}
use Rattle.bk_proof_program.proofs.report.form_text.Goals as goal

-- what is said of the form is said of the one that is asked for
pub returns-in-Html : goal.returns-in-Html
returns-in-Html c = subst (λ (f : ReportForm). IfOk c.html_page.result (λ text. WritesReport f c.args.report.now text.items)) (sym c.in-Html.is) c.html_page.ensures

pub returns-in-Json : goal.returns-in-Json
returns-in-Json c = subst (λ (f : ReportForm). IfOk c.json_line.result (λ text. WritesReport f c.args.report.now text.items)) (sym c.in-Json.is) c.json_line.ensures

pub returns-in-Text : goal.returns-in-Text
returns-in-Text c = subst (λ (f : ReportForm). IfOk c.report_text.result (λ text. WritesReport f c.args.report.now text.items)) (sym c.in-Text.is) c.report_text.ensures
