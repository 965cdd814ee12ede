use Rattle.bk_sources.proofs.FileSteps.{bytes_of}
use Rattle.bk_front.specs.Project.{IsRefusalIn}
use Rattle.bk_front.proofs.Steps.{err_told}
use Rattle.bk_front.proofs.reading.all_components.Goals as goal

pub returns-in-Err-clause-refusal : goal.returns-in-Err-clause-refusal
returns-in-Err-clause-refusal c top kinds = c.refusal_of.ensures top kinds (bytes_of c.args.texts.now) c.in-Err.ensures.fault

pub returns-in_err-read-clause-refusal : goal.returns-in_err-read-clause-refusal
returns-in_err-read-clause-refusal c top kinds = err_told c.from_residual.result c.in_err-read.field-0.0 (IsRefusalIn top kinds (bytes_of c.args.texts.now)) c.from_residual.ensures.1 (c.in_err-read.ensures.refusal top kinds)
