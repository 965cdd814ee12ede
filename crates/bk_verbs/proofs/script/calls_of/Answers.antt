use Rattle.std.proofs.Common.{ap, Err}
use Rattle.bk_verbs.proofs.Projects.{few_lines}
use Rattle.bk_verbs.proofs.Stopping.{past_script}
use Rattle.bk_verbs.proofs.script.calls_of.Goals as goal

pub calls-requires-clause-few_lines : goal.calls-requires-clause-few_lines
calls-requires-clause-few_lines c = few_lines c.args.text.now c.requires.short

pub returns-in_ok-bad_calls-in-Err-clause-cause : goal.returns-in_ok-bad_calls-in-Err-clause-cause
returns-in_ok-bad_calls-in-Err-clause-cause c =
    past_script c.args.name.now c.args.text.now c.args.image.now c.in-Err.fault c.in_ok-bad_calls-in-Err.field-0 (λ number cause e. c.in-Err.ensures.line number cause (ap Err e)) (λ e. c.in-Err.ensures.limit (ap Err e)) c.in_ok-bad_calls-in-Err.ensures.told
