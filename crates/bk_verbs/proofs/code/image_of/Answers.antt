use Rattle.std.proofs.Common.{ap, Err}
use Rattle.bk_verbs.proofs.Stopping.{past_code}
use Rattle.bk_verbs.proofs.code.image_of.Goals as goal

pub returns-in-Ok-clause-within : goal.returns-in-Ok-clause-within
returns-in-Ok-clause-within c = record { code = c.in-Ok.ensures.within.0; cells = c.in-Ok.ensures.within.1; spelled = c.in-Ok.ensures.spelled }

pub returns-in_ok-past_limit-in-Err-clause-cause : goal.returns-in_ok-past_limit-in-Err-clause-cause
returns-in_ok-past_limit-in-Err-clause-cause c =
    past_code c.args.name.now c.args.dev.now c.in-Err.fault c.in_ok-past_limit-in-Err.field-0 (λ e. c.in-Err.ensures.too_long (ap Err e)) (λ e. c.in-Err.ensures.too_many (ap Err e)) c.in_ok-past_limit-in-Err.ensures.told
