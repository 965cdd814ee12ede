use Rattle.std.proofs.Common.{◌⊎◌, refl, subst, rules}
use Rattle.bk_verbs.specs.Prepared.{IsPrepared}
use Rattle.bk_verbs.specs.Stops.{IsOutside, StopsTask}
use Rattle.bk_proof_program.proofs.explain.explain_answer.Goals as goal

pub returns-in-Ok-clause-told : goal.returns-in-Ok-clause-told
returns-in-Ok-clause-told g c files told =
    (search rules, refl, c.in-Ok.field-0, subst (λ t. IsPrepared files t c.in-Ok.field-0) c.command_of-command.ensures.task (c.in-Ok.ensures.told files told))

pub returns-clause-told : goal.returns-clause-told
returns-clause-told g c files told =
    subst (λ t. IsOutside c.in-Err.stop ⊎ StopsTask files t c.in-Err.stop) c.command_of-command.ensures.task (c.in-Err.ensures.cause files told)
