use Rattle.bk_verbs.proofs.proof.table_of.Goals as goal

pub returns-in_ok-past-in-Err-clause-cause : goal.returns-in_ok-past-in-Err-clause-cause
returns-in_ok-past-in-Err-clause-cause c = c.in_ok-past-in-Err.ensures.cause c.args.project.now.development c.in-Err.ensures.fault
