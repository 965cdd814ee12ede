use Rattle.std.proofs.Common.{◌∙◌, sym, ap}
use Rattle.bk_proof_program.specs.Explained.{task_with}
use Rattle.bk_proof_program.proofs.explain.command_of.Goals as goal

pub returns-in-Some-clause-task : goal.returns-in-Some-clause-task
returns-in-Some-clause-task c = c.session_of.ensures.task ∙ ap (task_with c.args.asked.file.now c.args.asked.is_image) (sym c.in-Some.is)

pub returns-in-None-clause-task : goal.returns-in-None-clause-task
returns-in-None-clause-task c = ap (task_with c.args.asked.file.now c.args.asked.is_image) (sym c.in-None.is)
