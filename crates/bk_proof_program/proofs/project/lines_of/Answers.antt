use Rattle.bk_verbs.proofs.Stopping.{at_lines}
use Rattle.std.proofs.Common.{true}
use Rattle.bk_proof_program.proofs.project.lines_of.Goals as goal

pub returns-in_ok-refused-in-Err-clause-cause : goal.returns-in_ok-refused-in-Err-clause-cause
returns-in_ok-refused-in-Err-clause-cause c files told =
    at_lines true files c.args.name.now c.args.text.now told c.in-Err.refusal c.in_ok-refused-in-Err.field-0 c.in-Err.ensures.refusal c.in_ok-refused-in-Err.ensures.told
