use Rattle.std.proofs.Common.{subst, sym}
use Rattle.bk_front.specs.ProjectFile.{AreLinesOf}
use Rattle.bk_verbs.specs.Project.{IsTold}
use Rattle.bk_verbs.proofs.Projects.{few_project_lines}
use Rattle.bk_verbs.proofs.Stopping.{at_lines}
use Rattle.bk_verbs.proofs.files.read_lines.Goals as goal

pub returns-in-Ok-clause-few : goal.returns-in-Ok-clause-few
returns-in-Ok-clause-few g c =
    few_project_lines c.in_ok-text.text.items c.in-Ok.lines.items c.in_ok-text.ensures.short (subst (λ x. AreLinesOf x c.in-Ok.lines.items) c.deref.ensures.value c.in-Ok.ensures.lines)

pub returns-clause-cause : goal.returns-clause-cause
returns-clause-cause g c files with_proofs told =
    at_lines with_proofs files c.args.name.now c.deref.result.now (subst (IsTold files c.args.name.now) (sym c.deref.ensures.value) (c.in_ok-text.ensures.told files told)) c.in-Err.refusal c.in_ok-refused-in-Err.field-0 c.in-Err.ensures.refusal c.in_ok-refused-in-Err.ensures.told
