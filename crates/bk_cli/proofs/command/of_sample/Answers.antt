use Rattle.std.proofs.Common.{arith}
use Rattle.bk_cli.proofs.Asking.{no_sample}
use Rattle.bk_cli.proofs.command.of_sample.Goals.{then-variables-eq0-via-then-variables-eq0, then-variables-eq0-via-else-variables-eq0+then-variables-gt-MOST_SAMPLE_VARIABLES}
use Rattle.bk_cli.proofs.command.of_sample.Goals as goal

pub returns-then-variables-eq0-clause-meant : goal.returns-then-variables-eq0-clause-meant
returns-then-variables-eq0-clause-meant c =
    no_sample c.args.size.now c.in_ok-variables.variables (omega arith) c.in_ok-variables.ensures (λ h.
    elim c.then-variables-eq0.branch as (λ _. ⊥) [
      | then-variables-eq0-via-then-variables-eq0 w ↦ absurd (omega (arith, h.0))
      | then-variables-eq0-via-else-variables-eq0+then-variables-gt-MOST_SAMPLE_VARIABLES w ↦ absurd (omega (arith, h.1))
    ])
