use Rattle.std.proofs.Common.{◌∙◌, [], option_map, ap}
use Rattle.std.specs.Prelude.{unwrap_or}
use Rattle.std.proofs.lemmas.Result.{IfOk-weaker}
use Rattle.bk_dev.specs.Development.{Level}
use Rattle.bk_proof_program.proofs.report.first_name.Goals as goal

pub returns-in-Some : goal.returns-in-Some
returns-in-Some c =
    IfOk-weaker c.level_name.result _ _ (λ name e. e ∙ ap (λ o. unwrap_or (option_map (λ (level : Level). level.name) o) []) c.in-Some.ensures.value) c.level_name.ensures
