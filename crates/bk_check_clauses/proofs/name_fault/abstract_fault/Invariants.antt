use Rattle.std.proofs.Common.{◌≡◌, map, drop}
use Rattle.bk_raw.specs.Errors.Blame.{blame, earlier}
use Rattle.bk_elab_terms.specs.Shown.{told}
use Rattle.bk_statics.specs.Components.{abstract_names}
use Rattle.bk_statics.specs.NameFaults.{taken}
use Rattle.bk_statics.specs.Plan.{declared_texts}
use Rattle.bk_scope.specs.Shown.{declared_shown, variables_shown}
use Rattle.bk_check_clauses.proofs.name_fault.abstract_fault.Given as goal

abbrev pub invariant-loop-variable : goal.invariant-loop-variable
invariant-loop-variable l = earlier (told l.fault) (blame (taken (declared_texts (map declared_shown l.standing)) (abstract_names (variables_shown (drop l.variable-index l.variable-items))))) ≡ blame (taken (declared_texts (map declared_shown l.standing)) (abstract_names (variables_shown l.variable-items)))
