use Rattle.std.proofs.Common.{◌≡◌, drop}
use Rattle.bk_raw.specs.Errors.Blame.{blame, earlier}
use Rattle.bk_elab_terms.specs.Shown.{told}
use Rattle.bk_statics.specs.Components.{abstract_names}
use Rattle.bk_statics.specs.Executable.{abstract_faults}
use Rattle.bk_scope.specs.Shown.{variables_shown}
use Rattle.bk_check_b0.proofs.executable.abstract_fault.Given as goal

abbrev pub invariant-loop-variable : goal.invariant-loop-variable
invariant-loop-variable l = earlier (told l.fault) (blame (abstract_faults (abstract_names (variables_shown (drop l.variable-index l.component.variables.items))))) ≡ blame (abstract_faults (abstract_names (variables_shown l.component.variables.items)))
