use Rattle.std.proofs.Common.{◌≡◌, ◌+◌, map, drop}
use Rattle.bk_raw.specs.Errors.Blame.{blame, earlier}
use Rattle.bk_elab_terms.specs.Shown.{told}
use Rattle.bk_elab_terms.specs.Visible.{typing_of}
use Rattle.bk_statics.specs.ClauseFaults.{variable_faults}
use Rattle.bk_scope.specs.Shown.{declared_shown, variables_shown}
use Rattle.bk_check_clauses.proofs.clause_fault.variable_fault.Given as goal

abbrev pub invariant-loop-index : goal.invariant-loop-index
invariant-loop-index l = earlier (told l.fault) (blame (variable_faults (typing_of l.typing.types.now) l.component.name.now.at (variables_shown l.component.variables.items) (l.plan.variables_at + l.index) (map declared_shown (drop l.index l.variable-items)))) ≡ blame (variable_faults (typing_of l.typing.types.now) l.component.name.now.at (variables_shown l.component.variables.items) l.plan.variables_at (map declared_shown l.variable-items))
