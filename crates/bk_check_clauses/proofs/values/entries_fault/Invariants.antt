use Rattle.std.proofs.Common.{◌≡◌, [], take, drop}
use Rattle.bk_raw.specs.Errors.Blame.{blame, earlier}
use Rattle.bk_elab_terms.specs.Shown.{told}
use Rattle.bk_elab_terms.specs.Visible.{typing_of, visible_names}
use Rattle.bk_statics.specs.ValueFaults.{entry_value_faults, valued}
use Rattle.bk_scope.specs.Shown.{refs}
use Rattle.bk_check_clauses.proofs.values.entries_fault.Given as goal

abbrev pub invariant-loop-index : goal.invariant-loop-index
invariant-loop-index l = earlier (told l.fault) (blame (entry_value_faults l.typing.max (typing_of l.typing.types.now) (visible_names l.globals) (valued (visible_names l.globals) (refs (take l.index l.values))) (refs (drop l.index l.values)))) ≡ blame (entry_value_faults l.typing.max (typing_of l.typing.types.now) (visible_names l.globals) [] (refs l.values))
