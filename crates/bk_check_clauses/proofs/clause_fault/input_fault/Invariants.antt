use Rattle.std.proofs.Common.{◌≡◌, drop}
use Rattle.bk_raw.specs.Errors.Blame.{blame, earlier}
use Rattle.bk_elab_terms.specs.Shown.{told}
use Rattle.bk_elab_terms.specs.Visible.{typing_of, visible_names}
use Rattle.bk_statics.specs.ClauseFaults.{input_faults}
use Rattle.bk_check_clauses.proofs.clause_fault.input_fault.Given as goal

abbrev pub invariant-loop-index : goal.invariant-loop-index
invariant-loop-index l = earlier (told l.fault) (blame (input_faults (typing_of l.typing.types.now) (visible_names (drop l.index l.names)) (drop l.index l.inputs))) ≡ blame (input_faults (typing_of l.typing.types.now) (visible_names l.names) l.inputs)
