use Rattle.std.proofs.Common.{◌≡◌, ◌+◌, drop}
use Rattle.bk_raw.specs.Errors.Blame.{blame, earlier}
use Rattle.bk_elab_terms.specs.Shown.{told}
use Rattle.bk_elab_terms.specs.Visible.{typing_of}
use Rattle.bk_statics.specs.SubFaults.{declared_faults}
use Rattle.bk_check_subs.proofs.judging.declared_fault.Given as goal

abbrev pub invariant-loop-index : goal.invariant-loop-index
invariant-loop-index l = earlier (told l.fault) (blame (declared_faults (typing_of l.typing.types.now) (l.first + l.index) (drop l.index l.names))) ≡ blame (declared_faults (typing_of l.typing.types.now) l.first l.names)
