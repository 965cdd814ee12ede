use Rattle.std.proofs.Common.{◌≡◌, ◌+◌, drop}
use Rattle.bk_raw.specs.Errors.Blame.{blame, earlier}
use Rattle.bk_elab_terms.specs.Shown.{told}
use Rattle.bk_elab_terms.specs.Visible.{typing_of, visible_names}
use Rattle.bk_statics.specs.SubFaults.{old_faults}
use Rattle.bk_check_subs.proofs.judging.Judge.old_faults.Given as goal

abbrev pub invariant-loop-index : goal.invariant-loop-index
invariant-loop-index l = earlier (told l.fault) (blame (old_faults (typing_of l.self.typing.types.now) (visible_names l.self.names.now) (l.self.first + l.index) (drop l.index l.names))) ≡ blame (old_faults (typing_of l.self.typing.types.now) (visible_names l.self.names.now) l.self.first l.names)
