use Rattle.std.proofs.Common.{◌≡◌, ◌+◌, length}
use Rattle.bk_elab_terms.specs.Visible.{typing_of}
use Rattle.bk_elab.specs.Answered.{variables_added}
use Rattle.bk_statics.specs.LevelOf.{entries_from}
use Rattle.bk_elab.proofs.levels.with_types.Given as goal

abbrev pub invariant-loop-text : goal.invariant-loop-text
invariant-loop-text l = (variables_added l.found.items ≡ entries_from (typing_of l.typing.types.now) l.first l.yielded) × (l.number ≡ l.first + length l.yielded)
