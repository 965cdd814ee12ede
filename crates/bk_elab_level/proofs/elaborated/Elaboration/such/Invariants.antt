use Rattle.std.proofs.Common.{◌≡◌, ◌+◌, ◌++◌, drop}
use Rattle.bk_elab_terms.specs.Visible.{visible_names}
use Rattle.bk_statics.specs.Elaborated.{old_pairs}
use Rattle.bk_elab_level.proofs.elaborated.Elaboration.such.Given as goal

abbrev pub invariant-loop-index : goal.invariant-loop-index
invariant-loop-index l = l.pairs.items ++ old_pairs (visible_names l.self.names.now) (l.self.first + l.index) (drop l.index l.names) ≡ old_pairs (visible_names l.self.names.now) l.self.first l.names
