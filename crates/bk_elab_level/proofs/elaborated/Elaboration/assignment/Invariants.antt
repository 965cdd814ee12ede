use Rattle.std.proofs.Common.{◌≡◌, ◌++◌, drop}
use Rattle.bk_elab_terms.specs.Visible.{typing_of, visible_names}
use Rattle.bk_raw.specs.Trees.RawTree.{trees_of}
use Rattle.bk_statics.specs.Elaborated.{assigned_pairs}
use Rattle.bk_elab_level.proofs.elaborated.Elaboration.assignment.Given as goal

abbrev pub invariant-loop-index : goal.invariant-loop-index
invariant-loop-index l = l.pairs.items ++ assigned_pairs l.self.typing.max (typing_of l.self.typing.types.now) (visible_names l.self.names.now) (drop l.index l.names) (trees_of (drop l.index l.terms)) ≡ assigned_pairs l.self.typing.max (typing_of l.self.typing.types.now) (visible_names l.self.names.now) l.names (trees_of l.terms)
