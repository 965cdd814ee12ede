use Rattle.std.proofs.Common.{◌≡◌, drop}
use Rattle.bk_elab_terms.specs.Visible.{visible_names}
use Rattle.bk_raw.specs.Trees.RawTree.{trees_of}
use Rattle.bk_statics.specs.Ways.{among_terms}
use Rattle.bk_infer.proofs.ways.among_terms.Given as goal

abbrev pub invariant-loop-index : goal.invariant-loop-index
invariant-loop-index l = among_terms (visible_names l.place.names.value.items) l.variable (drop l.index l.names) (trees_of (drop l.index l.terms)) ≡ among_terms (visible_names l.place.names.value.items) l.variable l.names (trees_of l.terms)
