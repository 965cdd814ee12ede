use Rattle.std.proofs.Common.{◌≡◌, drop}
use Rattle.bk_raw.specs.Trees.FreeNames.{is_among}
use Rattle.bk_elab_terms.proofs.written.is_among.Given as goal

abbrev pub invariant-loop-name : goal.invariant-loop-name
invariant-loop-name l = is_among l.text (drop l.name-index l.names) ≡ is_among l.text l.names
