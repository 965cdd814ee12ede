use Rattle.std.proofs.Common.{◌≡◌, drop}
use Rattle.bk_raw.specs.Trees.FreeNames.{is_among}
use Rattle.bk_p_sub.proofs.defining.among.Given as goal

abbrev pub invariant-loop-other : goal.invariant-loop-other
invariant-loop-other l = is_among l.name (drop l.other-index l.names) ≡ is_among l.name l.names
