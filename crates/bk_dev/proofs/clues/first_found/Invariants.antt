use Rattle.std.proofs.Common.{◌≡◌, drop}
use Rattle.bk_dev.specs.Layout.{first_clue}
use Rattle.bk_dev.proofs.clues.first_found.Given as goal

abbrev pub invariant-loop-part : goal.invariant-loop-part
invariant-loop-part l = first_clue l.variable l.left.items (drop l.part-index l.parts) ≡ first_clue l.variable l.fn.typeless.items l.parts
