use Rattle.std.proofs.Common.{◌≡◌, drop}
use Rattle.bk_places.specs.Places.{last_line, last_line_from}
use Rattle.bk_places.proofs.place.last_line.Given as goal

abbrev pub invariant-loop-index : goal.invariant-loop-index
invariant-loop-index l = last_line_from l.line (drop l.index l.text) ≡ last_line l.text
