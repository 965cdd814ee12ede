use Rattle.std.proofs.Common.{◌≡◌, drop}
use Rattle.std.specs.Str.Lines.{lines}
use Rattle.bk_places.proofs.line.line_behind.Given as goal

abbrev pub invariant-loop-number : goal.invariant-loop-number
invariant-loop-number l = lines l.rest ≡ drop l.number (lines l.text)
