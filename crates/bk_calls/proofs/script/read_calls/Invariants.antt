use Rattle.std.proofs.Common.{◌≡◌, ◌+◌, map, length}
use Rattle.std.specs.Str.Lines.{lines}
use Rattle.bk_calls.specs.Script.{request_of}
use Rattle.bk_calls.specs.Reading.{in_front, read_lines}
use Rattle.bk_calls.proofs.script.read_calls.Given as goal

abbrev pub invariant-loop-line : goal.invariant-loop-line
invariant-loop-line l = record {
  read : in_front (map request_of l.calls.items) (read_lines l.image l.number (length l.calls.items) (lines l.rest)) ≡ read_lines l.fn.image 0 0 (lines l.fn.text);
  counted : l.number + length (lines l.rest) ≡ length (lines l.fn.text);
}

abbrev pub decreases-loop-line : goal.decreases-loop-line
decreases-loop-line l = length l.rest
