use Rattle.std.proofs.Common.{◌≡◌, ◌≤◌, ◌++◌, length, take}
use Rattle.bk_calls.specs.Transcript.{value_texts, given_text}
use Rattle.bk_calls.specs.Room.{longest_given}
use Rattle.bk_calls.proofs.transcript.write_outputs.Given as goal

abbrev pub invariant-loop-i : goal.invariant-loop-i
invariant-loop-i l = record {
  written : l.line.bytes ≡ l.fn.line.bytes ++ given_text (value_texts l.image (take l.i l.outputs) (take l.i l.values));
  room : l.line.room ≡ l.fn.line.room;
  short : length (given_text (value_texts l.image (take l.i l.outputs) (take l.i l.values))) ≤ length (longest_given l.image (take l.i l.outputs));
}
