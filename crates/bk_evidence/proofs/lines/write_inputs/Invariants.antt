use Rattle.std.proofs.Common.{◌≡◌, ◌++◌, take}
use Rattle.bk_evidence.specs.Lines.{input_lines}
use Rattle.bk_evidence.proofs.lines.write_inputs.Given as goal

abbrev pub invariant-loop-input : goal.invariant-loop-input
invariant-loop-input l = l.text.items ≡ l.fn.text.items ++ input_lines (take l.input-index l.inputs)
