use Rattle.std.proofs.Common.{◌≡◌, take}
use Rattle.bk_code.specs.Session.{outputs_of}
use Rattle.bk_vm.proofs.operation.give_outputs.Given as goal

abbrev pub invariant-loop-i : goal.invariant-loop-i
invariant-loop-i l = take l.i l.outs ≡ outputs_of (take l.i l.outputs) l.cells
