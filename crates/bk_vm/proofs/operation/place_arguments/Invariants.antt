use Rattle.std.proofs.Common.{◌≡◌, drop, length}
use Rattle.bk_code.specs.Session.{placed}
use Rattle.bk_vm.proofs.operation.place_arguments.Given as goal

abbrev pub invariant-loop-i : goal.invariant-loop-i
invariant-loop-i l = record {
  rest : placed (drop l.i l.inputs) (drop l.i l.args) l.cells ≡ placed l.inputs l.args l.fn.cells;
  long : length l.cells ≡ length l.fn.cells;
}
