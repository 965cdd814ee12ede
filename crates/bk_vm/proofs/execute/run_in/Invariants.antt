use Rattle.std.proofs.Common.{◌≡◌, ◌-◌, ◌≤◌, [], length}
use Rattle.bk_limits.specs.declared.TheConstants.{STACK_ROOM}
use Rattle.bk_code.specs.Run.{Leads}
use Rattle.bk_vm.specs.Depth.{tops}
use Rattle.bk_vm.specs.Flows.{standing, IsReady}
use Rattle.bk_vm.proofs.execute.run_in.Given as goal

abbrev pub invariant-loop-steps : goal.invariant-loop-steps
invariant-loop-steps g l = record {
  within : l.steps ≤ l.fuel;
  leads : Leads l.image l.steps (standing l.fn.start [] l.fn.cells) (standing l.place (tops l.depth l.stack) l.cells);
  ready : IsReady l.image (standing l.place (tops l.depth l.stack) l.cells);
  long : length l.stack ≡ STACK_ROOM;
  code : l.code ≡ l.image.code;
}

abbrev pub decreases-loop-steps : goal.decreases-loop-steps
decreases-loop-steps g l = l.fuel - l.steps
