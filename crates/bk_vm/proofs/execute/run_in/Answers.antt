use Rattle.std.proofs.Common.{arith, []}
use Rattle.bk_vm.specs.Depth.{tops}
use Rattle.bk_vm.specs.Flows.{standing}
use Rattle.bk_vm.proofs.Steps.{done_ends, fuel_ends}
use Rattle.bk_vm.proofs.execute.run_in.Goals as goal

pub returns-in-Return-clause-ends : goal.returns-in-Return-clause-ends
returns-in-Return-clause-ends g c =
    done_ends c.args.image.now c.args.fuel c.loop-steps.steps (standing c.args.start [] c.args.cells.now)
    c.loop-steps.place (tops c.loop-steps.depth c.loop-steps.stack) c.loop-steps.cells c.step.new.cells (omega arith) c.loop-steps.invariant.leads
    c.in-Return.ensures.outcome c.in-Return.ensures.kept

pub returns-clause-ends : goal.returns-clause-ends
returns-clause-ends g c =
    fuel_ends c.args.image.now c.args.fuel c.loop-steps.steps (standing c.args.start [] c.args.cells.now)
    c.loop-steps.place (tops c.loop-steps.depth c.loop-steps.stack) c.loop-steps.cells c.loop-steps.invariant.within (omega arith) c.loop-steps.invariant.leads
