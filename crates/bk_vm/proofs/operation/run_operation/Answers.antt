use Rattle.std.proofs.Common.{length}
use Rattle.bk_vm.proofs.Calls.{entry_is, slots_stand, entry_good, call_ready, call_ends, outs_same}
use Rattle.bk_vm.proofs.operation.run_operation.Goals as goal

pub run-end-requires : goal.run-end-requires
run-end-requires c =
    let same = entry_is c.args.image.now c.args.op c.args.args.now (length c.args.outs.now) c.requires.takes c.as_slice.result.now c.index-as_slice-op.result c.as_slice.ensures c.index-as_slice-op.is in
    record {
      long = c.requires.room;
      ready = call_ready c.args.image.now c.args.op c.args.args.now (length c.args.outs.now) c.args.cells.now c.requires.takes c.requires.checked c.requires.cells
          c.index-as_slice-op.result c.as_slice-2.result.now c.place_arguments.new.cells same c.as_slice-2.ensures c.place_arguments.ensures;
    }

pub give_outputs-requires-clause-counted : goal.give_outputs-requires-clause-counted
give_outputs-requires-clause-counted c =
    let same = entry_is c.args.image.now c.args.op c.args.args.now (length c.args.outs.now) c.requires.takes c.as_slice.result.now c.index-as_slice-op.result c.as_slice.ensures c.index-as_slice-op.is in
    rw (c.as_slice-in-Done.ensures, same) c.requires.takes.counted

pub give_outputs-requires-clause-slots : goal.give_outputs-requires-clause-slots
give_outputs-requires-clause-slots c =
    let same = entry_is c.args.image.now c.args.op c.args.args.now (length c.args.outs.now) c.requires.takes c.as_slice.result.now c.index-as_slice-op.result c.as_slice.ensures c.index-as_slice-op.is in
    let good = entry_good c.args.image.now c.args.op c.args.args.now (length c.args.outs.now) c.requires.checked c.requires.takes in
    rw (c.as_slice-in-Done.ensures, same) (slots_stand c.args.image.now c.run-end.new.cells c.requires.takes.entry.outputs c.run-end.ensures.kept good.outputs)

pub returns-in-Done-clause-ends : goal.returns-in-Done-clause-ends
returns-in-Done-clause-ends c =
    let same = entry_is c.args.image.now c.args.op c.args.args.now (length c.args.outs.now) c.requires.takes c.as_slice.result.now c.index-as_slice-op.result c.as_slice.ensures c.index-as_slice-op.is in
    call_ends c.args.image.now c.args.op c.args.args.now (length c.args.outs.now) c.args.cells.now c.requires.takes c.args.fuel
    c.index-as_slice-op.result c.as_slice-2.result.now c.place_arguments.new.cells c.args.outs.now c.run-end.result c.run-end.new.cells c.give_outputs.new.outs
    same c.as_slice-2.ensures c.place_arguments.ensures c.run-end.ensures.ends
    (rw (c.in-Done.is, ← c.as_slice-in-Done.ensures) c.give_outputs.ensures)

pub returns-in_default : goal.returns-in_default
returns-in_default c =
    let same = entry_is c.args.image.now c.args.op c.args.args.now (length c.args.outs.now) c.requires.takes c.as_slice.result.now c.index-as_slice-op.result c.as_slice.ensures c.index-as_slice-op.is in
    record {
      ends = call_ends c.args.image.now c.args.op c.args.args.now (length c.args.outs.now) c.args.cells.now c.requires.takes c.args.fuel
          c.index-as_slice-op.result c.as_slice-2.result.now c.place_arguments.new.cells c.args.outs.now c.run-end.result c.run-end.new.cells c.args.outs.now
          same c.as_slice-2.ensures c.place_arguments.ensures c.run-end.ensures.ends
          (outs_same c.run-end.result c.index-as_slice-op.result.outputs c.run-end.new.cells c.args.outs.now c.in_default.not-Done);
      kept = c.run-end.ensures.kept;
      room = c.run-end.ensures.long;
    }
