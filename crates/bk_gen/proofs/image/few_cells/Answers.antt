use Rattle.std.proofs.Common.{◌≤◌, arith}
use Rattle.bk_limits.specs.declared.TheConstants.{MOST_CELLS}
use Rattle.bk_b0.specs.CodeUnit.{slots_cells}
use Rattle.bk_gen.proofs.Whole.{exactly}
use Rattle.bk_gen.proofs.image.few_cells.Goals as goal

pub overflow_cast-result : goal.overflow_cast-result
overflow_cast-result c =
    let u = c.args.unit.now in
    let few : slots_cells u.slots ≤ MOST_CELLS = c.requires.few in
    omega (arith, few, exactly u c.slots.result.now c.cell_count.result c.slots.ensures c.cell_count.ensures c.requires.few)

pub returns : goal.returns
returns c = exactly c.args.unit.now c.slots.result.now c.cell_count.result c.slots.ensures c.cell_count.ensures c.requires.few
