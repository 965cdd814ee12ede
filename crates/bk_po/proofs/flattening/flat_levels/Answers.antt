use Rattle.std.proofs.Common.{arith}
use Rattle.bk_po.proofs.FlatEntries.{next_level, level_apart, level_below, levels_begin, levels_made, levels_entries}
use Rattle.bk_po.proofs.flattening.flat_levels.Goals as goal

pub flat_level-requires-clause-apart : goal.flat_level-requires-clause-apart
flat_level-requires-clause-apart c = level_apart c.args.table.now c.loop-level.table c.loop-level.list.items c.args.levels.now c.loop-level.level-index c.level-item.result c.loop-level-test.true c.level-item.is c.loop-level.invariant

pub flat_level-requires-clause-listed : goal.flat_level-requires-clause-listed
flat_level-requires-clause-listed c = level_below c.args.table.now c.loop-level.table c.loop-level.list.items c.args.levels.now c.loop-level.level-index c.level-item.result c.loop-level-test.true c.level-item.is c.loop-level.invariant

pub loop-level-init : goal.loop-level-init
loop-level-init c = levels_begin c.args.table.now _ c.args.levels.now c.new-list.ensures.items c.requires.apart c.requires.listed

pub loop-level-preserved : goal.loop-level-preserved
loop-level-preserved c = next_level c.args.table.now c.loop-level.table _ c.loop-level.list.items _ c.args.levels.now c.loop-level.level-index c.level-item.result _ c.loop-level-test.true c.level-item.is c.loop-level.invariant c.in_ok-flat_level.ensures.table c.in_ok-push.ensures.items c.in_ok-flat_level.ensures.level

pub returns-clause-levels : goal.returns-clause-levels
returns-clause-levels c = levels_made c.args.table.now c.loop-level.table c.loop-level.list.items c.args.levels.now c.loop-level.level-index (omega arith) c.loop-level.invariant

pub returns-clause-table : goal.returns-clause-table
returns-clause-table c = levels_entries c.args.table.now c.loop-level.table c.loop-level.list.items c.args.levels.now c.loop-level.level-index (omega arith) c.loop-level.invariant
