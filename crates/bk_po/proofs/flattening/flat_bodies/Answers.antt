use Rattle.std.proofs.Common.{arith}
use Rattle.bk_po.proofs.FlatEntries.{next_body, body_apart, bodies_begin, bodies_made, bodies_entries}
use Rattle.bk_po.proofs.flattening.flat_bodies.Goals as goal

pub flat_body-requires : goal.flat_body-requires
flat_body-requires c = body_apart c.args.table.now c.loop-body.table c.loop-body.list.items c.args.bodies.now c.loop-body.body-index c.body-item.result c.loop-body-test.true c.body-item.is c.loop-body.invariant

pub loop-body-init : goal.loop-body-init
loop-body-init c = bodies_begin c.args.table.now _ c.args.bodies.now c.new-list.ensures.items c.requires.apart c.requires.listed

pub loop-body-preserved : goal.loop-body-preserved
loop-body-preserved c = next_body c.args.table.now c.loop-body.table _ c.loop-body.list.items _ c.args.bodies.now c.loop-body.body-index c.body-item.result _ c.loop-body-test.true c.body-item.is c.loop-body.invariant c.in_ok-flat_body.ensures.table c.in_ok-push.ensures.items c.in_ok-flat_body.ensures.body

pub returns-clause-bodies : goal.returns-clause-bodies
returns-clause-bodies c = bodies_made c.args.table.now c.loop-body.table c.loop-body.list.items c.args.bodies.now c.loop-body.body-index (omega arith) c.loop-body.invariant

pub returns-clause-table : goal.returns-clause-table
returns-clause-table c = bodies_entries c.args.table.now c.loop-body.table c.loop-body.list.items c.args.bodies.now c.loop-body.body-index (omega arith) c.loop-body.invariant
