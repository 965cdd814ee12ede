use Rattle.std.proofs.Common.{take, map, ◌+◌}
use Rattle.bk_scripts.specs.Brought.{type_in}
use Rattle.bk_scripts.proofs.Bringing.{further, table_turn, scope_turn}
use Rattle.bk_scripts.proofs.brought.widen.Goals as goal

pub loop-name-preserved : goal.loop-name-preserved
loop-name-preserved c =
    let typed = type_in c.args.over.now c.args.types.now in
    let done = map (λ y. y.now) (take c.loop-name.name-index c.args.names.now) in
    let all = map (λ y. y.now) (take (c.loop-name.name-index + 1) c.args.names.now) in
    let x = c.name-item.result.now in
    let more = further (λ y. y.now) c.args.names.now c.loop-name.name-index c.name-item.result c.loop-name-test.true c.name-item.is in
    record {
      table = table_turn typed c.args.table.now c.loop-name.table c.add_name.new.table done all x more c.loop-name.invariant.table c.in_ok-add_name.ensures.table;
      scope = scope_turn typed c.args.table.now c.loop-name.table c.args.scope.now c.loop-name.scope c.add_name.new.scope done all x more c.loop-name.invariant.table c.loop-name.invariant.scope c.in_ok-add_name.ensures.scope;
    }
