use Rattle.std.proofs.Common.{sym, subst, take, ◌+◌}
use Rattle.std.specs.List.{AllZip}
use Rattle.bk_scripts.specs.Grounding.{StandsFor}
use Rattle.bk_scripts.proofs.Turns.{zip_turn}
use Rattle.bk_scripts.proofs.script.rules_in.Goals as goal

pub loop-raw-preserved : goal.loop-raw-preserved
loop-raw-preserved c =
    let stands = StandsFor (record { table = c.args.table.now; scope = c.args.scope.now }) in
    subst (AllZip stands (take (c.loop-raw.raw-index + 1) c.args.written.now)) (sym c.in_ok-push.ensures.items) (zip_turn c.args.written.now c.loop-raw.raw-index c.raw-item.result c.loop-raw-test.true c.raw-item.is stands c.loop-raw.rules.items c.in_ok-rule.field-0 c.loop-raw.invariant c.in_ok-rule.ensures)
