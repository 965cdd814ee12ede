use Rattle.std.proofs.Common.{[], List}
use Rattle.std.specs.Borrow.{Bor}
use Rattle.bk_elab_terms.specs.Visible.{typing_of, visible_names}
use Rattle.bk_raw.specs.declared.component.RawValue.{RawValue}
use Rattle.bk_statics.specs.LevelOf.{value_of, with_value, values_made}
use Rattle.bk_statics.specs.Typings.{variable_named}
use Rattle.bk_scope.specs.Shown.{refs}
use Rattle.bk_scope.proofs.FaultLists.{value-next}
use Rattle.bk_scope.proofs.FaultSteps.{found-next}
use Rattle.bk_check_clauses.proofs.values.values_made.Goals as goal

pub loop-entry-preserved : goal.loop-entry-preserved
loop-entry-preserved c =
    let max = c.args.typing.max in
    let t = typing_of c.args.typing.types.now in
    let globals = visible_names c.args.globals.now in
    let v : Bor RawValue = c.entry-item.result in
    found-next (λ (l : List (Bor RawValue)). values_made max t globals (refs l)) (with_value (variable_named globals v.now.name.text) (value_of max t globals v.now) []) c.args.values.now c.loop-entry.entry-index v c.loop-entry.found.items c.push_value.new.found.items _
    (value-next (variable_named globals v.now.name.text) (value_of max t globals v.now) _) c.loop-entry-test.true c.entry-item.is c.in_ok-push_value.ensures c.loop-entry.invariant
