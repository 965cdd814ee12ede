use Rattle.std.proofs.Common.{arith}
use Rattle.bk_elab_terms.specs.Shown.{told}
use Rattle.bk_elab_terms.specs.Visible.{visible_names}
use Rattle.bk_scope.specs.Shown.{above_shown, refs}
use Rattle.bk_check_clauses.proofs.ValueSteps.{size-next, size-end}
use Rattle.bk_check_clauses.proofs.values.missing_size.Goals as goal

pub loop-set-preserved : goal.loop-set-preserved
loop-set-preserved c =
    size-next c.args.component.now.name.now.at (visible_names c.args.globals.now) (refs c.args.component.now.values.items) (above_shown c.args.above).table c.loop-set.set c.lacks_size-is_missing.result (told c.loop-set.fault) (told c.wrong_value_if.result) (told c.earlier-fault.result) _
    (omega arith) (rw c.deref.ensures.value at c.lacks_size-is_missing.ensures) c.wrong_value_if.ensures c.earlier-fault.ensures c.loop-set.invariant

pub returns : goal.returns
returns c = size-end c.args.component.now.name.now.at (visible_names c.args.globals.now) (refs c.args.component.now.values.items) (above_shown c.args.above).table.sets c.loop-set.set (told c.loop-set.fault) _ (omega arith) c.loop-set.invariant
