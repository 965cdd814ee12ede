use Rattle.std.proofs.Common.{◌∙◌}
use Rattle.std.specs.Prelude.{◌&&◌, not}
use Rattle.bk_elab_terms.specs.Shown.{told}
use Rattle.bk_elab_terms.specs.Visible.{typing_of, visible_names}
use Rattle.bk_statics.specs.ValueFaults.{is_there}
use Rattle.bk_scope.proofs.FaultLists.{entries-next}
use Rattle.bk_check_clauses.proofs.values.entries_fault.Goals as goal

pub loop-index-preserved : goal.loop-index-preserved
loop-index-preserved c =
    entries-next c.args.typing.max (typing_of c.args.typing.types.now) (visible_names c.args.globals.now) c.args.values.now c.loop-index.index c.index-values-index.result c.is_right.result (told c.loop-index.fault) (told c.wrong_value_unless.result) (told c.earlier-fault.result) _
    c.loop-index-test.true c.index-values-index.is (c.is_right.ensures ∙ (λ i. is_there (c.in_ok-value.ensures i) && not (c.is_valued_before-again.ensures i))) c.wrong_value_unless.ensures c.earlier-fault.ensures c.loop-index.invariant
