use Rattle.std.proofs.Common.{◌∙◌, ap}
use Rattle.bk_elab_terms.specs.Visible.{visible_names}
use Rattle.bk_scope.specs.Shown.{above_shown}
use Rattle.bk_scope.proofs.FaultLists.{variables-next}
use Rattle.bk_check_clauses.proofs.name_fault.all_variables.Goals as goal

pub loop-number-preserved : goal.loop-number-preserved
loop-number-preserved c =
    variables-next (above_shown c.args.above) c.levels-levels.result.now c.loop-number.number c.index-levels-number.result c.loop-number.names.items c.deref.result.now c.extend_from_slice.new.self.items _ c.loop-number-test.true c.index-levels-number.is
    (ap visible_names c.deref.ensures.value ∙ c.in_ok-variables.ensures) c.in_ok-extend_from_slice.ensures.items c.loop-number.invariant
