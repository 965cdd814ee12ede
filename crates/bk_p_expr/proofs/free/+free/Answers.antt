use Rattle.std.proofs.Common.{◌∙◌, ap}
use Rattle.bk_raw.specs.declared.term.RawRange.{RawRange}
use Rattle.bk_p_expr.specs.Conjuncts.{free_names}
use Rattle.bk_p_expr.proofs.Known.{turn_of_terms, turn_of_ranges}
use Rattle.bk_p_expr.proofs.free.+free.Goals as goal

pub free_names_of-loop-term-preserved : goal.free_names_of-loop-term-preserved
free_names_of-loop-term-preserved t c =
    turn_of_terms c.args.terms.now c.loop-term.term-index c.term-item.result c.loop-term.all.items c.in_ok-free_names.field-0.items c.in_ok-all.all.items c.loop-term-test.true c.loop-term.invariant
    (c.in_ok-free_names.ensures ∙ ap free_names c.term-item.is) c.in_ok-all.ensures

pub free_names_of_ranges-loop-range-preserved : goal.free_names_of_ranges-loop-range-preserved
free_names_of_ranges-loop-range-preserved t c =
    turn_of_ranges c.args.ranges.now c.loop-range.range-index c.range-item.result c.loop-range.all.items c.in_ok-free_names.field-0.items c.in_ok-all.all.items c.loop-range-test.true c.loop-range.invariant
    (c.in_ok-free_names.ensures ∙ ap (λ (r : RawRange). free_names r.range) c.range-item.is) c.in_ok-all.ensures
