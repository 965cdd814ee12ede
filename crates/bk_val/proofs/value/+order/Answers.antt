use Rattle.std.proofs.Common.{arith, sym, ◌∙◌}
use Rattle.bk_val.proofs.Order.{rest_cmp-equal, rest_cmp-unequal, rest_cmp-end}
use Rattle.bk_val.proofs.value.+order.Goals as goal

pub compare_items-returns-in_default : goal.compare_items-returns-in_default
compare_items-returns-in_default t c =
    c.compare.ensures ∙ rest_cmp-unequal c.loop-i.i c.args.a.now c.args.b.now _ _ (omega arith) (omega arith) c.index-a-i.is c.index-b-i.is (λ e. c.in_default.not-Equal (c.compare.ensures ∙ e)) ∙ c.loop-i.invariant

pub compare_items-loop-i-preserved : goal.compare_items-loop-i-preserved
compare_items-loop-i-preserved t c =
    rest_cmp-equal c.loop-i.i c.args.a.now c.args.b.now _ _ (omega arith) (omega arith) c.index-a-i.is c.index-b-i.is (sym c.compare.ensures ∙ c.in-Equal.is) ∙ c.loop-i.invariant

pub compare_items-returns : goal.compare_items-returns
compare_items-returns t c = c.cmp.ensures ∙ sym (rest_cmp-end c.args.a.now c.args.b.now c.loop-i.i (omega arith)) ∙ c.loop-i.invariant
