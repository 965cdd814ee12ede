use Rattle.std.proofs.Common.{◌∙◌, sym, ap, arith, true, false, Some, None}
use Rattle.bk_scripts.proofs.Finds.{set_turn}
use Rattle.bk_scripts.proofs.found.set_named.Goals as goal

pub loop-number-preserved : goal.loop-number-preserved
loop-number-preserved c = sym (set_turn c.args.table.now.sets c.loop-number.number c.args.text.now None (omega (arith, c.sets-number-end.ensures.value, c.loop-number-test.true)) (λ e h. sym c.in_default.is ∙ c.in_set.ensures e h)) ∙ c.loop-number.invariant

pub returns-then-is_set-clause-named : goal.returns-then-is_set-clause-named
returns-then-is_set-clause-named c = sym (set_turn c.args.table.now.sets c.loop-number.number c.args.text.now (Some true) (omega (arith, c.sets-number-end.ensures.value, c.loop-number-test.true)) (λ e h. sym (c.in-Some.is ∙ ap Some c.if-is_set.true) ∙ c.in_set.ensures e h)) ∙ c.loop-number.invariant

pub returns-else-is_set-clause-named : goal.returns-else-is_set-clause-named
returns-else-is_set-clause-named c = sym (set_turn c.args.table.now.sets c.loop-number.number c.args.text.now (Some false) (omega (arith, c.sets-number-end.ensures.value, c.loop-number-test.true)) (λ e h. sym (c.in-Some.is ∙ ap Some c.if-is_set.false) ∙ c.in_set.ensures e h)) ∙ c.loop-number.invariant
