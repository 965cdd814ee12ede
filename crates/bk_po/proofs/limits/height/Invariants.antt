use Rattle.std.proofs.Common.{◌≡◌, max, drop}
use Rattle.bk_form.specs.Formula.{formulas_of, formulas_height}
use Rattle.bk_po.specs.Limits.{height_of}
use Rattle.bk_po.proofs.limits.height.Given as goal

abbrev pub invariant-loop-hypothesis : goal.invariant-loop-hypothesis
invariant-loop-hypothesis l = max l.greatest (formulas_height (formulas_of (drop l.hypothesis-index l.whole.hypotheses))) ≡ height_of l.whole
