use Rattle.std.proofs.Common.{◌≡◌, drop}
use Rattle.std.specs.Option.{option_copied}
use Rattle.bk_form.specs.Formula.{btrue}
use Rattle.bk_wp.specs.Guarded.{evaluated_onto}
use Rattle.bk_wp.proofs.evaluation.evaluated_terms.Given as goal

abbrev pub invariant-loop-variable : goal.invariant-loop-variable
invariant-loop-variable l = evaluated_onto l.types (option_copied l.arrays) l.so_far (drop l.variable-index l.terms) ≡ evaluated_onto l.types (option_copied l.arrays) btrue l.terms
