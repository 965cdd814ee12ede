use Rattle.std.proofs.Common.{◌≡◌, ◌++◌, [], drop}
use Rattle.bk_form.specs.Formula.{formulas_of}
use Rattle.bk_form.specs.Role.{roles, bind, element_types}
use Rattle.bk_wd.proofs.ranges.element_types.Given as goal

abbrev pub invariant-loop-range : goal.invariant-loop-range
invariant-loop-range l = l.found.items ++ element_types (roles l.types (bind l.around []) (formulas_of (drop l.range-index l.ranges))) ≡ element_types (roles l.types (bind l.around []) (formulas_of l.ranges))
