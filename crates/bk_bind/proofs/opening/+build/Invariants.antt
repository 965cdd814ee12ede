use Rattle.std.proofs.Common.{◌≡◌, ◌+◌, ◌*◌, [], take, map}
use Rattle.bk_form.specs.Formula.{formula_size, formulas_size, formulas_of}
use Rattle.bk_form.specs.Role.{bind}
use Rattle.bk_form.specs.Rebound.{rebound}
use Rattle.bk_bind.specs.Opening.{placed}
use Rattle.bk_bind.proofs.opening.+build.Given as goal

abbrev pub decreases-build : goal.decreases-build
decreases-build l = 2 * formula_size l.form.now

abbrev pub decreases-build_all : goal.decreases-build_all
decreases-build_all l = 2 * formulas_size (formulas_of l.forms.now) + 1

abbrev pub invariant-build_all-loop-form : goal.invariant-build_all-loop-form
invariant-build_all-loop-form l = l.built.items ≡ map (rebound (placed (bind l.terms [])) l.own) (take l.form-index l.forms)
