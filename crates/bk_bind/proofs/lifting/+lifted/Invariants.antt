use Rattle.std.proofs.Common.{◌≡◌, ◌+◌, ◌*◌, take, map}
use Rattle.bk_form.specs.Formula.{formula_size, formulas_size, formulas_of}
use Rattle.bk_form.specs.Lifting.{lifted}
use Rattle.bk_bind.proofs.lifting.+lifted.Given as goal

abbrev pub decreases-lifted : goal.decreases-lifted
decreases-lifted l = 2 * formula_size l.form.now

abbrev pub decreases-all_lifted : goal.decreases-all_lifted
decreases-all_lifted l = 2 * formulas_size (formulas_of l.forms.now) + 1

abbrev pub invariant-all_lifted-loop-form : goal.invariant-all_lifted-loop-form
invariant-all_lifted-loop-form l = l.raised.items ≡ map (lifted l.more l.own) (take l.form-index l.forms)
