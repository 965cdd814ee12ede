use Rattle.std.proofs.Common.{◌≡◌, ◌+◌, ◌*◌, nat_eq, take, map}
use Rattle.std.specs.HashMap.{get}
use Rattle.bk_form.specs.Formula.{formula_size, formulas_size, formulas_of}
use Rattle.bk_bind.specs.Together.{bound_together}
use Rattle.bk_bind.proofs.closing.+closing.Given as goal

abbrev pub decreases-bound_together : goal.decreases-bound_together
decreases-bound_together l = 2 * formula_size l.form.now

abbrev pub decreases-all_bound_together : goal.decreases-all_bound_together
decreases-all_bound_together l = 2 * formulas_size (formulas_of l.forms.now) + 1

abbrev pub invariant-all_bound_together-loop-form : goal.invariant-all_bound_together-loop-form
invariant-all_bound_together-loop-form l = l.closed.items ≡ map (bound_together (get nat_eq l.places) l.own) (take l.form-index l.forms)
