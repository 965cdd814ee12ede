use Rattle.std.proofs.Common.{◌≡◌, ◌+◌, ◌*◌, take, map}
use Rattle.bk_form.specs.Formula.{formula_size, formulas_size, formulas_of}
use Rattle.bk_form.specs.Rebound.{rebound}
use Rattle.bk_kernel.specs.Next.{raised}
use Rattle.bk_kernel.proofs.next.+raised.Given as goal

abbrev pub decreases-raised_in : goal.decreases-raised_in
decreases-raised_in l = 2 * formula_size l.form.now

abbrev pub decreases-all_raised : goal.decreases-all_raised
decreases-all_raised l = 2 * formulas_size (formulas_of l.forms.now) + 1

abbrev pub invariant-all_raised-loop-form : goal.invariant-all_raised-loop-form
invariant-all_raised-loop-form l = l.list.items ≡ map (rebound raised l.own) (take l.form-index l.forms)
