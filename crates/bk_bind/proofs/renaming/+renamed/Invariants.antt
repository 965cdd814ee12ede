use Rattle.std.proofs.Common.{◌≡◌, ◌+◌, ◌*◌, take, map}
use Rattle.bk_form.specs.Formula.{formula_size, formulas_size, formulas_of}
use Rattle.bk_form.specs.Replacement.{renamed}
use Rattle.bk_bind.specs.Renaming.{new_name}
use Rattle.bk_bind.proofs.renaming.+renamed.Given as goal

abbrev pub decreases-renamed : goal.decreases-renamed
decreases-renamed l = 2 * formula_size l.form.now

abbrev pub decreases-all_renamed : goal.decreases-all_renamed
decreases-all_renamed l = 2 * formulas_size (formulas_of l.forms.now) + 1

abbrev pub invariant-all_renamed-loop-form : goal.invariant-all_renamed-loop-form
invariant-all_renamed-loop-form l = l.others.items ≡ map (renamed (new_name l.pairs)) (take l.form-index l.forms)
