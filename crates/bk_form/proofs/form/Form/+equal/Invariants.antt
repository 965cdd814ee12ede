use Rattle.std.proofs.Common.{◌≡◌, ◌+◌, ◌*◌, take}
use Rattle.bk_form.specs.Formula.{formula_size, formulas_size, formulas_of}
use Rattle.bk_form.proofs.form.Form.+equal.Given as goal

abbrev pub decreases-equal : goal.decreases-equal
decreases-equal l = 2 * formula_size l.self.now

abbrev pub decreases-equal_all : goal.decreases-equal_all
decreases-equal_all l = 2 * formulas_size (formulas_of l.forms.now) + 1

abbrev pub invariant-equal_all-loop-i : goal.invariant-equal_all-loop-i
invariant-equal_all-loop-i l = take l.i l.forms ≡ take l.i l.others
