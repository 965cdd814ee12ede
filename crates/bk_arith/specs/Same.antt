-- Whether two formulas are one.
use Rattle.std.specs.Prelude.{Bool, true, false, ◌&&◌, nat_eq}
use base.Stored.{Gv, gnil, gnum, gcons}
use Rattle.bk_form.specs.Formula.{Formula}
use Rattle.bk_form.specs.Codes.FormulaCodes.{formula_code}

-- whether two codes are the same tree
abbrev pub same_code : Gv → Gv → Bool
same_code gnil gnil = true
same_code (gnum m) (gnum n) = nat_eq m n
same_code (gcons a b) (gcons c d) = same_code a c && same_code b d
same_code _ _ = false

-- whether the two are one formula; a formula is told by its code
abbrev pub is_same : Formula → Formula → Bool
is_same a b = same_code (formula_code a) (formula_code b)
