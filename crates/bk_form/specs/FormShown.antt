-- The formula that a view shows.
use Rattle.bk_form.specs.Formula.{Formula, variable, bound, literal, truth_value, element, empty_set, named, btrue}
use Rattle.bk_form.specs.Formula.{bfalse, unary, binary, for_all, for_some, comprehension, lambda, formulas_of}
use Rattle.bk_form.specs.declared.form.View.{View}
use Rattle.bk_form.specs.declared.form.View.TheVariants.{Var, Bound, Int, Bool, Elem, Empty, Name, True}
use Rattle.bk_form.specs.declared.form.View.TheVariants.{False, Un, Bin, All, Some, Compr, Lam}

-- the formula that is seen as this
abbrev pub shown : View → Formula
shown (Var n) = variable n
shown (Bound n) = bound n
shown (Int z) = literal z
shown (Bool b) = truth_value b
shown (Elem s n) = element s n
shown (Empty t) = empty_set t.now
shown (Name d) = named d
shown True = btrue
shown False = bfalse
shown (Un o a) = unary o a.now
shown (Bin o a b) = binary o a.now b.now
shown (All ts p) = for_all ts.now p.now
shown (Some ts p) = for_some ts.now p.now
shown (Compr rs p) = comprehension (formulas_of rs.now) p.now
shown (Lam rs p v) = lambda (formulas_of rs.now) p.now v.now
