-- Each formula as a tree of numbers, which gives the formula back: by it a proof tells formulas apart.
use Rattle.std.specs.Prelude.{◌≡◌, ℤ, pos, negsuc, Bool, true, false, zero, suc, List, [], ◌∷◌, refl}
use Rattle.std.proofs.Common.{ap, sym, ◌∙◌}
use Rattle.std.specs.Coded.{Coded}
use base.Stored.{Gv, gnil, gnum, gcons}
use Rattle.bk_val.specs.ValueType.{ValueType, type_code, type_back, type_back-code}
use Rattle.bk_form.specs.Codes.OperatorCodes.{unary_code, unary_back, unary_back-code, binary_code, binary_back}
use Rattle.bk_form.specs.Codes.OperatorCodes.{binary_back-code, domain_code, domain_back, domain_back-code}
use Rattle.bk_form.specs.Formula.{Formula, variable, bound, literal, truth_value, element, empty_set, named, btrue, bfalse}
use Rattle.bk_form.specs.Formula.{unary, binary, for_all, for_some, comprehension, lambda, Formulas, no_formulas, formula_and}

-- a list of types
abbrev types_code : List ValueType → Gv
types_code [] = gnil
types_code (t ∷ ts) = gcons (type_code t) (types_code ts)

abbrev types_back : Gv → List ValueType
types_back (gcons a b) = type_back a ∷ types_back b
types_back _ = []

types_back-code : (ts : List ValueType) → types_back (types_code ts) ≡ ts
types_back-code [] = refl
types_back-code (t ∷ ts) = λ i. type_back-code t i ∷ types_back-code ts i

-- a whole number
abbrev int_code : ℤ → Gv
int_code (pos n) = gcons gnil (gnum n)
int_code (negsuc n) = gcons (gnum 0) (gnum n)

abbrev int_back : Gv → ℤ
int_back (gcons gnil (gnum n)) = pos n
int_back (gcons (gnum m) (gnum n)) = negsuc n
int_back _ = pos 0

int_back-code : (z : ℤ) → int_back (int_code z) ≡ z
int_back-code (pos n) = refl
int_back-code (negsuc n) = refl

-- a truth value
abbrev bool_code : Bool → Gv
bool_code true = gnil
bool_code false = gnum 0

abbrev bool_back : Gv → Bool
bool_back gnil = true
bool_back _ = false

bool_back-code : (b : Bool) → bool_back (bool_code b) ≡ b
bool_back-code true = refl
bool_back-code false = refl

abbrev mutual
  -- each kind of formula begins with a number of its own, and its parts follow; btrue and bfalse are leaves
  pub formula_code : Formula → Gv
  formula_code (variable n) = gcons (gnum 0) (gnum n)
  formula_code (bound n) = gcons (gnum 1) (gnum n)
  formula_code (literal z) = gcons (gnum 2) (int_code z)
  formula_code (truth_value b) = gcons (gnum 3) (bool_code b)
  formula_code (element s n) = gcons (gnum 4) (gcons (gnum s) (gnum n))
  formula_code (empty_set t) = gcons (gnum 5) (type_code t)
  formula_code (named d) = gcons (gnum 6) (domain_code d)
  formula_code btrue = gnil
  formula_code bfalse = gnum 0
  formula_code (unary o a) = gcons (gnum 7) (gcons (gnum (unary_code o)) (formula_code a))
  formula_code (binary o a b) = gcons (gnum 8) (gcons (gnum (binary_code o)) (gcons (formula_code a) (formula_code b)))
  formula_code (for_all ts p) = gcons (gnum 9) (gcons (types_code ts) (formula_code p))
  formula_code (for_some ts p) = gcons (gnum 10) (gcons (types_code ts) (formula_code p))
  formula_code (comprehension rs p) = gcons (gnum 11) (gcons (formulas_code rs) (formula_code p))
  formula_code (lambda rs p v) = gcons (gnum 12) (gcons (formulas_code rs) (gcons (formula_code p) (formula_code v)))

  -- the codes of the formulas, one after another
  pub formulas_code : Formulas → Gv
  formulas_code no_formulas = gnil
  formulas_code (formula_and a fs) = gcons (formula_code a) (formulas_code fs)

abbrev mutual
  -- the formula that has this code; what it gives for other trees does not matter
  pub formula_back : Gv → Formula
  formula_back (gcons (gnum zero) (gnum n)) = variable n
  formula_back (gcons (gnum (suc zero)) (gnum n)) = bound n
  formula_back (gcons (gnum (suc (suc zero))) g) = literal (int_back g)
  formula_back (gcons (gnum (suc (suc (suc zero)))) g) = truth_value (bool_back g)
  formula_back (gcons (gnum (suc (suc (suc (suc zero))))) (gcons (gnum s) (gnum n))) = element s n
  formula_back (gcons (gnum (suc (suc (suc (suc (suc zero)))))) g) = empty_set (type_back g)
  formula_back (gcons (gnum (suc (suc (suc (suc (suc (suc zero))))))) g) = named (domain_back g)
  formula_back (gcons (gnum (suc (suc (suc (suc (suc (suc (suc zero)))))))) (gcons (gnum o) a)) = unary (unary_back o) (formula_back a)
  formula_back (gcons (gnum (suc (suc (suc (suc (suc (suc (suc (suc zero))))))))) (gcons (gnum o) (gcons a b))) =
      binary (binary_back o) (formula_back a) (formula_back b)
  formula_back (gcons (gnum (suc (suc (suc (suc (suc (suc (suc (suc (suc zero)))))))))) (gcons a b)) =
      for_all (types_back a) (formula_back b)
  formula_back (gcons (gnum (suc (suc (suc (suc (suc (suc (suc (suc (suc (suc zero))))))))))) (gcons a b)) =
      for_some (types_back a) (formula_back b)
  formula_back (gcons (gnum (suc (suc (suc (suc (suc (suc (suc (suc (suc (suc (suc zero)))))))))))) (gcons a b)) =
      comprehension (formulas_back a) (formula_back b)
  formula_back (gcons (gnum (suc (suc (suc (suc (suc (suc (suc (suc (suc (suc (suc (suc n))))))))))))) (gcons a (gcons b v))) =
      lambda (formulas_back a) (formula_back b) (formula_back v)
  formula_back gnil = btrue
  formula_back _ = bfalse

  -- the list of formulas that has this code
  pub formulas_back : Gv → Formulas
  formulas_back (gcons a b) = formula_and (formula_back a) (formulas_back b)
  formulas_back _ = no_formulas

mutual
  -- the code of a formula gives the formula back
  pub formula_back-code : (a : Formula) → formula_back (formula_code a) ≡ a
  formula_back-code (literal z) = λ i. literal (int_back-code z i)
  formula_back-code (truth_value b) = λ i. truth_value (bool_back-code b i)
  formula_back-code (empty_set t) = λ i. empty_set (type_back-code t i)
  formula_back-code (named d) = λ i. named (domain_back-code d i)
  formula_back-code (unary o a) = λ i. unary (unary_back-code o i) (formula_back-code a i)
  formula_back-code (binary o a b) = λ i. binary (binary_back-code o i) (formula_back-code a i) (formula_back-code b i)
  formula_back-code (for_all ts p) = λ i. for_all (types_back-code ts i) (formula_back-code p i)
  formula_back-code (for_some ts p) = λ i. for_some (types_back-code ts i) (formula_back-code p i)
  formula_back-code (comprehension rs p) = λ i. comprehension (formulas_back-code rs i) (formula_back-code p i)
  formula_back-code (lambda rs p v) = λ i. lambda (formulas_back-code rs i) (formula_back-code p i) (formula_back-code v i)
  formula_back-code _ = refl

  -- the code of a list of formulas gives the list back
  pub formulas_back-code : (fs : Formulas) → formulas_back (formulas_code fs) ≡ fs
  formulas_back-code no_formulas = refl
  formulas_back-code (formula_and a fs) = λ i. formula_and (formula_back-code a i) (formulas_back-code fs i)

-- a formula is told by its code
abbrev pub coded_formula : Coded Formula
coded_formula = record { code = formula_code; inj = λ a b e. sym (formula_back-code a) ∙ ap formula_back e ∙ formula_back-code b }
