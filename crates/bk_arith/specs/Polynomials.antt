-- Terms multiplied out: polynomials over atoms.
use Rattle.std.specs.Prelude.{◌≡◌, ◌⊎◌, ℤ, pos, negsuc, ◌+ℤ◌, ◌-ℤ◌, ◌*ℤ◌, Bool, true, false, cond, List, [], ◌∷◌, ◌++◌, Option, Some, None}
use Rattle.std.specs.List.{list_all}
use Rattle.std.specs.Ordering.{int_eq}
use Rattle.std.specs.Option.{option_map, option_and_then}
use Rattle.bk_form.specs.Formula.{Formula, literal, unary, binary}
use Rattle.bk_form.specs.declared.operator.UnOp.{UnOp}
use Rattle.bk_form.specs.declared.operator.UnOp.TheVariants.{Neg}
use Rattle.bk_form.specs.declared.operator.BinOp.{BinOp}
use Rattle.bk_form.specs.declared.operator.BinOp.TheVariants.{Add, Sub, Mul}
use Rattle.bk_arith.specs.ClosedSum.{if_fits}
use Rattle.bk_arith.specs.Same.{is_same}

-- a coefficient and the atoms that it is multiplied with, in any order
abbrev pub Monomial : Type 0
Monomial = ℤ × List Formula

-- the list without the first such formula, if it is there
abbrev pub removed : Formula → List Formula → Option (List Formula)
removed f [] = None
removed f (g ∷ gs) = cond (is_same f g) (Some gs) (option_map (λ r. g ∷ r) (removed f gs))

-- whether there is something, and it passes the test
abbrev pub left_over : {A : Type 0} → (A → Bool) → Option A → Bool
left_over test (Some rest) = test rest
left_over test None = false

-- it is empty
abbrev pub is_none_left : List Formula → Bool
is_none_left [] = true
is_none_left _ = false

-- whether two lists have the same formulas, each as often
abbrev pub same_atoms : List Formula → List Formula → Bool
same_atoms [] gs = is_none_left gs
same_atoms (f ∷ fs) gs = left_over (same_atoms fs) (removed f gs)

-- one more monomial; each number that arises fits 128 bits, else there is none
abbrev pub added : Monomial → List Monomial → Option (List Monomial)
added t [] = Some (t ∷ [])
added t (u ∷ us) = cond (same_atoms t.1 u.1) (option_map (λ c. (c, u.1) ∷ us) (if_fits (t.0 +ℤ u.0))) (option_map (λ r. u ∷ r) (added t us))

-- a monomial times each of some, added to a polynomial
abbrev pub times_each : Monomial → List Monomial → List Monomial → Option (List Monomial)
times_each t [] q = Some q
times_each t (u ∷ us) q = option_and_then (λ c. option_and_then (times_each t us) (added (c, t.1 ++ u.1) q)) (if_fits (t.0 *ℤ u.0))

-- a product, added to a polynomial
abbrev pub product : List Monomial → List Monomial → List Monomial → Option (List Monomial)
product [] us q = Some q
product (t ∷ ts) us q = option_and_then (product ts us) (times_each t us q)

-- a polynomial times a number, added to another
abbrev pub multiple : ℤ → List Monomial → List Monomial → Option (List Monomial)
multiple z p q = product ((z, []) ∷ []) p q

-- a monomial with the other sign, after others
abbrev pub negated_behind : Monomial → List Monomial → Option (List Monomial)
negated_behind t us = option_map (λ c. us ++ (c, t.1) ∷ []) (if_fits (pos 0 -ℤ t.0))

-- one monomial subtracted: from the one of the same atoms, or after all; the number that arises fits 128 bits, else there is none
abbrev pub subtracted : Monomial → List Monomial → Option (List Monomial)
subtracted t [] = negated_behind t []
subtracted t (u ∷ us) =
    cond (same_atoms t.1 u.1) (option_map (λ c. (c, u.1) ∷ us) (if_fits (u.0 -ℤ t.0))) (option_map (λ r. u ∷ r) (subtracted t us))

-- a polynomial, subtracted from another coefficient by coefficient
abbrev pub all_subtracted : List Monomial → List Monomial → Option (List Monomial)
all_subtracted [] q = Some q
all_subtracted (t ∷ ts) q = option_and_then (all_subtracted ts) (subtracted t q)

-- one times a formula
abbrev pub atom : Formula → Option (List Monomial)
atom f = Some ((pos 1, f ∷ []) ∷ [])

-- of an operator on one term: unary minus is read, and every other such term is an atom
abbrev pub unary_polynomial : UnOp → Option (List Monomial) → Formula → Option (List Monomial)
unary_polynomial Neg p whole = option_and_then (λ p. multiple (negsuc 0) p []) p
unary_polynomial _ p whole = atom whole

-- of two polynomials, where both are there
abbrev pub both : (List Monomial → List Monomial → Option (List Monomial)) →
    Option (List Monomial) → Option (List Monomial) → Option (List Monomial)
both f p q = option_and_then (λ p. option_and_then (f p) q) p

-- of an operator on two terms: sums, differences and products are read, and every other such term is an atom
abbrev pub binary_polynomial : BinOp → Option (List Monomial) → Option (List Monomial) → Formula → Option (List Monomial)
binary_polynomial Add p q whole = both (λ p q. multiple (pos 1) q p) p q
binary_polynomial Sub p q whole = both (λ p q. all_subtracted q p) p q
binary_polynomial Mul p q whole = both (λ p q. product p q []) p q
binary_polynomial _ p q whole = atom whole

-- the polynomial of a term, from the leaves up
abbrev pub polynomial : Formula → Option (List Monomial)
polynomial (literal z) = option_map (λ c. (c, []) ∷ []) (if_fits z)
polynomial (unary o a) = unary_polynomial o (polynomial a) (unary o a)
polynomial (binary o a b) = binary_polynomial o (polynomial a) (polynomial b) (binary o a b)
polynomial f = atom f

-- the polynomial without the monomial of these atoms, where it has this coefficient
abbrev pub taken : Monomial → List Monomial → Option (List Monomial)
taken t [] = None
taken t (u ∷ us) = cond (same_atoms t.1 u.1) (cond (int_eq t.0 u.0) (Some us) None) (option_map (λ r. u ∷ r) (taken t us))

-- its coefficient is 0
abbrev pub is_zero : Monomial → Bool
is_zero t = int_eq t.0 (pos 0)

-- whether two polynomials have the same coefficients
abbrev pub same_polynomials : List Monomial → List Monomial → Bool
same_polynomials [] q = list_all is_zero q
same_polynomials (t ∷ ts) q = cond (is_zero t) (same_polynomials ts q) (left_over (same_polynomials ts) (taken t q))

-- whether both are there and have the same coefficients
abbrev pub are_same : Option (List Monomial) → Option (List Monomial) → Bool
are_same (Some p) (Some q) = same_polynomials p q
are_same _ _ = false

-- whether two terms have equal polynomials, all numbers on the way within 128 bits
abbrev pub equal_polynomials : Formula → Formula → Bool
equal_polynomials a b = are_same (polynomial a) (polynomial b)

-- one of the two leaves 128 bits where it is read or multiplied out
abbrev pub IsTooWide : Formula → Formula → Type 0
IsTooWide a b = (polynomial a ≡ None) ⊎ (polynomial b ≡ None)
