-- Two formulas are told to be the same exactly where they are.
use Rattle.std.proofs.Common.{◌≡◌, ℕ, refl, ap, subst, true, arith, nat_eq}
use Rattle.std.proofs.lemmas.Bool.Decides.{nat_tests}
use base.Stored.{Gv, gnil, gnum, gcons}
use Rattle.bk_form.specs.Formula.{Formula}
use Rattle.bk_form.specs.Codes.FormulaCodes.{formula_code, coded_formula}
use Rattle.bk_form.proofs.Members.{and-true, and-both}
use Rattle.bk_arith.specs.Same.{same_code, is_same}
use Rattle.bk_arith.specs.Laws.{SameIsEqual}

nat_eq-same : (m n : ℕ) → nat_eq m n ≡ true → m ≡ n
nat_eq-same m n h = grind (arith, nat_tests)

nat_eq-self : (n : ℕ) → nat_eq n n ≡ true
nat_eq-self n = grind (arith, nat_tests)

same_code-then : (a b : Gv) → same_code a b ≡ true → a ≡ b
same_code-then gnil gnil h = refl
same_code-then (gnum m) (gnum n) h = ap gnum (nat_eq-same m n h)
same_code-then (gcons a b) (gcons c d) h =
    let k = and-both (same_code a c) (same_code b d) h in
    λ i. gcons (same_code-then a c k.0 i) (same_code-then b d k.1 i)
same_code-then _ _ h = absurd (cc)

same_code-self : (a : Gv) → same_code a a ≡ true
same_code-self gnil = refl
same_code-self (gnum n) = nat_eq-self n
same_code-self (gcons a b) = and-true (same_code a a) (same_code b b) (same_code-self a) (same_code-self b)

pub same-then : (a b : Formula) → is_same a b ≡ true → a ≡ b
same-then a b h = coded_formula.inj a b (same_code-then (formula_code a) (formula_code b) h)

pub same-if : (a b : Formula) → a ≡ b → is_same a b ≡ true
same-if a b e = subst (λ x. is_same a x ≡ true) e (same_code-self (formula_code a))

pub same_is_equal : SameIsEqual
same_is_equal a b = (same-then a b, same-if a b)
