-- Polynomials by the place of a monomial, and what is too wide.
use Rattle.std.proofs.Common.{◌≡◌, inl, inr, List, refl, sym, ap, false}
use Rattle.std.specs.Prelude.{Option, Some, None}
use Rattle.bk_form.specs.Formula.{Formula}
use Rattle.bk_arith.specs.Polynomials.{Monomial, polynomial, are_same, equal_polynomials, IsTooWide}

-- two terms of which one leaves 128 bits are not told to be equal
pub wide-unequal : (a b : Formula) → IsTooWide a b → false ≡ equal_polynomials a b
wide-unequal a b (inl h) = sym (ap (λ p. are_same p (polynomial b)) h)
wide-unequal a b (inr h) = by_first (polynomial a)
  where
    by_first : (p : Option (List Monomial)) → false ≡ are_same p (polynomial b)
    by_first None = refl
    by_first (Some q) = sym (ap (are_same (Some q)) h)
