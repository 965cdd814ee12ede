-- What is known where arithmetic refuses.
use Rattle.std.proofs.Common.{◌≡◌, ◌⊎◌, inl, inr, sym, false}
use Rattle.std.specs.Prelude.{None}
use Rattle.bk_form.specs.Formula.{Formula}
use Rattle.bk_arith.specs.declared.error.ArithFault.{ArithFault}
use Rattle.bk_arith.specs.declared.error.ArithFault.TheVariants.{TooWide, Cases, Memory}
use Rattle.bk_arith.specs.Polynomials.{equal_polynomials, IsTooWide}
use Rattle.bk_arith.specs.Cases.{interval_cases}
use Rattle.bk_arith.proofs.Monomials.{wide-unequal}

-- a refusal that is not for want of memory
pub unequal : (a b : Formula) (e : ArithFault) → (e ≡ Memory → ⊥) → (e ≡ Memory) ⊎ ((e ≡ TooWide) × IsTooWide a b) → false ≡ equal_polynomials a b
unequal a b e other (inl h) = absurd (other h)
unequal a b e other (inr h) = wide-unequal a b h.1

pub no-cases : (p : Formula) (e : ArithFault) → (e ≡ Memory → ⊥) → (e ≡ Memory) ⊎ ((e ≡ Cases) × (interval_cases p ≡ None)) → None ≡ interval_cases p
no-cases p e other (inl h) = absurd (other h)
no-cases p e other (inr h) = sym h.1
