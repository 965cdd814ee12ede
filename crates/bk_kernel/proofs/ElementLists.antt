-- The elements of a set, one more.
use Rattle.std.proofs.Common.{◌≡◌, ℕ, zero, suc, ◌+◌, ◌∷◌, [], ◌++◌, refl, ap, sym, ◌∙◌, arith}
use Rattle.bk_form.specs.Formula.{element}
use Rattle.std.specs.Prelude.{List, length, nat_eq, true, false, Some, None}
use Rattle.std.proofs.lemmas.Bool.Decides.{nat_tests}
use Rattle.bk_kernel.specs.Listing.{elements_of, named_elements}

-- the elements where the count is written with one more
grown : (s i n : ℕ) → elements_of s i (suc n) ≡ elements_of s i n ++ element s (i + n) ∷ []
grown s i zero = let e : i + zero ≡ i = omega arith in ap (λ j. element s j ∷ []) (sym e)
grown s i (suc n) = let e : suc i + n ≡ i + suc n = omega arith in ap (λ l. element s i ∷ l) (grown s (suc i) n) ∙ ap (λ j. element s i ∷ (elements_of s (suc i) n ++ element s j ∷ [])) e

pub elements-more : (s i n : ℕ) → elements_of s i (n + 1) ≡ elements_of s i n ++ element s (i + n) ∷ []
elements-more s i n = let e : n + 1 ≡ suc n = omega arith in ap (elements_of s i) e ∙ grown s i n

pub ruleset one_more = (elements-more)

pub named-none : (s : ℕ) (ns : List (List ℕ)) → nat_eq (length ns) 0 ≡ true → named_elements s (Some ns) ≡ None
named-none s [] h = refl
named-none s (n ∷ ns) h = absurd (none (length ns) h)
  where
    none : (n : ℕ) → nat_eq (suc n) 0 ≡ true → ⊥
    none n h = grind (arith, nat_tests)

pub named-some : (s : ℕ) (ns : List (List ℕ)) → nat_eq (length ns) 0 ≡ false → named_elements s (Some ns) ≡ Some (elements_of s 0 (length ns))
named-some s [] h = absurd (cc)
named-some s (n ∷ ns) h = refl

pub ruleset by_names = (named-none, named-some)
