-- The equations of the sets' sizes, one set after another.
use Rattle.std.proofs.Common.{◌≡◌, ◌<◌, ℕ, zero, suc, ◌+◌, pos, List, [], ◌∷◌, ◌++◌, length, drop, get_or, refl, sym, ◌∙◌, ap, subst, true, false, Bool, nat_eq, arith}
use Rattle.std.proofs.lemmas.Bool.Decides.{nat_tests}
use Rattle.bk_form.specs.Table.{SetEntry}
use Rattle.bk_form.specs.Formula.{Formula, named, unary, binary, literal}
use Rattle.bk_form.specs.declared.operator.UnOp.TheVariants.{Card}
use Rattle.bk_form.specs.declared.operator.BinOp.TheVariants.{Eq}
use Rattle.bk_form.specs.declared.operator.Domain.TheVariants.{Enum}
use Rattle.bk_dev.specs.Hypotheses.{size_equations_of, size_equations_from}

next-from : (k n : ℕ) (ss : List SetEntry) (d : SetEntry) → n < length ss → size_equations_from (k + n) (drop n ss) ≡ size_equations_of (k + n) (get_or ss n d).elements (get_or ss n d).size ++ size_equations_from (k + n + 1) (drop (n + 1) ss)
next-from k n [] d h = absurd (omega (arith, h))
next-from k zero (s ∷ ss) d h = let e : suc (k + zero) ≡ k + zero + 1 = omega arith in ap (λ m. size_equations_of (k + zero) s.elements s.size ++ size_equations_from m ss) e
next-from k (suc n) (s ∷ ss) d h =
    let e : suc k + n ≡ k + suc n = omega arith in
    let g : suc (n + 1) ≡ suc n + 1 = omega arith in
    subst (λ j. size_equations_from (k + suc n) (drop n ss) ≡ size_equations_of (k + suc n) (get_or ss n d).elements (get_or ss n d).size ++ size_equations_from (k + suc n + 1) (drop j (s ∷ ss))) g
    (subst (λ m. size_equations_from m (drop n ss) ≡ size_equations_of m (get_or ss n d).elements (get_or ss n d).size ++ size_equations_from (m + 1) (drop (n + 1) ss)) e (next-from (suc k) n ss d (omega (arith, h))))

-- the equation of one more set
pub sizes-next : (n : ℕ) (ss : List SetEntry) (d : SetEntry) → n < length ss → size_equations_from n (drop n ss) ≡ size_equations_of n (get_or ss n d).elements (get_or ss n d).size ++ size_equations_from (n + 1) (drop (n + 1) ss)
sizes-next n ss d h =
    let e : 0 + n ≡ n = omega arith in
    subst (λ m. size_equations_from m (drop n ss) ≡ size_equations_of m (get_or ss n d).elements (get_or ss n d).size ++ size_equations_from (m + 1) (drop (n + 1) ss)) e (next-from 0 n ss d h)

pub sizes-end : (n : ℕ) (ss : List SetEntry) → size_equations_from n [] ≡ []
sizes-end n ss = refl

pub none-named : (k n : ℕ) (es : List (List ℕ)) → nat_eq (length es) 0 ≡ false → size_equations_of k es n ≡ []
none-named k n [] h = absurd (cc)
none-named k n (e ∷ es) h = refl

pub none-sized : (k : ℕ) (es : List (List ℕ)) → size_equations_of k es 0 ≡ []
none-sized k [] = refl
none-sized k (e ∷ es) = refl

pub one-sized : (k n : ℕ) (es : List (List ℕ)) → nat_eq (length es) 0 ≡ true → (n ≡ 0 → ⊥) → size_equations_of k es n ≡ binary Eq (unary Card (named (Enum k))) (literal (pos n)) ∷ []
one-sized k zero es h some = absurd (some refl)
one-sized k (suc n) [] h some = refl
one-sized k (suc n) (e ∷ es) h some = absurd (none (length es) h)
  where
    none : (n : ℕ) → nat_eq (suc n) 0 ≡ true → ⊥
    none n h = grind (arith, nat_tests)

pub ruleset one_more = (sizes-next, sizes-end)

pub ruleset of_one = (none-named, none-sized, one-sized)
