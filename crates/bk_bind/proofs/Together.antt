-- Binding variables all at once is binding them one after the other.
use Rattle.std.proofs.Common.{◌≡◌, ℕ, zero, suc, ◌+◌, ◌-◌, ◌≤◌, ◌<◌, ◌^◌, List, [], ◌∷◌, ◌++◌, take, length, get_or, map, Bool, true, false, cond, nat_eq, Option, Some, None, refl, sym, ap, ◌∙◌, arith, length-append}
use Rattle.std.specs.Prelude.{unwrap_or}
use Rattle.std.proofs.lemmas.Cmp.{nat_eq_equiv}
use Rattle.std.specs.Option.{option_map, option_or}
use Rattle.bk_form.specs.Formula.{Formula, variable, bound, unary, binary, for_all, for_some, comprehension, lambda, Formulas, no_formulas, formula_and, formula_size, formulas_size, formulas_of}
use Rattle.bk_form.specs.Replacement.{count}
use Rattle.bk_form.proofs.Sizes.{size_pos, size_at}
use Rattle.bk_bind.specs.Closing.{closed_over, all_closed_over, closed_over_each}
use Rattle.bk_bind.specs.Together.{place_above, bound_together, all_bound_together}

-- a variable, or the bound number of its place
abbrev at : Option ℕ → ℕ → ℕ → Formula
at o k n = unwrap_or (option_map (λ p. bound (p + k)) o) (variable n)

-- ---- sizes
size-at : (o : Option ℕ) (k n : ℕ) → formula_size (at o k n) ≡ 1
size-at None k n = refl
size-at (Some p) k n = refl

module _ (place : ℕ → Option ℕ) where
  mutual
    size-together : (k : ℕ) (f : Formula) → formula_size (bound_together place k f) ≡ formula_size f
    size-together k (variable n) = size-at (place n) k n
    size-together k (unary o a) = ap (λ x. x + 1) (size-together k a)
    size-together k (binary o a b) = λ i. size-together k a i + size-together k b i + 1
    size-together k (for_all ts p) = ap (λ x. x + 1) (size-together (length ts + k) p)
    size-together k (for_some ts p) = ap (λ x. x + 1) (size-together (length ts + k) p)
    size-together k (comprehension rs p) = λ i. sizes-together k rs i + size-together (count rs + k) p i + 1
    size-together k (lambda rs p v) = λ i. sizes-together k rs i + size-together (count rs + k) p i + size-together (count rs + k) v i + 1
    size-together k _ = refl

    sizes-together : (k : ℕ) (fs : Formulas) → formulas_size (all_bound_together place k fs) ≡ formulas_size fs
    sizes-together k no_formulas = refl
    sizes-together k (formula_and f fs) = λ i. size-together k f i + sizes-together k fs i

  pub small_together : (f : Formula) → formula_size f < 2 ^ 32 → formula_size (bound_together place 0 f) < 2 ^ 32
  small_together f h = omega (arith, h, size-together 0 f)

  count-together : (k : ℕ) (rs : Formulas) → count (all_bound_together place k rs) ≡ count rs
  count-together k no_formulas = refl
  count-together k (formula_and r rs) = ap suc (count-together k rs)

-- ---- one variable more, outermost
at-one : (b : Bool) (m k n : ℕ) → at (cond b (Some (m + 0)) None) k n ≡ cond b (bound (m + k)) (variable n)
at-one true m k n = let e : m + 0 + k ≡ m + k = omega arith in ap bound e
at-one false m k n = refl

module _ (z : ℕ) (zs : List ℕ) where
  abbrev inner : ℕ → Option ℕ
  inner = place_above 0 zs

  by-place : (o : Option ℕ) (k n : ℕ) → at (option_or o (cond (nat_eq n z) (Some (length zs + 0)) None)) k n ≡ closed_over z (length zs + k) (at o k n)
  by-place None k n = at-one (nat_eq n z) (length zs) k n
  by-place (Some p) k n = refl

  under : (n k : ℕ) (p : Formula) → bound_together (place_above 0 (z ∷ zs)) (n + k) p ≡ closed_over z (length zs + (n + k)) (bound_together inner (n + k) p)
      → bound_together (place_above 0 (z ∷ zs)) (n + k) p ≡ closed_over z (n + (length zs + k)) (bound_together inner (n + k) p)
  under n k p m = let e : length zs + (n + k) ≡ n + (length zs + k) = omega arith in m ∙ ap (λ j. closed_over z j (bound_together inner (n + k) p)) e

  within : (rs : Formulas) (k : ℕ) (p : Formula) → bound_together (place_above 0 (z ∷ zs)) (count rs + k) p ≡ closed_over z (length zs + (count rs + k)) (bound_together inner (count rs + k) p)
      → bound_together (place_above 0 (z ∷ zs)) (count rs + k) p ≡ closed_over z (count (all_bound_together inner k rs) + (length zs + k)) (bound_together inner (count rs + k) p)
  within rs k p m = under (count rs) k p m ∙ ap (λ n. closed_over z (n + (length zs + k)) (bound_together inner (count rs + k) p)) (sym (count-together inner k rs))

  mutual
    one-more : (k : ℕ) (f : Formula) → bound_together (place_above 0 (z ∷ zs)) k f ≡ closed_over z (length zs + k) (bound_together inner k f)
    one-more k (variable n) = by-place (inner n) k n
    one-more k (unary o a) = ap (unary o) (one-more k a)
    one-more k (binary o a b) = λ i. binary o (one-more k a i) (one-more k b i)
    one-more k (for_all ts p) = ap (for_all ts) (under (length ts) k p (one-more (length ts + k) p))
    one-more k (for_some ts p) = ap (for_some ts) (under (length ts) k p (one-more (length ts + k) p))
    one-more k (comprehension rs p) = λ i. comprehension (all-more k rs i) (within rs k p (one-more (count rs + k) p) i)
    one-more k (lambda rs p v) = λ i. lambda (all-more k rs i) (within rs k p (one-more (count rs + k) p) i) (within rs k v (one-more (count rs + k) v) i)
    one-more k _ = refl

    all-more : (k : ℕ) (fs : Formulas) → all_bound_together (place_above 0 (z ∷ zs)) k fs ≡ all_closed_over z (length zs + k) (all_bound_together inner k fs)
    all-more k no_formulas = refl
    all-more k (formula_and f fs) = λ i. formula_and (one-more k f i) (all-more k fs i)

-- ---- no variable
mutual
  none-bound : (k : ℕ) (f : Formula) → bound_together (place_above 0 []) k f ≡ f
  none-bound k (unary o a) = ap (unary o) (none-bound k a)
  none-bound k (binary o a b) = λ i. binary o (none-bound k a i) (none-bound k b i)
  none-bound k (for_all ts p) = ap (for_all ts) (none-bound (length ts + k) p)
  none-bound k (for_some ts p) = ap (for_some ts) (none-bound (length ts + k) p)
  none-bound k (comprehension rs p) = λ i. comprehension (all-none-bound k rs i) (none-bound (count rs + k) p i)
  none-bound k (lambda rs p v) = λ i. lambda (all-none-bound k rs i) (none-bound (count rs + k) p i) (none-bound (count rs + k) v i)
  none-bound k _ = refl

  all-none-bound : (k : ℕ) (fs : Formulas) → all_bound_together (place_above 0 []) k fs ≡ fs
  all-none-bound k no_formulas = refl
  all-none-bound k (formula_and f fs) = λ i. formula_and (none-bound k f i) (all-none-bound k fs i)

-- ---- all of them
together : (zs : List ℕ) (f : Formula) → bound_together (place_above 0 zs) 0 f ≡ closed_over_each zs f
together [] f = none-bound 0 f
together (z ∷ zs) f =
    let e : length zs + 0 ≡ length zs = omega arith in
    one-more z zs 0 f ∙ (λ i. closed_over z (e i) (together zs f i))

-- by whatever gives each variable its place
pub closed_together : (place : ℕ → Option ℕ) (zs : List ℕ) (f : Formula) → ((n : ℕ) → place n ≡ place_above 0 zs n) → bound_together place 0 f ≡ closed_over_each zs f
closed_together place zs f h =
    let same : place ≡ place_above 0 zs = λ i n. h n i in
    ap (λ p. bound_together p 0 f) same ∙ together zs f

-- ---- places are given from the outermost variable on
pub place_of_one_more : (zs : List ℕ) (z w n : ℕ) → place_above w (zs ++ z ∷ []) n ≡ cond (nat_eq z n) (Some w) (place_above (suc w) zs n)
place_of_one_more [] z w n = let e : 0 + w ≡ w = omega arith in λ i. cond (nat_eq_equiv.symm n z i) (Some (e i)) None
place_of_one_more (y ∷ zs) z w n =
    let e : length (zs ++ z ∷ []) + w ≡ length zs + suc w = omega (arith, length-append zs (z ∷ [])) in
    (λ i. option_or (place_of_one_more zs z w n i) (cond (nat_eq n y) (Some (e i)) None)) ∙ by (nat_eq z n)
  where
    by : (b : Bool) → option_or (cond b (Some w) (place_above (suc w) zs n)) (cond (nat_eq n y) (Some (length zs + suc w)) None) ≡ cond b (Some w) (option_or (place_above (suc w) zs n) (cond (nat_eq n y) (Some (length zs + suc w)) None))
    by true = refl
    by false = refl

-- ---- lists of formulas
pub all_bound_together-of : (place : ℕ → Option ℕ) (k : ℕ) (fs : List Formula) → all_bound_together place k (formulas_of fs) ≡ formulas_of (map (bound_together place k) fs)
all_bound_together-of place k [] = refl
all_bound_together-of place k (f ∷ fs) = λ i. formula_and (bound_together place k f) (all_bound_together-of place k fs i)

-- a formula of the list has no more nodes then than the list
pub together_size_at : (place : ℕ → Option ℕ) (k : ℕ) (fs : List Formula) (i : ℕ) (d : Formula) → i < length fs → formula_size (bound_together place k (get_or fs i d)) ≤ formulas_size (all_bound_together place k (formulas_of fs))
together_size_at place k [] i d h = absurd (omega arith)
together_size_at place k (f ∷ fs) zero d h = omega arith
together_size_at place k (f ∷ fs) (suc i) d h = let rest : formula_size (bound_together place k (get_or fs i d)) ≤ formulas_size (all_bound_together place k (formulas_of fs)) = together_size_at place k fs i d (omega arith) in omega arith

pub ruleset closing = (size_pos, size_at, together_size_at, all_bound_together-of)
