-- Opening a formula with variables bound gives the formula back.
use Rattle.std.proofs.Common.{◌≡◌, ℕ, zero, suc, ◌+◌, ◌-◌, ◌<◌, ◌≤◌, List, [], ◌∷◌, ◌++◌, length, map, refl, sym, ◌∙◌, ap, subst, Bool, true, false, cond, nat_eq, nat_lt, arith}
use Rattle.std.specs.Prelude.{Some, None, slice_get, unwrap_or}
use Rattle.std.proofs.lemmas.Bool.Decides.{nat_tests}
use Rattle.bk_form.specs.Formula.{Formula, variable, bound, unary, binary, for_all, for_some, comprehension, lambda, Formulas, no_formulas, formula_and}
use Rattle.bk_form.specs.Role.{bind}
use Rattle.bk_form.specs.Replacement.{count, IsClosed, AreClosed}
use Rattle.bk_bind.specs.Closing.{closed_over, all_closed_over, closed_over_each}
use Rattle.bk_form.specs.Rebound.{rebound, all_rebound}
use Rattle.bk_bind.specs.Opening.{placed}
use Rattle.bk_bind.specs.Laws.{OpeningGivesBack}

-- ---- loose bound numbers of a formula with a variable bound
count-closed : (z j : ℕ) (rs : Formulas) → count (all_closed_over z j rs) ≡ count rs
count-closed z j no_formulas = refl
count-closed z j (formula_and r rs) = ap suc (count-closed z j rs)

module _ (z : ℕ) where
  mutual
    closed-more : (k : ℕ) (f : Formula) → IsClosed k f → IsClosed (suc k) (closed_over z k f)
    closed-more k (variable i) c = elim (nat_eq i z) as (λ b. IsClosed (suc k) (cond b (bound k) (variable i))) [ true ↦ omega arith | false ↦ tt ]
    closed-more k (bound i) c = omega arith
    closed-more k (unary o f) c = closed-more k f c
    closed-more k (binary o f h) c = (closed-more k f c.0, closed-more k h c.1)
    closed-more k (for_all ts p) c = let e : length ts + suc k ≡ suc (length ts + k) = omega arith in rw e (closed-more (length ts + k) p c)
    closed-more k (for_some ts p) c = let e : length ts + suc k ≡ suc (length ts + k) = omega arith in rw e (closed-more (length ts + k) p c)
    closed-more k (comprehension rs p) c = let e : suc (count rs + k) ≡ count rs + suc k = omega arith in (all-closed-more k rs c.0, subst (λ x. IsClosed (x + suc k) (closed_over z (count rs + k) p)) (sym (count-closed z k rs)) (subst (λ x. IsClosed x (closed_over z (count rs + k) p)) e (closed-more (count rs + k) p c.1)))
    closed-more k (lambda rs p v) c = let e : suc (count rs + k) ≡ count rs + suc k = omega arith in (all-closed-more k rs c.0, subst (λ x. IsClosed (x + suc k) (closed_over z (count rs + k) p)) (sym (count-closed z k rs)) (subst (λ x. IsClosed x (closed_over z (count rs + k) p)) e (closed-more (count rs + k) p c.1)), subst (λ x. IsClosed (x + suc k) (closed_over z (count rs + k) v)) (sym (count-closed z k rs)) (subst (λ x. IsClosed x (closed_over z (count rs + k) v)) e (closed-more (count rs + k) v c.2)))
    closed-more k _ c = tt

    all-closed-more : (k : ℕ) (fs : Formulas) → AreClosed k fs → AreClosed (suc k) (all_closed_over z k fs)
    all-closed-more k no_formulas c = tt
    all-closed-more k (formula_and f fs) c = (closed-more k f c.0, all-closed-more k fs c.1)

each-closed : (zs : List ℕ) (f : Formula) → IsClosed 0 f → IsClosed (length zs) (closed_over_each zs f)
each-closed [] f c = c
each-closed (z ∷ zs) f c = closed-more z (length zs) (closed_over_each zs f) (each-closed zs f c)

-- ---- what stands at a number of a longer list of terms
get-before : (xs ys : List Formula) (n : ℕ) → n < length xs → slice_get (xs ++ ys) n ≡ slice_get xs n
get-before [] ys n h = absurd (omega (arith, h))
get-before (x ∷ xs) ys zero h = refl
get-before (x ∷ xs) ys (suc n) h = get-before xs ys n (omega (arith, h))

get-last : (xs : List Formula) (y : Formula) (n : ℕ) → n ≡ length xs → slice_get (xs ++ y ∷ []) n ≡ Some y
get-last [] y n h = ap (slice_get (y ∷ [])) h
get-last (x ∷ xs) y zero h = absurd (omega (arith, h))
get-last (x ∷ xs) y (suc n) h = get-last xs y n (omega (arith, h))

placed-at : (stack : List Formula) (k m : ℕ) (b : Bool) → nat_lt m k ≡ b → placed stack k m ≡ cond b (bound m) (unwrap_or (slice_get stack (m - k)) (bound m))
placed-at stack k m b q = ap (λ x. cond x (bound m) (unwrap_or (slice_get stack (m - k)) (bound m))) q

-- the last term is that of the outermost variable
placed-last : (stack : List Formula) (z k j : ℕ) → j ≡ length stack + k → placed (stack ++ variable z ∷ []) k j ≡ variable z
placed-last stack z k j q =
    let e : nat_lt j k ≡ false = grind (arith, nat_tests) in
    let d : j - k ≡ length stack = omega (arith, q) in
    placed-at (stack ++ variable z ∷ []) k j false e ∙ ap (λ o. unwrap_or o (bound j)) (get-last stack (variable z) (j - k) d)

-- the others stand as before
placed-before : (stack : List Formula) (z k j m : ℕ) → j ≡ length stack + k → m < j → placed (stack ++ variable z ∷ []) k m ≡ placed stack k m
placed-before stack z k j m q h = by_test (nat_lt m k) refl
  where
    within : nat_lt m k ≡ false → m - k < length stack
    within e = let l : k ≤ m = grind (arith, nat_tests) in omega (arith, l, h, q)

    by_test : (b : Bool) → nat_lt m k ≡ b → placed (stack ++ variable z ∷ []) k m ≡ placed stack k m
    by_test true e = placed-at (stack ++ variable z ∷ []) k m true e ∙ sym (placed-at stack k m true e)
    by_test false e = placed-at (stack ++ variable z ∷ []) k m false e ∙ ap (λ o. unwrap_or o (bound m)) (get-before stack (variable z ∷ []) (m - k) (within e)) ∙ sym (placed-at stack k m false e)

-- ---- the outermost variable
module _ (stack : List Formula) (z : ℕ) where
  abbrev more : ℕ → ℕ → Formula
  more = placed (stack ++ variable z ∷ [])

  abbrev fewer : ℕ → ℕ → Formula
  fewer = placed stack

  mutual
    opened-last : (k j : ℕ) → j ≡ length stack + k → (f : Formula) → IsClosed j f → rebound more k (closed_over z j f) ≡ rebound fewer k f
    opened-last k j q (variable n) c = by_test (nat_eq n z) refl
      where
        same : nat_eq n z ≡ true → z ≡ n
        same e = grind (arith, nat_tests)

        by_test : (b : Bool) → nat_eq n z ≡ b → rebound more k (cond b (bound j) (variable n)) ≡ variable n
        by_test true e = placed-last stack z k j q ∙ ap variable (same e)
        by_test false e = refl
    opened-last k j q (bound m) c = placed-before stack z k j m q c
    opened-last k j q (unary o f) c = ap (unary o) (opened-last k j q f c)
    opened-last k j q (binary o f g) c = λ i. binary o (opened-last k j q f c.0 i) (opened-last k j q g c.1 i)
    opened-last k j q (for_all ts p) c = ap (for_all ts) (opened-last (length ts + k) (length ts + j) (omega (arith, q)) p c)
    opened-last k j q (for_some ts p) c = ap (for_some ts) (opened-last (length ts + k) (length ts + j) (omega (arith, q)) p c)
    opened-last k j q (comprehension rs p) c =
        let body = ap (λ x. rebound more (x + k) (closed_over z (count rs + j) p)) (count-closed z j rs) ∙ opened-last (count rs + k) (count rs + j) (omega (arith, q)) p c.1 in
        λ i. comprehension (all-opened-last k j q rs c.0 i) (body i)
    opened-last k j q (lambda rs p v) c =
        let body = ap (λ x. rebound more (x + k) (closed_over z (count rs + j) p)) (count-closed z j rs) ∙ opened-last (count rs + k) (count rs + j) (omega (arith, q)) p c.1 in
        let image = ap (λ x. rebound more (x + k) (closed_over z (count rs + j) v)) (count-closed z j rs) ∙ opened-last (count rs + k) (count rs + j) (omega (arith, q)) v c.2 in
        λ i. lambda (all-opened-last k j q rs c.0 i) (body i) (image i)
    opened-last k j q _ c = refl

    all-opened-last : (k j : ℕ) → j ≡ length stack + k → (fs : Formulas) → AreClosed j fs → all_rebound more k (all_closed_over z j fs) ≡ all_rebound fewer k fs
    all-opened-last k j q no_formulas c = refl
    all-opened-last k j q (formula_and f fs) c = λ i. formula_and (opened-last k j q f c.0 i) (all-opened-last k j q fs c.1 i)

-- ---- no term at all
nothing-at : (m : ℕ) → slice_get (let none : List Formula = [] in none) m ≡ None
nothing-at zero = refl
nothing-at (suc m) = refl

placed-none : (k m : ℕ) → placed [] k m ≡ bound m
placed-none k m = elim (nat_lt m k) as (λ b. cond b (bound m) (unwrap_or (slice_get [] (m - k)) (bound m)) ≡ bound m) [ true ↦ refl | false ↦ ap (λ o. unwrap_or o (bound m)) (nothing-at (m - k)) ]

mutual
  opened-none : (k : ℕ) (f : Formula) → rebound (placed []) k f ≡ f
  opened-none k (bound m) = placed-none k m
  opened-none k (unary o f) = ap (unary o) (opened-none k f)
  opened-none k (binary o f g) = λ i. binary o (opened-none k f i) (opened-none k g i)
  opened-none k (for_all ts p) = ap (for_all ts) (opened-none (length ts + k) p)
  opened-none k (for_some ts p) = ap (for_some ts) (opened-none (length ts + k) p)
  opened-none k (comprehension rs p) = λ i. comprehension (all-opened-none k rs i) (opened-none (count rs + k) p i)
  opened-none k (lambda rs p v) = λ i. lambda (all-opened-none k rs i) (opened-none (count rs + k) p i) (opened-none (count rs + k) v i)
  opened-none k _ = refl

  all-opened-none : (k : ℕ) (fs : Formulas) → all_rebound (placed []) k fs ≡ fs
  all-opened-none k no_formulas = refl
  all-opened-none k (formula_and f fs) = λ i. formula_and (opened-none k f i) (all-opened-none k fs i)

-- ---- all of them
seam : (xs : List Formula) (y : Formula) (ys : List Formula) → xs ++ y ∷ ys ≡ (xs ++ y ∷ []) ++ ys
seam [] y ys = refl
seam (x ∷ xs) y ys = ap (λ zs. x ∷ zs) (seam xs y ys)

bind-behind : (xs around : List Formula) → bind xs around ≡ bind xs [] ++ around
bind-behind [] around = refl
bind-behind (x ∷ xs) around = bind-behind xs (x ∷ around) ∙ seam (bind xs []) x around ∙ ap (λ ys. ys ++ around) (sym (bind-behind xs (x ∷ [])))

length-bind : (xs around : List Formula) → length (bind xs around) ≡ length xs + length around
length-bind [] around = let e : zero + length around ≡ length around = omega arith in sym e
length-bind (x ∷ xs) around = let k = length-bind xs (x ∷ around) in omega (arith, k)

length-names : (zs : List ℕ) → length (map variable zs) ≡ length zs
length-names [] = refl
length-names (z ∷ zs) = ap suc (length-names zs)

pub opening_gives_back : OpeningGivesBack
opening_gives_back [] f c = opened-none 0 f
opening_gives_back (z ∷ zs) f c =
    let stack = bind (map variable zs) [] in
    let size : length zs ≡ length stack + 0 = omega (arith, length-bind (map variable zs) [], length-names zs) in
    ap (λ xs. rebound (placed xs) 0 (closed_over z (length zs) (closed_over_each zs f))) (bind-behind (map variable zs) (variable z ∷ []))
    ∙ opened-last stack z 0 (length zs) size (closed_over_each zs f) (each-closed zs f c)
    ∙ opening_gives_back zs f c
