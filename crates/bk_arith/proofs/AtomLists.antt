-- Lists of atoms: which stand in them, and that none stands twice.
use Rattle.std.proofs.Common.{◌≡◌, ℕ, ℤ, pos, ◌+ℤ◌, ◌*ℤ◌, List, [], ◌∷◌, ◌++◌, map, get_or, if◌then◌else◌, refl, ap, sym, subst, ◌∙◌, arith, Bool, true, false, ◌||◌}
use Rattle.std.specs.List.{list_any, list_all, fold, flat_map}
use Rattle.std.proofs.Math.IntN.{zero-*ℤ, +ℤ_idl}
use Rattle.std.proofs.lemmas.Int.{ints}
use Rattle.bk_form.specs.Formula.{Formula}
use Rattle.bk_form.proofs.Members.{and-true, and-both, or-left, or-right}
use Rattle.bk_lin.specs.Inequality.{dot}
use Rattle.bk_arith.specs.Same.{is_same}
use Rattle.bk_arith.specs.Reading.{occurrences, with_atom, atoms_of}
use Rattle.bk_arith.proofs.SameFormula.{same-then, same-if}

-- whether the formula stands in the list
abbrev pub stands : List Formula → Formula → Bool
stands found a = list_any (is_same a) found

-- no formula stands twice
abbrev pub IsOnce : List Formula → Type 0
IsOnce [] = Unit {0}
IsOnce (a ∷ rest) = (stands rest a ≡ false) × IsOnce rest

-- ---- one atom more
stands-left : (xs ys : List Formula) (a : Formula) → stands xs a ≡ true → stands (xs ++ ys) a ≡ true
stands-left [] ys a h = absurd (cc)
stands-left (x ∷ xs) ys a h = by_head (is_same a x) refl (λ k. stands-left xs ys a k)
  where
    by_head : (b : Bool) → is_same a x ≡ b → (stands xs a ≡ true → stands (xs ++ ys) a ≡ true) → (is_same a x || stands (xs ++ ys) a) ≡ true
    by_head true e next = or-left (is_same a x) (stands (xs ++ ys) a) e
    by_head false e next = or-right (is_same a x) (stands (xs ++ ys) a) (next (ap (λ c. c || stands xs a) (sym e) ∙ h))

stands-last : (xs : List Formula) (a : Formula) → stands (xs ++ a ∷ []) a ≡ true
stands-last [] a = or-left (is_same a a) false (same-if a a refl)
stands-last (x ∷ xs) a = or-right (is_same a x) (stands (xs ++ a ∷ []) a) (stands-last xs a)

stands-not : (xs : List Formula) (a b : Formula) → stands xs b ≡ false → is_same b a ≡ false → stands (xs ++ a ∷ []) b ≡ false
stands-not [] a b h k = ap (λ c. c || false) k
stands-not (x ∷ xs) a b h k = by_head (is_same b x) refl (λ m. stands-not xs a b m k)
  where
    by_head : (c : Bool) → is_same b x ≡ c → (stands xs b ≡ false → stands (xs ++ a ∷ []) b ≡ false) → (is_same b x || stands (xs ++ a ∷ []) b) ≡ false
    by_head true e next = let f : (is_same b x || stands xs b) ≡ true = or-left (is_same b x) (stands xs b) e in absurd (cc)
    by_head false e next = ap (λ c. c || stands (xs ++ a ∷ []) b) e ∙ next (ap (λ c. c || stands xs b) (sym e) ∙ h)

-- two that are not the same either way round
same-sides : (a b : Formula) → is_same a b ≡ false → is_same b a ≡ false
same-sides a b h = by_test (is_same b a) refl
  where
    by_test : (c : Bool) → is_same b a ≡ c → is_same b a ≡ false
    by_test false e = e
    by_test true e = let f : is_same a b ≡ true = same-if a b (sym (same-then b a e)) in absurd (cc)

once-more : (xs : List Formula) (a : Formula) → stands xs a ≡ false → IsOnce xs → IsOnce (xs ++ a ∷ [])
once-more [] a h once = (refl, tt)
once-more (x ∷ xs) a h once = by_head (is_same a x) refl (λ k. once-more xs a k once.1)
  where
    by_head : (c : Bool) → is_same a x ≡ c → (stands xs a ≡ false → IsOnce (xs ++ a ∷ [])) → IsOnce (x ∷ (xs ++ a ∷ []))
    by_head true e next = let f : (is_same a x || stands xs a) ≡ true = or-left (is_same a x) (stands xs a) e in absurd (cc)
    by_head false e next = (
      stands-not xs a x once.0 (same-sides a x e),
      next (ap (λ c. c || stands xs a) (sym e) ∙ h),
    )

-- ---- many atoms more
with_atom-once : (found : List Formula) (a : Formula) → IsOnce found → IsOnce (with_atom found a)
with_atom-once found a once = by_test (stands found a) refl
  where
    by_test : (b : Bool) → stands found a ≡ b → IsOnce (if stands found a then found else found ++ a ∷ [])
    by_test true e = subst (λ b. IsOnce (if b then found else found ++ a ∷ [])) (sym e) once
    by_test false e = subst (λ b. IsOnce (if b then found else found ++ a ∷ [])) (sym e) (once-more found a e once)

with_atom-keeps : (found : List Formula) (a b : Formula) → stands found b ≡ true → stands (with_atom found a) b ≡ true
with_atom-keeps found a b h = by_test (stands found a) refl
  where
    by_test : (c : Bool) → stands found a ≡ c → stands (if stands found a then found else found ++ a ∷ []) b ≡ true
    by_test true e = subst (λ c. stands (if c then found else found ++ a ∷ []) b ≡ true) (sym e) h
    by_test false e = subst (λ c. stands (if c then found else found ++ a ∷ []) b ≡ true) (sym e) (stands-left found (a ∷ []) b h)

with_atom-has : (found : List Formula) (a : Formula) → stands (with_atom found a) a ≡ true
with_atom-has found a = by_test (stands found a) refl
  where
    by_test : (c : Bool) → stands found a ≡ c → stands (if stands found a then found else found ++ a ∷ []) a ≡ true
    by_test true e = subst (λ c. stands (if c then found else found ++ a ∷ []) a ≡ true) (sym e) e
    by_test false e = subst (λ c. stands (if c then found else found ++ a ∷ []) a ≡ true) (sym e) (stands-last found a)

fold-once : (found rest : List Formula) → IsOnce found → IsOnce (fold with_atom found rest)
fold-once found [] once = once
fold-once found (a ∷ rest) once = fold-once (with_atom found a) rest (with_atom-once found a once)

fold-keeps : (found rest : List Formula) (b : Formula) → stands found b ≡ true → stands (fold with_atom found rest) b ≡ true
fold-keeps found [] b h = h
fold-keeps found (a ∷ rest) b h = fold-keeps (with_atom found a) rest b (with_atom-keeps found a b h)

fold-has : (found rest : List Formula) → list_all (stands (fold with_atom found rest)) rest ≡ true
fold-has found rest = each found rest (fold with_atom found rest) (λ b h. h) refl
  where
    each : (found rest whole : List Formula) → ((b : Formula) → stands (fold with_atom found rest) b ≡ true → stands whole b ≡ true) → whole ≡ whole → list_all (stands whole) rest ≡ true
    each found [] whole f e = refl
    each found (a ∷ rest) whole f e =
        and-true (stands whole a) (list_all (stands whole) rest)
        (f a (fold-keeps (with_atom found a) rest a (with_atom-has found a)))
        (each (with_atom found a) rest whole f e)

pub atoms-once : (terms : List Formula) → IsOnce (atoms_of terms)
atoms-once terms = fold-once [] (flat_map occurrences terms) tt

pub atoms-has : (terms : List Formula) → list_all (stands (atoms_of terms)) (flat_map occurrences terms) ≡ true
atoms-has terms = fold-has [] (flat_map occurrences terms)

-- ---- tests of joined lists
pub all-append : (test : Formula → Bool) (xs ys : List Formula) → list_all test (xs ++ ys) ≡ true → (list_all test xs ≡ true) × (list_all test ys ≡ true)
all-append test [] ys h = (refl, h)
all-append test (x ∷ xs) ys h =
    let k = and-both (test x) (list_all test (xs ++ ys)) h in
    let r = all-append test xs ys k.1 in
    (and-true (test x) (list_all test xs) k.0 r.0, r.1)

-- ---- the value of one atom
-- the coefficients of one times a formula, and the numbers of the atoms
abbrev pub units : Formula → List Formula → List ℤ
units a atoms = map (λ b. if is_same a b then pos 1 else pos 0) atoms

module _ (number : Formula → ℤ) (past : Formula) where
  abbrev numbers : List Formula → ℕ → ℤ
  numbers atoms k = number (get_or atoms k past)

  absent : (a : Formula) (atoms : List Formula) → stands atoms a ≡ false → dot (units a atoms) (numbers atoms) ≡ pos 0
  absent a [] h = refl
  absent a (b ∷ bs) h = by_head (is_same a b) refl (λ k. absent a bs k)
    where
      by_head : (c : Bool) → is_same a b ≡ c → (stands bs a ≡ false → dot (units a bs) (numbers bs) ≡ pos 0) → (if is_same a b then pos 1 else pos 0) *ℤ number b +ℤ dot (units a bs) (numbers bs) ≡ pos 0
      by_head true e next = let f : (is_same a b || stands bs a) ≡ true = or-left (is_same a b) (stands bs a) e in absurd (cc)
      by_head false e next =
          ap (λ c. (if c then pos 1 else pos 0) *ℤ number b +ℤ dot (units a bs) (numbers bs)) e
          ∙ ap (λ s. s +ℤ dot (units a bs) (numbers bs)) (zero-*ℤ (number b)) ∙ +ℤ_idl (dot (units a bs) (numbers bs))
          ∙ next (ap (λ c. c || stands bs a) (sym e) ∙ h)

  one_times : (z : ℤ) → pos 1 *ℤ z +ℤ pos 0 ≡ z
  one_times z = omega (arith, ints)

  pub present : (a : Formula) (atoms : List Formula) → IsOnce atoms → stands atoms a ≡ true → dot (units a atoms) (numbers atoms) ≡ number a
  present a [] once h = absurd (cc)
  present a (b ∷ bs) once h = by_head (is_same a b) refl (λ k. present a bs once.1 k)
    where
      by_head : (c : Bool) → is_same a b ≡ c → (stands bs a ≡ true → dot (units a bs) (numbers bs) ≡ number a) → (if is_same a b then pos 1 else pos 0) *ℤ number b +ℤ dot (units a bs) (numbers bs) ≡ number a
      by_head true e next =
          let same : a ≡ b = same-then a b e in
          ap (λ c. (if c then pos 1 else pos 0) *ℤ number b +ℤ dot (units a bs) (numbers bs)) e
          ∙ ap (λ s. pos 1 *ℤ number b +ℤ s) (absent a bs (ap (λ f. stands bs f) same ∙ once.0))
          ∙ one_times (number b) ∙ ap number (sym same)
      by_head false e next =
          ap (λ c. (if c then pos 1 else pos 0) *ℤ number b +ℤ dot (units a bs) (numbers bs)) e
          ∙ ap (λ s. s +ℤ dot (units a bs) (numbers bs)) (zero-*ℤ (number b)) ∙ +ℤ_idl (dot (units a bs) (numbers bs))
          ∙ next (ap (λ c. c || stands bs a) (sym e) ∙ h)
