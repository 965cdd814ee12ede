-- Children, and what stands at a path.
use Rattle.std.proofs.Common.{◌≡◌, ℕ, zero, suc, ◌+◌, ◌-◌, ◌^◌, ◌<◌, ◌≤◌, List, [], ◌∷◌, length, get_or, take, drop, refl, sym, ◌∙◌, ap, subst, arith}
use Rattle.std.proofs.lemmas.List.{take_rest}
use Rattle.std.specs.Prelude.{Option, Some, None, IsSome, slice_get, slice_set, option_and_then, unwrap_or}
use Rattle.bk_val.specs.ValueType.{ValueType}
use Rattle.bk_form.specs.Table.{Table, set_size}
use Rattle.bk_form.specs.Formula.{Formula, unary, binary, comprehension, lambda, Formulas, no_formulas, formula_and, formulas_of, list_of_formulas, formula_size, formulas_size, formula_height, formulas_height}
use Rattle.bk_form.specs.Role.{role, roles, unary_role, binary_role, comprehension_role, lambda_role, bind, element_types}
use Rattle.bk_form.specs.Search.{Finder}
use Rattle.bk_form.specs.Environment.{Environment, under}
use Rattle.bk_form.specs.Meaning.{meaning, meanings, unary_meaning, binary_meaning, comprehension_meaning, lambda_meaning, range_types}
use Rattle.bk_seq.specs.Paths.{child, with_child, sub_at, put_at}

pub list_of-formulas_of : (fs : List Formula) → list_of_formulas (formulas_of fs) ≡ fs
list_of-formulas_of [] = refl
list_of-formulas_of (f ∷ fs) = ap (λ gs. f ∷ gs) (list_of-formulas_of fs)

pub formulas_of-list_of : (fs : Formulas) → formulas_of (list_of_formulas fs) ≡ fs
formulas_of-list_of no_formulas = refl
formulas_of-list_of (formula_and f fs) = ap (formula_and f) (formulas_of-list_of fs)

-- ---- one child
-- a path that begins with this child
pub record Entered (f : Formula) (n : ℕ) (ns : List ℕ) (part : Formula) : Type 0 where
  pub first : Formula
  pub is_child : child f n ≡ Some first
  pub below : sub_at first ns ≡ Some part

entered-by : (f : Formula) (n : ℕ) (ns : List ℕ) (part : Formula) (o : Option Formula) → child f n ≡ o → option_and_then (λ c. sub_at c ns) o ≡ Some part → Entered f n ns part
entered-by f n ns part None e h = absurd (cc)
entered-by f n ns part (Some c) e h = record { first = c; is_child = e; below = h }

pub entered : (f : Formula) (n : ℕ) (ns : List ℕ) (part : Formula) → sub_at f (n ∷ ns) ≡ Some part → Entered f n ns part
entered f n ns part h = entered-by f n ns part (child f n) refl h

pub put-child : (f : Formula) (n : ℕ) (ns : List ℕ) (c new : Formula) → child f n ≡ Some c → put_at f (n ∷ ns) new ≡ with_child f n (put_at c ns new)
put-child f n ns c new e = ap (λ o. with_child f n (put_at (unwrap_or o f) ns new)) e

-- ---- a child of a list of ranges
module _ (table : Table) (around : List ValueType) where
  roles-set : (rs : Formulas) (n : ℕ) (c new : Formula) → slice_get (list_of_formulas rs) n ≡ Some c → role table around new ≡ role table around c → roles table around (formulas_of (slice_set (list_of_formulas rs) n new)) ≡ roles table around rs
  roles-set no_formulas n c new e h = absurd (cc)
  roles-set (formula_and f fs) zero c new e h =
      let same : f ≡ c = cc in
      λ i. (h ∙ ap (role table around) (sym same)) i ∷ roles table around (formulas_of-list_of fs i)
  roles-set (formula_and f fs) (suc n) c new e h = ap (λ r. role table around f ∷ r) (roles-set fs n c new e h)

  pub role-with_child : (f : Formula) (n : ℕ) (c new : Formula) → child f n ≡ Some c → role table around new ≡ role table around c → role table around (with_child f n new) ≡ role table around f
  role-with_child (unary o a) (suc zero) c new e h = let same : a ≡ c = cc in ap (unary_role o) (h ∙ ap (role table around) (sym same))
  role-with_child (binary o a b) (suc zero) c new e h = let same : a ≡ c = cc in ap (λ r. binary_role o r (role table around b)) (h ∙ ap (role table around) (sym same))
  role-with_child (binary o a b) (suc (suc zero)) c new e h = let same : b ≡ c = cc in ap (binary_role o (role table around a)) (h ∙ ap (role table around) (sym same))
  role-with_child (comprehension rs p) (suc n) c new e h = ap (λ r. comprehension_role r (role table (bind (element_types r) around) p)) (roles-set rs n c new e h)
  role-with_child (lambda rs p v) (suc n) c new e h = ap (λ r. lambda_role r (role table (bind (element_types r) around) p) (role table (bind (element_types r) around) v)) (roles-set rs n c new e h)
  role-with_child f zero c new e h = absurd (cc)
  role-with_child f (suc n) c new e h = absurd (cc)

module _ (find : Finder) (e : Environment) where
  meanings-set : (rs : Formulas) (n : ℕ) (c new : Formula) → slice_get (list_of_formulas rs) n ≡ Some c → meaning find e new ≡ meaning find e c → meanings find e (formulas_of (slice_set (list_of_formulas rs) n new)) ≡ meanings find e rs
  meanings-set no_formulas n c new k h = absurd (cc)
  meanings-set (formula_and f fs) zero c new k h =
      let same : f ≡ c = cc in
      λ i. (h ∙ ap (meaning find e) (sym same)) i ∷ meanings find e (formulas_of-list_of fs i)
  meanings-set (formula_and f fs) (suc n) c new k h = ap (λ ms. meaning find e f ∷ ms) (meanings-set fs n c new k h)

  pub meaning-with_child : (f : Formula) (n : ℕ) (c new : Formula) → child f n ≡ Some c → meaning find e new ≡ meaning find e c → meaning find e (with_child f n new) ≡ meaning find e f
  meaning-with_child (unary o a) (suc zero) c new k h = let same : a ≡ c = cc in ap (unary_meaning o) (h ∙ ap (meaning find e) (sym same))
  meaning-with_child (binary o a b) (suc zero) c new k h = let same : a ≡ c = cc in ap (λ m. binary_meaning find (set_size e.table) o m (meaning find e b)) (h ∙ ap (meaning find e) (sym same))
  meaning-with_child (binary o a b) (suc (suc zero)) c new k h = let same : b ≡ c = cc in ap (binary_meaning find (set_size e.table) o (meaning find e a)) (h ∙ ap (meaning find e) (sym same))
  meaning-with_child (comprehension rs p) (suc n) c new k h = ap (λ ms. comprehension_meaning ms (λ vs. meaning find (under e (range_types ms) vs) p)) (meanings-set rs n c new k h)
  meaning-with_child (lambda rs p v) (suc n) c new k h = ap (λ ms. lambda_meaning ms (λ vs. meaning find (under e (range_types ms) vs) p) (λ vs. meaning find (under e (range_types ms) vs) v)) (meanings-set rs n c new k h)
  meaning-with_child f zero c new k h = absurd (cc)
  meaning-with_child f (suc n) c new k h = absurd (cc)

-- ---- sizes
sizes-set : (rs : Formulas) (n : ℕ) (c new : Formula) → slice_get (list_of_formulas rs) n ≡ Some c → formulas_size (formulas_of (slice_set (list_of_formulas rs) n new)) + formula_size c ≡ formulas_size rs + formula_size new
sizes-set no_formulas n c new e = absurd (cc)
sizes-set (formula_and f fs) zero c new e =
    let same : formula_size f ≡ formula_size c = ap formula_size (let s : f ≡ c = cc in s) in
    let rest : formulas_size (formulas_of (list_of_formulas fs)) ≡ formulas_size fs = ap formulas_size (formulas_of-list_of fs) in
    omega arith
sizes-set (formula_and f fs) (suc n) c new e = omega (arith, sizes-set fs n c new e)

pub size-with_child : (f : Formula) (n : ℕ) (c new : Formula) → child f n ≡ Some c → formula_size (with_child f n new) + formula_size c ≡ formula_size f + formula_size new
size-with_child (unary o a) (suc zero) c new e = let same : formula_size a ≡ formula_size c = ap formula_size (let s : a ≡ c = cc in s) in omega arith
size-with_child (binary o a b) (suc zero) c new e = let same : formula_size a ≡ formula_size c = ap formula_size (let s : a ≡ c = cc in s) in omega arith
size-with_child (binary o a b) (suc (suc zero)) c new e = let same : formula_size b ≡ formula_size c = ap formula_size (let s : b ≡ c = cc in s) in omega arith
size-with_child (comprehension rs p) (suc n) c new e = omega (arith, sizes-set rs n c new e)
size-with_child (lambda rs p v) (suc n) c new e = omega (arith, sizes-set rs n c new e)
size-with_child f zero c new e = absurd (cc)
size-with_child f (suc n) c new e = absurd (cc)

size-among : (rs : Formulas) (n : ℕ) (c : Formula) → slice_get (list_of_formulas rs) n ≡ Some c → formula_size c ≤ formulas_size rs
size-among no_formulas n c e = absurd (cc)
size-among (formula_and f fs) zero c e = let same : formula_size f ≡ formula_size c = ap formula_size (let s : f ≡ c = cc in s) in omega arith
size-among (formula_and f fs) (suc n) c e = omega (arith, size-among fs n c e)

pub size-child : (f : Formula) (n : ℕ) (c : Formula) → child f n ≡ Some c → formula_size c < formula_size f
size-child (unary o a) (suc zero) c e = let same : formula_size a ≡ formula_size c = ap formula_size (let s : a ≡ c = cc in s) in omega arith
size-child (binary o a b) (suc zero) c e = let same : formula_size a ≡ formula_size c = ap formula_size (let s : a ≡ c = cc in s) in omega arith
size-child (binary o a b) (suc (suc zero)) c e = let same : formula_size b ≡ formula_size c = ap formula_size (let s : b ≡ c = cc in s) in omega arith
size-child (comprehension rs p) (suc n) c e = omega (arith, size-among rs n c e)
size-child (lambda rs p v) (suc n) c e = omega (arith, size-among rs n c e)
size-child f zero c e = absurd (cc)
size-child f (suc n) c e = absurd (cc)

height-among : (rs : Formulas) (n : ℕ) (c : Formula) → slice_get (list_of_formulas rs) n ≡ Some c → formula_height c ≤ formulas_height rs
height-among no_formulas n c e = absurd (cc)
height-among (formula_and f fs) zero c e = let same : formula_height f ≡ formula_height c = ap formula_height (let s : f ≡ c = cc in s) in omega arith
height-among (formula_and f fs) (suc n) c e = omega (arith, height-among fs n c e)

pub height-child : (f : Formula) (n : ℕ) (c : Formula) → child f n ≡ Some c → formula_height c < formula_height f
height-child (unary o a) (suc zero) c e = let same : formula_height a ≡ formula_height c = ap formula_height (let s : a ≡ c = cc in s) in omega arith
height-child (binary o a b) (suc zero) c e = let same : formula_height a ≡ formula_height c = ap formula_height (let s : a ≡ c = cc in s) in omega arith
height-child (binary o a b) (suc (suc zero)) c e = let same : formula_height b ≡ formula_height c = ap formula_height (let s : b ≡ c = cc in s) in omega arith
height-child (comprehension rs p) (suc n) c e = omega (arith, height-among rs n c e)
height-child (lambda rs p v) (suc n) c e = omega (arith, height-among rs n c e)
height-child f zero c e = absurd (cc)
height-child f (suc n) c e = absurd (cc)

-- ---- the new child stands where it was put
set-stands : (rs : Formulas) (n : ℕ) (c new : Formula) → slice_get (list_of_formulas rs) n ≡ Some c → slice_get (list_of_formulas (formulas_of (slice_set (list_of_formulas rs) n new))) n ≡ Some new
set-stands no_formulas n c new e = absurd (cc)
set-stands (formula_and f fs) zero c new e = refl
set-stands (formula_and f fs) (suc n) c new e = set-stands fs n c new e

pub child-with_child : (f : Formula) (n : ℕ) (c new : Formula) → child f n ≡ Some c → child (with_child f n new) n ≡ Some new
child-with_child (unary o a) (suc zero) c new e = refl
child-with_child (binary o a b) (suc zero) c new e = refl
child-with_child (binary o a b) (suc (suc zero)) c new e = refl
child-with_child (comprehension rs p) (suc n) c new e = set-stands rs n c new e
child-with_child (lambda rs p v) (suc n) c new e = set-stands rs n c new e
child-with_child f zero c new e = absurd (cc)
child-with_child f (suc n) c new e = absurd (cc)

-- ---- along a path
some-same : (a b : Formula) → Some a ≡ Some b → a ≡ b
some-same a b h = cc

pub put-stands : (f : Formula) (path : List ℕ) (old new : Formula) → sub_at f path ≡ Some old → sub_at (put_at f path new) path ≡ Some new
put-stands f [] old new h = refl
put-stands f (n ∷ ns) old new h =
    let k = entered f n ns old h in
    let c = put_at k.first ns new in
    ap (λ g. option_and_then (λ d. sub_at d ns) (child g n)) (put-child f n ns k.first new k.is_child)
    ∙ ap (option_and_then (λ d. sub_at d ns)) (child-with_child f n k.first c k.is_child)
    ∙ put-stands k.first ns old new k.below

pub put-role : (table : Table) (around : List ValueType) (f : Formula) (path : List ℕ) (old new : Formula) → sub_at f path ≡ Some old → role table around new ≡ role table around old → role table around (put_at f path new) ≡ role table around f
put-role table around f [] old new h e = e ∙ ap (role table around) (sym (some-same f old h))
put-role table around f (n ∷ ns) old new h e =
    let k = entered f n ns old h in
    ap (role table around) (put-child f n ns k.first new k.is_child)
    ∙ role-with_child table around f n k.first (put_at k.first ns new) k.is_child (put-role table around k.first ns old new k.below e)

pub put-meaning : (find : Finder) (e : Environment) (f : Formula) (path : List ℕ) (old new : Formula) → sub_at f path ≡ Some old → meaning find e new ≡ meaning find e old → meaning find e (put_at f path new) ≡ meaning find e f
put-meaning find e f [] old new h m = m ∙ ap (meaning find e) (sym (some-same f old h))
put-meaning find e f (n ∷ ns) old new h m =
    let k = entered f n ns old h in
    ap (meaning find e) (put-child f n ns k.first new k.is_child)
    ∙ meaning-with_child find e f n k.first (put_at k.first ns new) k.is_child (put-meaning find e k.first ns old new k.below m)

pub put-size : (f : Formula) (path : List ℕ) (old new : Formula) → sub_at f path ≡ Some old → formula_size (put_at f path new) + formula_size old ≡ formula_size f + formula_size new
put-size f [] old new h = let same : formula_size f ≡ formula_size old = ap formula_size (some-same f old h) in omega arith
put-size f (n ∷ ns) old new h =
    let k = entered f n ns old h in
    let c = put_at k.first ns new in
    let e : formula_size (put_at f (n ∷ ns) new) ≡ formula_size (with_child f n c) = ap formula_size (put-child f n ns k.first new k.is_child) in
    let one : formula_size (with_child f n c) + formula_size k.first ≡ formula_size f + formula_size c = size-with_child f n k.first c k.is_child in
    let more : formula_size c + formula_size old ≡ formula_size k.first + formula_size new = put-size k.first ns old new k.below in
    omega arith

-- a part is no larger and no higher than the whole
pub size-part : (f : Formula) (path : List ℕ) (part : Formula) → sub_at f path ≡ Some part → formula_size part ≤ formula_size f
size-part f [] part h = let same : formula_size f ≡ formula_size part = ap formula_size (some-same f part h) in omega arith
size-part f (n ∷ ns) part h =
    let k = entered f n ns part h in
    let one : formula_size k.first < formula_size f = size-child f n k.first k.is_child in
    let more : formula_size part ≤ formula_size k.first = size-part k.first ns part k.below in
    omega arith

pub height-part : (f : Formula) (path : List ℕ) (part : Formula) → sub_at f path ≡ Some part → formula_height part ≤ formula_height f
height-part f [] part h = let same : formula_height f ≡ formula_height part = ap formula_height (some-same f part h) in omega arith
height-part f (n ∷ ns) part h =
    let k = entered f n ns part h in
    let one : formula_height k.first < formula_height f = height-child f n k.first k.is_child in
    let more : formula_height part ≤ formula_height k.first = height-part k.first ns part k.below in
    omega arith

-- ---- what the program uses
pub ruleset ranges = (list_of-formulas_of)

pub path-begins : (xs : List ℕ) → 1 ≤ length xs → xs ≡ get_or xs 0 0 ∷ take (length xs - 1) (drop 1 xs)
path-begins [] h = absurd (omega arith)
path-begins (x ∷ xs) h = rw take_rest refl

is-there : (f : Formula) (path : List ℕ) → IsSome (sub_at f path) → (part : Formula) × (sub_at f path ≡ Some part)
is-there f path h = by-option (sub_at f path) refl h
  where
    by-option : (o : Option Formula) → sub_at f path ≡ o → IsSome o → (part : Formula) × (sub_at f path ≡ Some part)
    by-option None e k = absurd (cc)
    by-option (Some part) e k = (part, e)

some-is : (o : Option Formula) (part : Formula) → o ≡ Some part → IsSome o
some-is o part e = subst (λ x. IsSome x) (sym e) refl

-- what is built below a child
pub below-child : (f : Formula) (xs : List ℕ) (n : ℕ) (rest : List ℕ) (c new : Formula) → xs ≡ n ∷ rest → child f n ≡ Some c → IsSome (sub_at f xs) → formula_size (put_at f xs new) < 2 ^ 32 → IsSome (sub_at c rest) × (formula_size (put_at c rest new) < 2 ^ 32)
below-child f xs n rest c new e k there small =
    let part = is-there f xs there in
    let here : sub_at f (n ∷ rest) ≡ Some part.0 = subst (λ ys. sub_at f ys ≡ Some part.0) e part.1 in
    let below : sub_at c rest ≡ Some part.0 = sym (ap (option_and_then (λ d. sub_at d rest)) k) ∙ here in
    let put : put_at f xs new ≡ with_child f n (put_at c rest new) = ap (λ ys. put_at f ys new) e ∙ put-child f n rest c new k in
    let placed = child-with_child f n c (put_at c rest new) k in
    let less = size-child (with_child f n (put_at c rest new)) n (put_at c rest new) placed in
    let same : formula_size (put_at f xs new) ≡ formula_size (with_child f n (put_at c rest new)) = ap formula_size put in
    (some-is (sub_at c rest) part.0 below, omega arith)
