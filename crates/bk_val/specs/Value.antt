-- The mathematical values, their order and the sets of them.
-- Source: B-Book, set theory.
use Rattle.std.specs.Prelude.{◌≡◌, ℕ, ◌+◌, ◌^◌, ℤ, pos, negsuc, Bool, true, false, ◌&&◌, nat_lt, List, [], ◌∷◌, refl}
use Rattle.std.specs.Ordering.{nat_cmp, int_cmp, bool_cmp, ordering_then}
use Rattle.std.specs.declared.cmp.Ordering.{Ordering}
use Rattle.std.specs.declared.cmp.Ordering.TheVariants.{Less, Equal, Greater}
use Rattle.std.specs.List.Sorted.{IsStrictlySortedBy}
use Rattle.std.proofs.Common.{ap}
use Rattle.std.specs.Coded.{Coded, coded_ℤ, coded_bool}
use base.Stored.{Gv, gnil, gnum, gcons}

mutual
  -- a whole number, a truth value, an element of a carrier set, a pair, or a finite set
  pub data MathValue : Type 0 where
    int : ℤ → MathValue
    bool : Bool → MathValue
    elem : ℕ → ℕ → MathValue
    pair : MathValue → MathValue → MathValue
    set : MathValues → MathValue

  -- the elements of a finite set, in their order
  pub data MathValues : Type 0 where
    none : MathValues
    more : MathValue → MathValues → MathValues

-- the elements as a list
abbrev pub list_of : MathValues → List MathValue
list_of none = []
list_of (more x xs) = x ∷ list_of xs

-- a list as the elements of a set
abbrev pub values_of : List MathValue → MathValues
values_of [] = none
values_of (x ∷ xs) = more x (values_of xs)

abbrev mutual
  -- the one order of values: numbers come first, then truth values, elements, pairs and sets; false is
  -- below true, elements go by their set and then their place, pairs by the first part and then the second
  pub value_cmp : MathValue → MathValue → Ordering
  value_cmp (int a) (int b) = int_cmp a b
  value_cmp (int a) _ = Less
  value_cmp (bool a) (int b) = Greater
  value_cmp (bool a) (bool b) = bool_cmp a b
  value_cmp (bool a) _ = Less
  value_cmp (elem s i) (int b) = Greater
  value_cmp (elem s i) (bool b) = Greater
  value_cmp (elem s i) (elem t j) = ordering_then (nat_cmp s t) (nat_cmp i j)
  value_cmp (elem s i) _ = Less
  value_cmp (pair a b) (pair c d) = ordering_then (value_cmp a c) (value_cmp b d)
  value_cmp (pair a b) (set t) = Less
  value_cmp (pair a b) _ = Greater
  value_cmp (set s) (set t) = values_cmp s t
  value_cmp (set s) _ = Greater

  -- the first difference decides, and else the length
  pub values_cmp : MathValues → MathValues → Ordering
  values_cmp none none = Equal
  values_cmp none (more y ys) = Less
  values_cmp (more x xs) none = Greater
  values_cmp (more x xs) (more y ys) = ordering_then (value_cmp x y) (values_cmp xs ys)

-- each element is below all later ones
abbrev pub IsStrictlySorted : List MathValue → Type 0
IsStrictlySorted xs = IsStrictlySortedBy value_cmp xs

-- whether the first comes before the second
abbrev pub is_below : Ordering → Bool
is_below Less = true
is_below _ = false

-- whether v is below the first element, and each element below the next
abbrev pub rises_from : MathValue → MathValues → Bool
rises_from v none = true
rises_from v (more w ws) = is_below (value_cmp v w) && rises_from w ws

-- whether each element is below the next, as the elements of a set are
abbrev pub is_rising : MathValues → Bool
is_rising none = true
is_rising (more v vs) = rises_from v vs

-- whether a whole number lies in i128, from -2 ^ 127 to 2 ^ 127 - 1; `negsuc n` is -n - 1
abbrev pub fits_i128 : ℤ → Bool
fits_i128 (pos n) = nat_lt n (2 ^ 127)
fits_i128 (negsuc n) = nat_lt n (2 ^ 127)

abbrev mutual
  -- whether the program's values can hold it: each number lies in i128, each number of an element
  -- in u32, and each set at every depth rises
  pub is_storable : MathValue → Bool
  is_storable (int z) = fits_i128 z
  is_storable (bool b) = true
  is_storable (elem s i) = nat_lt s (2 ^ 32) && nat_lt i (2 ^ 32)
  is_storable (pair a b) = is_storable a && is_storable b
  is_storable (set vs) = are_storable vs && is_rising vs

  -- whether each of them can be held
  pub are_storable : MathValues → Bool
  are_storable none = true
  are_storable (more v vs) = is_storable v && are_storable vs

-- the list is that of the elements of a set that can be held
abbrev pub IsStoredSet : List MathValue → Type 0
IsStoredSet xs = is_storable (set (values_of xs)) ≡ true

-- ---- how large a value is, which falls on the way to its parts
abbrev mutual
  -- the weight of a value is more than those of its parts
  pub weight : MathValue → ℕ
  weight (int z) = 1
  weight (bool b) = 1
  weight (elem s i) = 1
  weight (pair a b) = weight a + weight b + 1
  weight (set s) = weights s + 1

  -- the weight of the elements of a set
  pub weights : MathValues → ℕ
  weights none = 0
  weights (more x xs) = weight x + weights xs + 1

-- the weight of a list of values
abbrev pub list_weight : List MathValue → ℕ
list_weight [] = 0
list_weight (x ∷ xs) = weight x + list_weight xs + 1

-- ---- the code of a value, by which a proof tells values apart
abbrev mutual
  -- each kind of value begins with a number of its own, and its parts follow
  pub code_of : MathValue → Gv
  code_of (int z) = gcons (gnum 0) (coded_ℤ.code z)
  code_of (bool b) = gcons (gnum 1) (coded_bool.code b)
  code_of (elem s i) = gcons (gnum 2) (gcons (gnum s) (gnum i))
  code_of (pair a b) = gcons (gnum 3) (gcons (code_of a) (code_of b))
  code_of (set s) = gcons (gnum 4) (codes_of s)

  -- the codes of a set's elements, one after another
  pub codes_of : MathValues → Gv
  codes_of none = gnil
  codes_of (more x xs) = gcons (code_of x) (codes_of xs)

mutual
  -- values with one code are the same
  pub code_of-inj : (x y : MathValue) → code_of x ≡ code_of y → x ≡ y
  code_of-inj (int a) (int b) e = let p : coded_ℤ.code a ≡ coded_ℤ.code b = cc in ap int (coded_ℤ.inj a b p)
  code_of-inj (bool a) (bool b) e = let p : coded_bool.code a ≡ coded_bool.code b = cc in ap bool (coded_bool.inj a b p)
  code_of-inj (elem s i) (elem t j) e = cc
  code_of-inj (pair a b) (pair c d) e =
      let p : code_of a ≡ code_of c = cc in
      let q : code_of b ≡ code_of d = cc in
      cc (code_of-inj a c p, code_of-inj b d q)
  code_of-inj (set s) (set t) e =
      let p : codes_of s ≡ codes_of t = cc in
      ap set (codes_of-inj s t p)
  code_of-inj _ _ e = cc

  -- lists of elements with one code are the same
  pub codes_of-inj : (x y : MathValues) → codes_of x ≡ codes_of y → x ≡ y
  codes_of-inj none none e = refl
  codes_of-inj (more x xs) (more y ys) e =
      let p : code_of x ≡ code_of y = cc in
      let q : codes_of xs ≡ codes_of ys = cc in
      cc (code_of-inj x y p, codes_of-inj xs ys q)
  codes_of-inj _ _ e = cc

-- a value is told by its code
abbrev pub value_code : Coded MathValue
value_code = record { code = code_of; inj = code_of-inj }
