-- Numbers that are kept in 64 bits say the same of a line as the written ones.
use Rattle.std.proofs.Common.{◌≡◌, ℕ, suc, ◌+◌, ◌^◌, ◌-◌, ◌≤◌, ◌<◌, inl, inr, refl, sym, ◌∙◌, ap, arith, true, false, List, [], ◌∷◌, ◌++◌, length, drop, map, Option, Some, None, Ok, Err}
use Rattle.std.specs.Prelude.{◌⊎◌, ◌&&◌, nat_lt, ℤ, pos, negsuc, neg_ℤ, ◌≤ℤ◌, FitsSigned, if◌then◌else◌}
use Rattle.std.specs.Int.{w64}
use Rattle.std.specs.Int.Signed.{mag}
use Rattle.std.specs.List.{list_all}
use Rattle.std.specs.Option.{option_map}
use Rattle.std.proofs.lemmas.Bool.{cases_Bool, cases_lt, and_parts, cond-true, cond-false, false_from_ne_true}
use Rattle.std.proofs.lemmas.Bool.Decides.{nat_tests}
use Rattle.std.proofs.lemmas.Int.{ints}
use Rattle.bk_code.specs.declared.image.Image.{Image}
use Rattle.bk_code.specs.declared.image.Parameter.{Parameter}
use Rattle.bk_code.specs.declared.image.CellKind.{CellKind}
use Rattle.bk_code.specs.declared.image.CellKind.TheVariants.{Integer, Bool as Truths, Set}
use Rattle.bk_code.specs.Numbers.{int_max, IsWithin, is_within}
use Rattle.bk_calls.specs.CallLine.{Argument, Number, Truth, Element}
use Rattle.bk_calls.specs.declared.argument.Argument.{Argument as Held}
use Rattle.bk_calls.specs.Held.{held}
use Rattle.bk_calls.specs.Script.{value_of, OutOfRange}
use Rattle.bk_calls.specs.Reading.{least, kept, kept_argument, in_front_of, values_of, ranged, from_values}

-- the number is that one, or is kept for it
abbrev IsKept : ℤ → ℤ → Type 0
IsKept n m = (m ≡ n) ⊎ (m ≡ kept n)

abbrev AreKept : List ℤ → List ℤ → Type 0
AreKept [] [] = Unit {0}
AreKept (n ∷ ns) (m ∷ ms) = IsKept n m × AreKept ns ms
AreKept ns ms = ⊥

abbrev OneKept : Option ℤ → Option ℤ → Type 0
OneKept None None = Unit {0}
OneKept (Some n) (Some m) = IsKept n m
OneKept o p = ⊥

abbrev AllKept : Option (List ℤ) → Option (List ℤ) → Type 0
AllKept None None = Unit {0}
AllKept (Some ns) (Some ms) = AreKept ns ms
AllKept o p = ⊥

same_kept : (o : Option ℤ) → OneKept o o
same_kept None = tt
same_kept (Some n) = inl refl

value_kept : (image : Image) (kind : CellKind) (a : Argument) → OneKept (value_of image kind a) (value_of image kind (kept_argument a))
value_kept image Integer (Number n) = inr refl
value_kept image Integer (Truth b) = tt
value_kept image Integer (Element name) = tt
value_kept image Truths (Number n) = tt
value_kept image Truths (Truth b) = inl refl
value_kept image Truths (Element name) = tt
value_kept image (Set k) (Number n) = tt
value_kept image (Set k) (Truth b) = tt
value_kept image (Set k) (Element name) = same_kept (value_of image (Set k) (Element name))

both_kept : (o p : Option ℤ) (os ps : Option (List ℤ)) → OneKept o p → AllKept os ps → AllKept (in_front_of o os) (in_front_of p ps)
both_kept None None os ps h k = tt
both_kept None (Some m) os ps h k = absurd h
both_kept (Some n) None os ps h k = absurd h
both_kept (Some n) (Some m) None None h k = tt
both_kept (Some n) (Some m) None (Some ms) h k = absurd k
both_kept (Some n) (Some m) (Some ns) None h k = absurd k
both_kept (Some n) (Some m) (Some ns) (Some ms) h k = (h, k)

values_kept : (image : Image) (inputs : List Parameter) (arguments : List Argument) → AllKept (values_of image inputs arguments) (values_of image inputs (map kept_argument arguments))
values_kept image [] [] = tt
values_kept image [] (a ∷ arguments) = tt
values_kept image (input ∷ inputs) [] = tt
values_kept image (input ∷ inputs) (a ∷ arguments) =
    both_kept (value_of image input.kind a) (value_of image input.kind (kept_argument a)) (values_of image inputs arguments) (values_of image inputs (map kept_argument arguments))
    (value_kept image input.kind a) (values_kept image inputs arguments)

-- ---- the range
within_then : (max n : ℤ) → is_within max n ≡ true → IsWithin max n
within_then max n h = (grind (arith, ints), grind (arith, ints))

outside : (max n : ℤ) → (IsWithin max n → ⊥) → is_within max n ≡ false
outside max n h = false_from_ne_true (is_within max n) (λ yes. h (within_then max n yes))

-- the greatest number of 64 bits is the most that a range has
pub narrow_max : (max : ℤ) → FitsSigned w64 max → max ≤ℤ pos 9223372036854775807
narrow_max (pos n) fits = let small : n < 2 ^ 63 = fits.sfits in omega (arith, ints, small)
narrow_max (negsuc n) fits = omega (arith, ints)

nat_lt_if : (i n : ℕ) → i < n → nat_lt i n ≡ true
nat_lt_if i n h = grind (arith, nat_tests)

nat_lt_not : (i n : ℕ) → n ≤ i → nat_lt i n ≡ false
nat_lt_not i n h = grind (arith, nat_tests)

kept_narrow : (n : ℤ) → mag n < 2 ^ 63 → kept n ≡ n
kept_narrow n h = cond-true (nat_lt (mag n) (2 ^ 63)) n least (nat_lt_if (mag n) (2 ^ 63) h)

kept_wide : (n : ℤ) → 2 ^ 63 ≤ mag n → kept n ≡ least
kept_wide n h = cond-false (nat_lt (mag n) (2 ^ 63)) n least (nat_lt_not (mag n) (2 ^ 63) h)

-- a number within the range has 64 bits, and the least of them lies outside
within_narrow : (max n : ℤ) → max ≤ℤ pos 9223372036854775807 → IsWithin max n → mag n < 2 ^ 63
within_narrow max (pos n) most w = let high : pos n ≤ℤ max = w.1 in let small : n < 2 ^ 63 = omega (arith, ints, high, most) in small
within_narrow max (negsuc n) most w = let low : neg_ℤ max ≤ℤ negsuc n = w.0 in let small : n < 2 ^ 63 = omega (arith, ints, low, most) in small

least_outside : (max : ℤ) → max ≤ℤ pos 9223372036854775807 → IsWithin max least → ⊥
least_outside max most w = let low : neg_ℤ max ≤ℤ negsuc 9223372036854775807 = w.0 in omega (arith, ints, low, most)

kept_within : (image : Image) (n : ℤ) → int_max image ≤ℤ pos 9223372036854775807 → is_within (int_max image) (kept n) ≡ is_within (int_max image) n
kept_within image n most =
    elim (cases_lt (mag n) (2 ^ 63)) [
      | inl lt ↦ ap (is_within (int_max image)) (kept_narrow n lt)
      | inr ge ↦ ap (is_within (int_max image)) (kept_wide n ge)
          ∙ (outside (int_max image) least (least_outside (int_max image) most)
          ∙ sym (outside (int_max image) n (λ w. omega (arith, ge, within_narrow (int_max image) n most w))))
    ]

within_kept : (image : Image) (n : ℤ) → int_max image ≤ℤ pos 9223372036854775807 → is_within (int_max image) n ≡ true → kept n ≡ n
within_kept image n most h = kept_narrow n (within_narrow (int_max image) n most (within_then (int_max image) n h))

-- ---- the numbers of a line
one_within : (image : Image) (n m : ℤ) → int_max image ≤ℤ pos 9223372036854775807 → IsKept n m → is_within (int_max image) m ≡ is_within (int_max image) n
one_within image n m most (inl h) = ap (is_within (int_max image)) h
one_within image n m most (inr h) = ap (is_within (int_max image)) h ∙ kept_within image n most

one_same : (image : Image) (n m : ℤ) → int_max image ≤ℤ pos 9223372036854775807 → IsKept n m → is_within (int_max image) n ≡ true → m ≡ n
one_same image n m most (inl h) within = h
one_same image n m most (inr h) within = h ∙ within_kept image n most within

all_within : (image : Image) (ns ms : List ℤ) → int_max image ≤ℤ pos 9223372036854775807 → AreKept ns ms → list_all (is_within (int_max image)) ms ≡ list_all (is_within (int_max image)) ns
all_within image [] [] most h = refl
all_within image [] (m ∷ ms) most h = absurd h
all_within image (n ∷ ns) [] most h = absurd h
all_within image (n ∷ ns) (m ∷ ms) most h =
    ap (λ b. b && list_all (is_within (int_max image)) ms) (one_within image n m most h.0) ∙ ap (λ b. is_within (int_max image) n && b) (all_within image ns ms most h.1)

all_same : (image : Image) (ns ms : List ℤ) → int_max image ≤ℤ pos 9223372036854775807 → AreKept ns ms → list_all (is_within (int_max image)) ns ≡ true → ms ≡ ns
all_same image [] [] most h within = refl
all_same image [] (m ∷ ms) most h within = absurd h
all_same image (n ∷ ns) [] most h within = absurd h
all_same image (n ∷ ns) (m ∷ ms) most h within =
    let parts = and_parts (is_within (int_max image) n) (list_all (is_within (int_max image)) ns) within in
    ap (λ k. k ∷ ms) (one_same image n m most h.0 parts.0) ∙ ap (λ t. n ∷ t) (all_same image ns ms most h.1 parts.1)

ranged_kept : (image : Image) (op : ℕ) (ns ms : List ℤ) → int_max image ≤ℤ pos 9223372036854775807 → AreKept ns ms → ranged image op ms ≡ ranged image op ns
ranged_kept image op ns ms most h =
    elim (cases_Bool (list_all (is_within (int_max image)) ns)) [
      | inl holds ↦ ap (ranged image op) (all_same image ns ms most h holds)
      | inr fails ↦ cond-false (list_all (is_within (int_max image)) ms) (Ok (record { op = op; args = ms })) (Err OutOfRange) (all_within image ns ms most h ∙ fails)
          ∙ sym (cond-false (list_all (is_within (int_max image)) ns) (Ok (record { op = op; args = ns })) (Err OutOfRange) fails)
    ]

from_kept : (image : Image) (op : ℕ) (o p : Option (List ℤ)) → int_max image ≤ℤ pos 9223372036854775807 → AllKept o p → from_values image op p ≡ from_values image op o
from_kept image op None None most h = refl
from_kept image op None (Some ms) most h = absurd h
from_kept image op (Some ns) None most h = absurd h
from_kept image op (Some ns) (Some ms) most h = ranged_kept image op ns ms most h

pub kept_values : (image : Image) (op : ℕ) (inputs : List Parameter) (arguments : List Argument) → int_max image ≤ℤ pos 9223372036854775807 →
    from_values image op (values_of image inputs (map kept_argument arguments)) ≡ from_values image op (values_of image inputs arguments)
kept_values image op inputs arguments most = from_kept image op (values_of image inputs arguments) (values_of image inputs (map kept_argument arguments)) most (values_kept image inputs arguments)

-- ---- one argument more is read
pub uncounted : (image : Image) (inputs : List Parameter) (arguments : List Argument) → (length arguments ≡ length inputs → ⊥) → None ≡ values_of image inputs arguments
uncounted image [] [] h = absurd (h refl)
uncounted image [] (a ∷ arguments) h = refl
uncounted image (input ∷ inputs) [] h = refl
uncounted image (input ∷ inputs) (a ∷ arguments) h = front_none (value_of image input.kind a) (values_of image inputs arguments) (uncounted image inputs arguments (λ e. h (ap suc e)))
  where
    front_none : (o : Option ℤ) (os : Option (List ℤ)) → None ≡ os → None ≡ in_front_of o os
    front_none None os k = refl
    front_none (Some n) None k = refl
    front_none (Some n) (Some ns) k = absurd cc

abbrev pub behind_numbers : List ℤ → Option (List ℤ) → Option (List ℤ)
behind_numbers first os = option_map (λ others. first ++ others) os

-- the values of inputs and arguments from a place on
abbrev pub values_from : Image → ℕ → List Parameter → List Held → Option (List ℤ)
values_from image i inputs arguments = values_of image (drop i inputs) (map held (drop i arguments))
