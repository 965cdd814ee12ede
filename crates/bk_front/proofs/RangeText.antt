-- Digits without a sign, and MAXINT that they say.
use Rattle.std.proofs.Common.{◌≡◌, ℕ, ◌<◌, ◌≤◌, ◌^◌, ℤ, pos, ◌≤ℤ◌, true, List, [], ◌∷◌, get_or, Option, None, Some, MatchOption, refl, sym, ◌∙◌, ap, subst, arith}
use Rattle.std.specs.Str.{IsUtf8}
use Rattle.std.specs.Str.Parse.{IsNumeral, digits_value, without_leading_plus}
use Rattle.std.proofs.lemmas.Fmt.{IsAscii-from_digits}
use Rattle.std.proofs.lemmas.Int.{ints}
use Rattle.std.proofs.lemmas.Str.{IsUtf8-from_ascii}
use Rattle.std.proofs.lemmas.Str.Parse.{digit_at, without_leading_plus_none}
use Rattle.bk_limits.specs.declared.TheConstants.{GREATEST_MAXINT}
use Rattle.bk_front.specs.declared.project_file.LineKind.{LineKind}
use Rattle.bk_front.specs.ProjectFile.{first_or, max_in, is_range, IsRangeText}

first_is : (text : List ℕ) → get_or text 0 0 ≡ first_or 0 text
first_is [] = refl
first_is (c ∷ cs) = refl

-- a text that begins with a plus is no digits
pub signed : (text : List ℕ) → first_or 0 text ≡ 43 → IsNumeral 10 text → ⊥
signed text h n =
    let one = digit_at text 0 n.1 n.0 in
    omega (arith, one.0, one.1, first_is text ∙ h)

-- and without one nothing is left out in front of the digits
pub unsigned : (text : List ℕ) → (first_or 0 text ≡ 43 → ⊥) → without_leading_plus text ≡ text
unsigned text h = without_leading_plus_none text (λ e. h (sym (first_is text) ∙ e))

pub digits_are_text : (text : List ℕ) → IsNumeral 10 text → IsUtf8 text
digits_are_text text n = IsUtf8-from_ascii text (IsAscii-from_digits text n.1)

-- 64 bits hold MAXINT
pub few_bits : (text : List ℕ) → IsRangeText text → digits_value 10 text < 2 ^ 64
few_bits text r =
    let most : max_in text ≤ℤ GREATEST_MAXINT = r.range.greatest in
    omega (arith, ints, most)

-- MAXINT may be the number that the digits stand for, or not
pub max_told : (text : List ℕ) (n : ℕ) (o : Option ℤ) → IsNumeral 10 text → n ≡ digits_value 10 text → MatchOption o ((1 ≤ n) × (pos n ≤ℤ GREATEST_MAXINT) → ⊥) (λ max. (1 ≤ n) × (pos n ≤ℤ GREATEST_MAXINT) × (max ≡ pos n))
    → MatchOption o (IsRangeText text → ⊥) (λ max. IsRangeText text × (max ≡ max_in text))
max_told text n None digits e h = λ r.
    let least : pos 1 ≤ℤ max_in text = r.range.least in
    let most : max_in text ≤ℤ GREATEST_MAXINT = r.range.greatest in
    h (omega (arith, ints, least, e), omega (arith, ints, most, e))
max_told text n (Some max) digits e h = (record { digits = digits; range = record { least = omega (arith, ints, h.0, e); greatest = omega (arith, ints, h.1, e) } }, h.2 ∙ ap pos e)

-- a line for the range says it, and no other line does
pub said : (o : Option ℤ) (k : LineKind) (name bytes : List ℕ) → is_range k ≡ true → bytes ≡ name → MatchOption o (IsRangeText bytes → ⊥) (λ max. IsRangeText bytes × (max ≡ max_in bytes))
    → MatchOption o (is_range k ≡ true → IsRangeText name → ⊥) (λ max. (is_range k ≡ true) × (max ≡ max_in name))
said None k name bytes here same h = λ _ range. h (subst IsRangeText (sym same) range)
said (Some max) k name bytes here same h = (here, h.1 ∙ ap max_in same)
