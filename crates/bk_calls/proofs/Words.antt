-- The words of a line, and the spaces around them.
use Rattle.std.proofs.Common.{◌≡◌, ℕ, zero, suc, ◌+◌, inl, inr, refl, sym, ◌∙◌, ap, arith, true, false, cond, not, eqb, List, [], ◌∷◌, ◌++◌, length, take, drop, Option, Some}
use Rattle.std.specs.Prelude.{◌≢◌, ◌==◌, ◌||◌, All, position, unwrap_or}
use Rattle.std.specs.List.{position_or_len}
use Rattle.std.proofs.lemmas.Bool.{cases_Bool, cond-true, cond-false, not-true, or_parts, eqb-true, eqb-false, ne_eqb, eq-eqb}
use Rattle.std.proofs.lemmas.List.{append-nil}
use Rattle.std.proofs.lemmas.List.Elements.{All-head, All-tail}
use Rattle.bk_calls.specs.CallLine.{spaces}
use Rattle.bk_calls.specs.Reading.{skip_spaces, is_plain, front, behind, is_empty, is_spaces, before_byte, after_byte}
use Rattle.bk_calls.proofs.Places.{place_or_length}

-- a byte that a name may have
abbrev pub Plain : ℕ → Type 0
Plain b = (b ≢ 32) × (b ≢ 40) × (b ≢ 41) × (b ≢ 44)

pub plain_true : (b : ℕ) → is_plain b ≡ true → Plain b
plain_true b h =
    let none = not-true (b == 32 || (b == 40 || (b == 41 || b == 44))) h in
    let first = or_parts (b == 32) (b == 40 || (b == 41 || b == 44)) none in
    let second = or_parts (b == 40) (b == 41 || b == 44) first.1 in
    let third = or_parts (b == 41) (b == 44) second.1 in
    (eqb-false b 32 first.0, eqb-false b 40 second.0, eqb-false b 41 third.0, eqb-false b 44 third.1)

pub plain_from : (b : ℕ) → Plain b → is_plain b ≡ true
plain_from b h =
    let one : eqb b 32 ≡ false = ne_eqb b 32 h.0 in
    let two : eqb b 40 ≡ false = ne_eqb b 40 h.1 in
    let three : eqb b 41 ≡ false = ne_eqb b 41 h.2 in
    let four : eqb b 44 ≡ false = ne_eqb b 44 h.3 in
    rw (one, two, three, four) refl

-- ---- spaces
pub skip_yes : (b : ℕ) (bs : List ℕ) → eqb b 32 ≡ true → skip_spaces (b ∷ bs) ≡ skip_spaces bs
skip_yes b bs h = cond-true (eqb b 32) (skip_spaces bs) (b ∷ bs) h

pub skip_no : (b : ℕ) (bs : List ℕ) → eqb b 32 ≡ false → skip_spaces (b ∷ bs) ≡ b ∷ bs
skip_no b bs h = cond-false (eqb b 32) (skip_spaces bs) (b ∷ bs) h

pub skip_is : (xs : List ℕ) → (n : ℕ) × (xs ≡ spaces n ++ skip_spaces xs)
skip_is [] = (zero, refl)
skip_is (b ∷ bs) =
    let rest = skip_is bs in
    elim (cases_Bool (eqb b 32)) [
      | inl holds ↦ (suc rest.0, ap (λ c. c ∷ bs) (eqb-true b 32 holds) ∙ ap (λ t. 32 ∷ t) rest.1 ∙ ap (λ t. 32 ∷ (spaces rest.0 ++ t)) (sym (skip_yes b bs holds)))
      | inr fails ↦ (zero, sym (skip_no b bs fails))
    ]

pub skip_over : (n : ℕ) (xs : List ℕ) → skip_spaces (spaces n ++ xs) ≡ skip_spaces xs
skip_over zero xs = refl
skip_over (suc n) xs = skip_over n xs

pub skip_all : (n : ℕ) → skip_spaces (spaces n) ≡ []
skip_all zero = refl
skip_all (suc n) = skip_all n

-- ---- names
front_yes : (b : ℕ) (bs : List ℕ) → is_plain b ≡ true → (front (b ∷ bs) ≡ b ∷ front bs) × (behind (b ∷ bs) ≡ behind bs)
front_yes b bs h = (cond-true (is_plain b) (b ∷ front bs) [] h, cond-true (is_plain b) (behind bs) (b ∷ bs) h)

front_no : (b : ℕ) (bs : List ℕ) → is_plain b ≡ false → (front (b ∷ bs) ≡ []) × (behind (b ∷ bs) ≡ b ∷ bs)
front_no b bs h = (cond-false (is_plain b) (b ∷ front bs) [] h, cond-false (is_plain b) (behind bs) (b ∷ bs) h)

pub front_behind : (xs : List ℕ) → xs ≡ front xs ++ behind xs
front_behind [] = refl
front_behind (b ∷ bs) =
    elim (cases_Bool (is_plain b)) [
      | inl holds ↦ (let parts = front_yes b bs holds in rw (parts.0, parts.1) (ap (λ t. b ∷ t) (front_behind bs)))
      | inr fails ↦ (let parts = front_no b bs fails in rw (parts.0, parts.1) refl)
    ]

-- a text that starts with no byte of a name
abbrev pub Stops : List ℕ → Type 0
Stops [] = Unit {0}
Stops (b ∷ bs) = is_plain b ≡ false

front_stops : (rest : List ℕ) → Stops rest → (front rest ≡ []) × (behind rest ≡ rest)
front_stops [] h = (refl, refl)
front_stops (b ∷ bs) h = front_no b bs h

pub front_name : (name rest : List ℕ) → All Plain name → Stops rest → (front (name ++ rest) ≡ name) × (behind (name ++ rest) ≡ rest)
front_name [] rest plain stops = front_stops rest stops
front_name (b ∷ bs) rest plain stops =
    let parts = front_yes b (bs ++ rest) (plain_from b (All-head Plain b bs plain)) in
    let more = front_name bs rest (All-tail Plain b bs plain) stops in
    (parts.0 ∙ ap (λ t. b ∷ t) more.0, parts.1 ∙ more.1)

front_place : (xs : List ℕ) → (take (position_or_len (λ b. not (is_plain b)) xs) xs ≡ front xs) × (drop (position_or_len (λ b. not (is_plain b)) xs) xs ≡ behind xs)
front_place [] = (refl, refl)
front_place (b ∷ bs) =
    let place = position_or_len (λ b. not (is_plain b)) bs in
    let more : 1 + place ≡ suc place = omega arith in
    let rest = front_place bs in
    elim (is_plain b) as (λ v. (take (cond (not (not v)) (1 + place) 0) (b ∷ bs) ≡ cond v (b ∷ front bs) []) × (drop (cond (not (not v)) (1 + place) 0) (b ∷ bs) ≡ cond v (behind bs) (b ∷ bs))) [
      | true ↦ (rw more (ap (λ t. b ∷ t) rest.0), rw more rest.1)
      | false ↦ (refl, refl)
    ]

-- a text that is split at the first byte that no name has
pub split_front : (xs : List ℕ) (found : Option ℕ) (end : ℕ) → found ≡ position (λ b. not (is_plain b)) xs → end ≡ unwrap_or found (length xs) → (take end xs ≡ front xs) × (drop end xs ≡ behind xs)
split_front xs found end is at =
    let place : end ≡ position_or_len (λ b. not (is_plain b)) xs = at ∙ ap (λ o. unwrap_or o (length xs)) is ∙ place_or_length (λ b. not (is_plain b)) xs in
    let parts = front_place xs in
    (ap (λ n. take n xs) place ∙ parts.0, ap (λ n. drop n xs) place ∙ parts.1)

-- ---- a byte that cuts
pub cut_at : (c : ℕ) (xs rest : List ℕ) → after_byte c xs ≡ Some rest → xs ≡ before_byte c xs ++ (c ∷ rest)
cut_at c [] rest h = absurd cc
cut_at c (b ∷ bs) rest h =
    elim (cases_Bool (eqb b c)) [
      | inl holds ↦ (
          let same : Some bs ≡ Some rest = sym (cond-true (eqb b c) (Some bs) (after_byte c bs) holds) ∙ h in
          let left : before_byte c (b ∷ bs) ≡ [] = cond-true (eqb b c) [] (b ∷ before_byte c bs) holds in
          let tail : bs ≡ rest = cc in
          ap (λ d. d ∷ bs) (eqb-true b c holds) ∙ ap (λ t. c ∷ t) tail ∙ ap (λ t. t ++ (c ∷ rest)) (sym left))
      | inr fails ↦ (
          let more : after_byte c bs ≡ Some rest = sym (cond-false (eqb b c) (Some bs) (after_byte c bs) fails) ∙ h in
          let left : before_byte c (b ∷ bs) ≡ b ∷ before_byte c bs = cond-false (eqb b c) [] (b ∷ before_byte c bs) fails in
          ap (λ t. b ∷ t) (cut_at c bs rest more) ∙ ap (λ t. t ++ (c ∷ rest)) (sym left))
    ]

pub cut_over : (c : ℕ) (xs rest : List ℕ) → All (λ b. b ≢ c) xs → (before_byte c (xs ++ (c ∷ rest)) ≡ xs) × (after_byte c (xs ++ (c ∷ rest)) ≡ Some rest)
cut_over c [] rest h = (
  cond-true (eqb c c) [] (c ∷ before_byte c rest) (eq-eqb c c refl),
  cond-true (eqb c c) (Some rest) (after_byte c rest) (eq-eqb c c refl),
)
cut_over c (b ∷ bs) rest h =
    let differs : eqb b c ≡ false = ne_eqb b c (All-head (λ b. b ≢ c) b bs h) in
    let more = cut_over c bs rest (All-tail (λ b. b ≢ c) b bs h) in (
      cond-false (eqb b c) [] (b ∷ before_byte c (bs ++ (c ∷ rest))) differs ∙ ap (λ t. b ∷ t) more.0,
      cond-false (eqb b c) (Some (bs ++ (c ∷ rest))) (after_byte c (bs ++ (c ∷ rest))) differs ∙ more.1,
    )

-- ---- a word with spaces around it
pub empty_is : (xs : List ℕ) → is_empty xs ≡ true → xs ≡ []
empty_is [] h = refl
empty_is (b ∷ bs) h = absurd cc

pub spaces_is : (xs : List ℕ) → is_spaces xs ≡ true → (n : ℕ) × (xs ≡ spaces n)
spaces_is xs h =
    let left = skip_is xs in
    (left.0, left.1 ∙ ap (λ t. spaces left.0 ++ t) (empty_is (skip_spaces xs) h) ∙ append-nil (spaces left.0))

pub spaces_from : (n : ℕ) → is_spaces (spaces n) ≡ true
spaces_from n = ap is_empty (skip_all n)

pub spaces_stop : (n : ℕ) → Stops (spaces n)
spaces_stop zero = tt
spaces_stop (suc n) = refl

pub skip_word : (word rest : List ℕ) → All Plain word → word ≢ [] → skip_spaces (word ++ rest) ≡ word ++ rest
skip_word [] rest plain some = absurd (some refl)
skip_word (b ∷ bs) rest plain some = skip_no b (bs ++ rest) (ne_eqb b 32 (All-head Plain b bs plain).0)

-- a text that is a word and a rest behind spaces, and the word's end
pub word_in : (n : ℕ) (word rest : List ℕ) → All Plain word → word ≢ [] → Stops rest →
    (front (skip_spaces (spaces n ++ (word ++ rest))) ≡ word) × (behind (skip_spaces (spaces n ++ (word ++ rest))) ≡ rest)
word_in n word rest plain some stops =
    let text : skip_spaces (spaces n ++ (word ++ rest)) ≡ word ++ rest = skip_over n (word ++ rest) ∙ skip_word word rest plain some in
    let parts = front_name word rest plain stops in
    (ap front text ∙ parts.0, ap behind text ∙ parts.1)
