-- A text that is cut at the first place of a byte, and its pieces.
use Rattle.std.proofs.Common.{◌≡◌, ℕ, suc, ◌+◌, ◌-◌, ◌<◌, ◌≤◌, refl, sym, ◌∙◌, ap, arith, true, false, cond, not, eqb, List, [], ◌∷◌, length, take, drop, Option, Some, None}
use Rattle.std.specs.Prelude.{position}
use Rattle.std.specs.List.{position_or_len, slice_split, onto_first}
use Rattle.std.proofs.lemmas.List.{take_all, length-drop}
use Rattle.bk_calls.specs.Reading.{before_byte, after_byte, is_comma, pieces_left}
use Rattle.bk_calls.proofs.Places.{place_found, none_found}

place_before : (c : ℕ) (xs : List ℕ) → take (position_or_len (λ b. eqb b c) xs) xs ≡ before_byte c xs
place_before c [] = refl
place_before c (b ∷ bs) =
    let place = position_or_len (λ x. eqb x c) bs in
    let more : 1 + place ≡ suc place = omega arith in
    let rest = place_before c bs in
    elim (eqb b c) as (λ v. take (cond (not v) (1 + place) 0) (b ∷ bs) ≡ cond v [] (b ∷ before_byte c bs)) [
      | true ↦ refl
      | false ↦ rw more (ap (λ t. b ∷ t) rest)
    ]

place_after : (c : ℕ) (xs : List ℕ) → position_or_len (λ b. eqb b c) xs < length xs → after_byte c xs ≡ Some (drop (position_or_len (λ b. eqb b c) xs + 1) xs)
place_after c [] h = absurd (omega arith)
place_after c (b ∷ bs) h =
    let place = position_or_len (λ x. eqb x c) bs in
    let more : 1 + place + 1 ≡ suc (place + 1) = omega arith in
    elim (eqb b c) as (λ v. cond (not v) (1 + place) 0 < suc (length bs) → cond v (Some bs) (after_byte c bs) ≡ Some (drop (cond (not v) (1 + place) 0 + 1) (b ∷ bs))) [
      | true ↦ λ k. refl
      | false ↦ λ k. rw more (place_after c bs (omega arith))
    ] h

place_none : (c : ℕ) (xs : List ℕ) → length xs ≤ position_or_len (λ b. eqb b c) xs → after_byte c xs ≡ None
place_none c [] h = refl
place_none c (b ∷ bs) h =
    let place = position_or_len (λ x. eqb x c) bs in
    elim (eqb b c) as (λ v. suc (length bs) ≤ cond (not v) (1 + place) 0 → cond v (Some bs) (after_byte c bs) ≡ None) [
      | true ↦ λ k. absurd (omega arith)
      | false ↦ λ k. place_none c bs (omega arith)
    ] h

pub before_found : (c : ℕ) (xs : List ℕ) (i : ℕ) → Some i ≡ position (λ b. eqb b c) xs → take i xs ≡ before_byte c xs
before_found c xs i h = (let found = place_found (λ b. eqb b c) xs i (sym h) in ap (λ n. take n xs) (sym found.0) ∙ place_before c xs)

pub after_found : (c : ℕ) (xs : List ℕ) (i : ℕ) → Some i ≡ position (λ b. eqb b c) xs → Some (take (length xs - (i + 1)) (drop (i + 1) xs)) ≡ after_byte c xs
after_found c xs i h =
    let found = place_found (λ b. eqb b c) xs i (sym h) in
    let whole : take (length xs - (i + 1)) (drop (i + 1) xs) ≡ drop (i + 1) xs = take_all (length xs - (i + 1)) (drop (i + 1) xs) (omega (arith, length-drop (i + 1) xs)) in
    ap (λ t. Some t) whole ∙ ap (λ n. Some (drop (n + 1) xs)) (sym found.0) ∙ sym (place_after c xs found.1)

pub before_none : (c : ℕ) (xs : List ℕ) → None ≡ position (λ b. eqb b c) xs → xs ≡ before_byte c xs
before_none c xs h = sym (take_all (position_or_len (λ b. eqb b c) xs) xs (none_found (λ b. eqb b c) xs (sym h))) ∙ place_before c xs

pub after_none : (c : ℕ) (xs : List ℕ) → None ≡ position (λ b. eqb b c) xs → None ≡ after_byte c xs
after_none c xs h = sym (place_none c xs (none_found (λ b. eqb b c) xs (sym h)))

-- the first piece, and those that are left
onto_left : (b : ℕ) (xs : List ℕ) (o : Option (List ℕ)) (parts : List (List ℕ)) → parts ≡ xs ∷ pieces_left o → onto_first b parts ≡ (b ∷ xs) ∷ pieces_left o
onto_left b xs o parts h = ap (onto_first b) h

pub pieces_cut : (xs : List ℕ) → slice_split is_comma xs ≡ before_byte 44 xs ∷ pieces_left (after_byte 44 xs)
pieces_cut [] = refl
pieces_cut (b ∷ bs) =
    let more = onto_left b (before_byte 44 bs) (after_byte 44 bs) (slice_split is_comma bs) (pieces_cut bs) in
    elim (eqb b 44) as (λ v. cond v ([] ∷ slice_split is_comma bs) (onto_first b (slice_split is_comma bs)) ≡ cond v [] (b ∷ before_byte 44 bs) ∷ pieces_left (cond v (Some bs) (after_byte 44 bs))) [
      | true ↦ refl
      | false ↦ more
    ]
