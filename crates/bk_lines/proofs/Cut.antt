-- The first line of a text is what stands before its first line feed.
use Rattle.std.proofs.Common.{◌≡◌, ◌≢◌, ◌<◌, ◌+◌, ◌-◌, ◌==◌, ℕ, suc, Bool, false, List, [], ◌∷◌, length, take, drop, slice_index_or, refl, sym, arith}
use Rattle.std.specs.Str.Lines.{lines, lines_of_parts, strip_carriage_return}
use Rattle.std.specs.List.{slice_split, position_or_len, count_by, All}
use Rattle.std.proofs.lemmas.Bool.{ne_eqb}
use Rattle.std.proofs.lemmas.List.{take_all, length-drop}
use Rattle.std.proofs.lemmas.List.Elements.{All-from_get_or}
use Rattle.std.proofs.lemmas.List.Sums.{position_or_len_is}
use Rattle.std.proofs.lemmas.List.Splits.{slice_split_first, slice_split_none, length-slice_split}

abbrev is_feed : ℕ → Bool
is_feed b = b == 10

parts_on : (x : List ℕ) (parts : List (List ℕ)) (n : ℕ) → length parts ≡ n + 1 → lines_of_parts (x ∷ parts) ≡ strip_carriage_return x ∷ lines_of_parts parts
parts_on x [] n h = absurd (omega (arith, h))
parts_on x (y ∷ more) n h = refl

split_on : (x text : List ℕ) → lines_of_parts (x ∷ slice_split is_feed text) ≡ strip_carriage_return x ∷ lines text
split_on x text = parts_on x (slice_split is_feed text) (count_by is_feed text) (length-slice_split is_feed text)

pub lines_at : (text : List ℕ) (n : ℕ) → n < length text → slice_index_or text n 0 ≡ 10 → ((k : ℕ) → k < n → slice_index_or text k 0 ≢ 10) →
    lines text ≡ strip_carriage_return (take n text) ∷ lines (take (length text - (n + 1)) (drop (n + 1) text))
lines_at text n inside here before =
    let found : position_or_len is_feed text ≡ n = position_or_len_is is_feed text n 0 (omega (arith, inside)) (λ k h. ne_eqb (slice_index_or text k 0) 10 (before k h)) (λ h. rw here refl) in
    let cut : slice_split is_feed text ≡ take n text ∷ slice_split is_feed (drop (n + 1) text) = rw (sym found) (slice_split_first is_feed text 0 (rw found inside)) in
    let whole : take (length text - (n + 1)) (drop (n + 1) text) ≡ drop (n + 1) text = take_all (length text - (n + 1)) (drop (n + 1) text) (rw (length-drop (n + 1) text) (omega arith)) in
    rw (whole, cut) (split_on (take n text) (drop (n + 1) text))

none_from : (text : List ℕ) → ((k : ℕ) → k < length text → slice_index_or text k 0 ≢ 10) → All (λ b. is_feed b ≡ false) text
none_from text before = All-from_get_or (λ b. is_feed b ≡ false) text 0 (λ k h. ne_eqb (slice_index_or text k 0) 10 (before k h))

pub lines_none : (text : List ℕ) → 0 < length text → ((k : ℕ) → k < length text → slice_index_or text k 0 ≢ 10) → lines text ≡ text ∷ []
lines_none [] some before = absurd (omega (arith, some))
lines_none (c ∷ cs) some before = rw (slice_split_none is_feed (c ∷ cs) (none_from (c ∷ cs) before)) (rw (ne_eqb (suc (length cs)) 0 (λ e. absurd (omega (arith, e)))) refl)
