-- The facts that stand, as the given facts and the work area hold them.
use Rattle.std.proofs.Common.{◌≡◌, ℕ, zero, suc, ◌+◌, ◌-◌, ◌*◌, ◌<◌, ◌≤◌, ℤ, true, List, [], ◌∷◌, ◌++◌, map, take, drop, length, get_or, nat_le, refl, ap, sym, ◌∙◌, arith, length-append}
use Rattle.std.specs.List.{range_with_len}
use Rattle.std.proofs.lemmas.List.{length-map, get_or-append-add, append_assoc, drop_at, take-take, drop-take}
use Rattle.std.proofs.Math.Nat.{mul-le-mul_right}
use Rattle.std.proofs.lemmas.List.FromFn.{length-map-range_with_len, get_or-map-range_with_len, map-range_with_len_more}
use Rattle.bk_lin.specs.declared.fact.Fact.{Fact}
use Rattle.bk_lin.specs.Inequality.{Inequality, zero_of}
use Rattle.bk_lin.specs.Certificate.{inequality_of, inequalities, is_number, fact_at}
use Rattle.bk_lin.specs.Layout.{held_in, held_at, standing_of}

pub length-standing_of : (given : List Fact) (size lines : ℕ) (made : List ℤ) → length (standing_of given size lines made) ≡ length given + lines
length-standing_of given size lines made =
    length-append (inequalities given) (map (held_at size made) (range_with_len 0 lines))
    ∙ ap (λ n. n + length (map (held_at size made) (range_with_len 0 lines))) (length-map given inequality_of)
    ∙ ap (λ n. length given + n) (length-map-range_with_len (held_at size made) 0 lines)

pub number_of_line : (given : List Fact) (size lines : ℕ) (made : List ℤ) (n : ℕ) → 1 ≤ n → length given < n → is_number (standing_of given size lines made) n ≡ nat_le (n - length given) lines
number_of_line given size lines made n h k = let e = length-standing_of given size lines made in grind (arith, e)

pub line_has_number : (given : List Fact) (size lines : ℕ) (made : List ℤ) (n : ℕ) → is_number (standing_of given size lines made) n ≡ true → length given ≤ n - 1 → n - 1 - length given < lines
line_has_number given size lines made n h k = let e = length-standing_of given size lines made in grind (arith, e)

pub fact_at-line : (given : List Fact) (size lines : ℕ) (made : List ℤ) (n : ℕ) → length given ≤ n - 1 → n - 1 - length given < lines → fact_at (standing_of given size lines made) n ≡ held_at size made (n - 1 - length given)
fact_at-line given size lines made n h k =
    let place : n - 1 ≡ length (inequalities given) + (n - 1 - length given) = omega (arith, length-map given inequality_of) in
    ap (λ i. get_or (standing_of given size lines made) i (zero_of 0)) place
    ∙ get_or-append-add (inequalities given) (map (held_at size made) (range_with_len 0 lines)) (n - 1 - length given) (zero_of 0)
    ∙ get_or-map-range_with_len (held_at size made) 0 lines (n - 1 - length given) (n - 1 - length given) (zero_of 0) k (omega arith)

within : (s a m : ℕ) (xs : List ℤ) → a + s ≤ m → take s (drop a xs) ≡ take s (drop a (take m xs))
within s a m xs h =
    sym (drop-take a s xs) ∙ ap (λ ys. drop a ys) (sym (take-take (a + s) m xs h)) ∙ drop-take a s (take m xs)

-- what stands in the part of the work area that holds n lines decides the facts of these
held_at-agree : (size n j : ℕ) (made made' : List ℤ) → j < n → take (n * size) made ≡ take (n * size) made' → held_at size made j ≡ held_at size made' j
held_at-agree size n j made made' h e =
    let room : j * size + size ≤ n * size = omega (arith, mul-le-mul_right size h) in
    ap held_in (within size (j * size) (n * size) made room ∙ ap (λ m. take size (drop (j * size) m)) e ∙ sym (within size (j * size) (n * size) made' room))

map_range-agree : (f g : ℕ → Inequality) (a n : ℕ) → ((j : ℕ) → a ≤ j → j < a + n → f j ≡ g j) → map f (range_with_len a n) ≡ map g (range_with_len a n)
map_range-agree f g a zero h = refl
map_range-agree f g a (suc n) h =
    ap (λ x. x ∷ map f (range_with_len (a + 1) n)) (h a (omega arith) (omega arith))
    ∙ ap (λ xs. g a ∷ xs) (map_range-agree f g (a + 1) n (λ j low high. h j (omega arith) (omega arith)))

pub standing_of-agree : (given : List Fact) (size n : ℕ) (made made' : List ℤ) → take (n * size) made ≡ take (n * size) made' → standing_of given size n made ≡ standing_of given size n made'
standing_of-agree given size n made made' e =
    ap (λ xs. inequalities given ++ xs)
    (map_range-agree (held_at size made) (held_at size made') 0 n (λ j _ high. held_at-agree size n j made made' (omega arith) e))

pub standing_of-more : (given : List Fact) (size n : ℕ) (made : List ℤ) → standing_of given size (n + 1) made ≡ standing_of given size n made ++ held_at size made n ∷ []
standing_of-more given size n made =
    ap (λ xs. inequalities given ++ xs) (map-range_with_len_more (held_at size made) 0 n n (omega arith))
    ∙ sym (append_assoc (inequalities given) (map (held_at size made) (range_with_len 0 n)) (held_at size made n ∷ []))

pub held_at-next : (size n : ℕ) (made rest : List ℤ) → length made ≡ n * size → held_at size (made ++ rest) n ≡ held_in (take size rest)
held_at-next size n made rest h = ap (λ xs. held_in (take size xs)) (drop_at made rest (n * size) h)

pub last_fact : (given : List Fact) (size lines : ℕ) (made : List ℤ) → 0 < lines → fact_at (standing_of given size lines made) (length given + lines) ≡ held_at size made (lines - 1)
last_fact given size lines made h =
    let place : length given + lines - 1 - length given ≡ lines - 1 = omega arith in
    fact_at-line given size lines made (length given + lines) (omega arith) (omega arith) ∙ ap (λ k. held_at size made k) place
