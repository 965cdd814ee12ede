-- Lists of what stands once for each number from 1 on.
use Rattle.std.proofs.Common.{◌≡◌, ℕ, zero, suc, ◌+◌, ◌-◌, ◌<◌, ◌≤◌, List, [], ◌∷◌, ◌++◌, length, sym, ◌∙◌, ap, arith}
use Rattle.std.proofs.lemmas.List.{append-nil, flat_map_more}
use Rattle.std.proofs.lemmas.List.FromFn.{length-range_with_len}
use Rattle.std.specs.List.{flat_map, join_by, range_with_len}

-- one number more
range_more : (a n : ℕ) → range_with_len a (suc n) ≡ range_with_len a n ++ (a + n) ∷ []
range_more a zero = ap (λ m. m ∷ []) (omega arith)
range_more a (suc n) =
    let e : a + 1 + n ≡ a + suc n = omega arith in
    ap (λ xs. a ∷ xs) (range_more (a + 1) n ∙ ap (λ m. range_with_len (a + 1) n ++ m ∷ []) e)

-- one part more behind others
part_more : (f : ℕ → List ℕ) (sep : List ℕ) (xs : List ℕ) (x : ℕ) → 0 < length xs → join_by f sep (xs ++ x ∷ []) ≡ join_by f sep xs ++ (sep ++ f x)
part_more f sep [] x h = absurd (omega arith)
part_more f sep (y ∷ ys) x h = sym (flat_map_more (λ z. sep ++ f z) (f y) ys x)

-- the list of one number more
list_more : (f : ℕ → List ℕ) (sep s : List ℕ) (n : ℕ) → (n + 1 ≤ 1 → s ≡ []) → (1 < n + 1 → s ≡ sep) → join_by f sep (range_with_len 1 (suc n)) ≡ join_by f sep (range_with_len 1 n) ++ (s ++ f (n + 1))
list_more f sep s zero first other =
    let e : s ≡ [] = first (omega arith) in
    append-nil (f 1) ∙ ap (λ t. t ++ f 1) (sym e)
list_more f sep s (suc n) first other =
    let e : s ≡ sep = other (omega arith) in
    let d : 1 + suc n ≡ suc n + 1 = omega arith in
    let p : 0 < length (range_with_len 1 (suc n)) = omega (arith, length-range_with_len 1 (suc n)) in
    ap (λ xs. join_by f sep xs) (range_more 1 (suc n)) ∙ part_more f sep (range_with_len 1 (suc n)) (1 + suc n) p ∙
    ap (λ xs. join_by f sep (range_with_len 1 (suc n)) ++ xs) (ap (λ t. t ++ f (1 + suc n)) (sym e) ∙ ap (λ m. s ++ f m) d)

-- the list up to a number, from the list before it
pub list_next : (f : ℕ → List ℕ) (sep s old new : List ℕ) (i k : ℕ) → 1 ≤ i → k ≡ i → (i ≤ 1 → s ≡ []) → (1 < i → s ≡ sep) →
    old ≡ join_by f sep (range_with_len 1 (i - 1)) → new ≡ old ++ (s ++ f i) → new ≡ join_by f sep (range_with_len 1 k)
list_next f sep s old new zero k low e first other before gained = absurd (omega arith)
list_next f sep s old new (suc n) k low e first other before gained =
    let m : suc n - 1 ≡ n = omega arith in
    let o : n + 1 ≡ suc n = omega arith in
    gained ∙ ap (λ t. t ++ (s ++ f (suc n))) (before ∙ ap (λ j. join_by f sep (range_with_len 1 j)) m) ∙
    ap (λ j. join_by f sep (range_with_len 1 n) ++ (s ++ f j)) (sym o) ∙ sym (list_more f sep s n (λ h. first (omega arith)) (λ h. other (omega arith))) ∙
    ap (λ j. join_by f sep (range_with_len 1 j)) (sym e)

-- what is written of each number up to one, from what is written of those before it
pub each_next : (f : ℕ → List ℕ) (old new : List ℕ) (i k : ℕ) → 1 ≤ i → k ≡ i →
    old ≡ flat_map f (range_with_len 1 (i - 1)) → new ≡ old ++ f i → new ≡ flat_map f (range_with_len 1 k)
each_next f old new zero k low e before gained = absurd (omega arith)
each_next f old new (suc n) k low e before gained =
    let m : suc n - 1 ≡ n = omega arith in
    let o : suc n ≡ 1 + n = omega arith in
    gained ∙ ap (λ t. t ++ f (suc n)) (before ∙ ap (λ j. flat_map f (range_with_len 1 j)) m) ∙ flat_map_more f [] (range_with_len 1 n) (suc n) ∙
    ap (λ j. flat_map f (range_with_len 1 n ++ j ∷ [])) o ∙ ap (λ xs. flat_map f xs) (sym (range_more 1 n)) ∙ ap (λ j. flat_map f (range_with_len 1 j)) (sym e)
