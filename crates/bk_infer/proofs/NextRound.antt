-- One round, as a list of types: what its numbers have after it.
use Rattle.std.proofs.Common.{◌≡◌, refl, sym, ap, ◌∙◌, ◌+◌, ◌-◌, ◌<◌, ◌≤◌, ℕ, ℤ, zero, suc, Bool, true, false, cond, nat_lt, List, [], ◌∷◌, ◌++◌, length, get_or, map, take, drop, append_assoc, arith}
use Rattle.std.specs.Prelude.{Option, None, Some, ◌&&◌, not}
use Rattle.std.proofs.Math.Path.{fun_ext}
use Rattle.std.proofs.Math.ListN.{drop_of_length-le}
use Rattle.std.proofs.lemmas.Bool.Decides.{nat_tests}
use Rattle.std.proofs.lemmas.List.{take-append-drop, at_drop_more, take_more, append-nil, length-take-le, length-append}
use Rattle.std.proofs.lemmas.Option.{slice_get-get_or}
use Rattle.bk_val.specs.ValueType.{ValueType}
use Rattle.bk_raw.specs.Meaning.Binders.{has_type}
use Rattle.bk_elab_terms.specs.Visible.{told_at, typing_of}
use Rattle.bk_statics.specs.Components.{or_next}
use Rattle.bk_statics.specs.Typings.{Typing}
use Rattle.bk_statics.specs.Ways.{Way, given_by, way_at, next_types}
use Rattle.bk_scope.specs.declared.way.Way.{Way as Made}
use Rattle.bk_scope.specs.Shown.{way_shown}

-- the types after a round that the numbers from n on have by these ways
abbrev pub nexts : ℤ → Typing → ℕ → List Way → List (Option ValueType)
nexts int_max typing n [] = []
nexts int_max typing n (w ∷ ws) = or_next (typing n) (given_by int_max typing w) ∷ nexts int_max typing (suc n) ws

told_front : (ts us : List (Option ValueType)) (m : ℕ) → m < length ts → typing_of (ts ++ us) m ≡ typing_of ts m
told_front [] us m h = absurd (omega arith)
told_front (t ∷ ts) us zero h = refl
told_front (t ∷ ts) us (suc m) h = told_front ts us m (omega arith)

told_behind : (ts us : List (Option ValueType)) (m k : ℕ) → m ≡ length ts + k → typing_of (ts ++ us) m ≡ typing_of us k
told_behind [] us m k e = ap (typing_of us) (omega arith)
told_behind (t ∷ ts) us zero k e = absurd (omega arith)
told_behind (t ∷ ts) us (suc m) k e = told_behind ts us m k (omega arith)

told_past : (ts : List (Option ValueType)) (m : ℕ) → length ts ≤ m → typing_of ts m ≡ None
told_past [] m h = refl
told_past (t ∷ ts) zero h = absurd (omega arith)
told_past (t ∷ ts) (suc m) h = told_past ts m (omega arith)

told_nexts : (int_max : ℤ) (typing : Typing) (n : ℕ) (ws : List Way) (k m : ℕ) → m ≡ n + k → k < length ws → typing_of (nexts int_max typing n ws) k ≡ or_next (typing m) (given_by int_max typing (way_at ws k))
told_nexts int_max typing n [] k m e h = absurd (omega arith)
told_nexts int_max typing n (w ∷ ws) zero m e h = ap (λ (j : ℕ). or_next (typing j) (given_by int_max typing w)) (omega arith)
told_nexts int_max typing n (w ∷ ws) (suc k) m e h = told_nexts int_max typing (suc n) ws k m (omega arith) (omega arith)

pub length-nexts : (int_max : ℤ) (typing : Typing) (n : ℕ) (ws : List Way) → length (nexts int_max typing n ws) ≡ length ws
length-nexts int_max typing n [] = refl
length-nexts int_max typing n (w ∷ ws) = ap suc (length-nexts int_max typing (suc n) ws)

length-first : {A : Type 0} → (n : ℕ) (ts : List A) → n ≤ length ts → length (take n ts) ≡ n
length-first n ts h = length-take-le n ts h

told_first : (n : ℕ) (ts : List (Option ValueType)) (m : ℕ) → n ≤ length ts → m < n → typing_of (take n ts) m ≡ typing_of ts m
told_first n ts m h k =
    sym (told_front (take n ts) (drop n ts) m (omega (arith, length-first n ts h))) ∙ ap (λ (us : List (Option ValueType)). typing_of us m) (take-append-drop n ts)

-- each number's type
next_by : (int_max : ℤ) (n : ℕ) (ws : List Way) (ts : List (Option ValueType)) (m : ℕ) (b c : Bool) → length ts ≡ n + length ws → nat_lt m n ≡ b → nat_lt m (n + length ws) ≡ c → typing_of (take n ts ++ nexts int_max (typing_of ts) n ws) m ≡ cond b (typing_of ts m) (cond c (or_next (typing_of ts m) (given_by int_max (typing_of ts) (way_at ws (m - n)))) (typing_of ts m))
next_by int_max n ws ts m true c e h k =
    let below : m < n = grind (arith, nat_tests) in
    let all : length (take n ts) ≡ n = length-first n ts (omega arith) in
    told_front (take n ts) (nexts int_max (typing_of ts) n ws) m (omega arith) ∙ told_first n ts m (omega arith) below
next_by int_max n ws ts m false true e h k =
    let above : n ≤ m = grind (arith, nat_tests) in
    let below : m < n + length ws = grind (arith, nat_tests) in
    let all : length (take n ts) ≡ n = length-first n ts (omega arith) in
    told_behind (take n ts) (nexts int_max (typing_of ts) n ws) m (m - n) (omega arith) ∙ told_nexts int_max (typing_of ts) n ws (m - n) m (omega arith) (omega arith)
next_by int_max n ws ts m false false e h k =
    let above : n ≤ m = grind (arith, nat_tests) in
    let behind : n + length ws ≤ m = grind (arith, nat_tests) in
    let all : length (take n ts) ≡ n = length-first n ts (omega arith) in
    told_behind (take n ts) (nexts int_max (typing_of ts) n ws) m (m - n) (omega arith)
    ∙ told_past (nexts int_max (typing_of ts) n ws) (m - n) (omega (arith, length-nexts int_max (typing_of ts) n ws)) ∙ sym (told_past ts m (omega arith))

-- and so all of them
pub next_list : (int_max : ℤ) (n : ℕ) (ws : List Way) (ts : List (Option ValueType)) → length ts ≡ n + length ws → typing_of (take n ts ++ nexts int_max (typing_of ts) n ws) ≡ next_types int_max n ws (typing_of ts)
next_list int_max n ws ts e = fun_ext (λ m. next_by int_max n ws ts m (nat_lt m n) (nat_lt m (n + length ws)) e refl refl)

-- one type more
pub nexts_more : (int_max : ℤ) (typing : Typing) (n i : ℕ) (xs us : List (Option ValueType)) (ws : List Made) (w : Made) (t : Option ValueType) → i < length ws → w ≡ get_or ws i w → t ≡ or_next (typing (n + i)) (given_by int_max typing (way_shown w)) → xs ++ nexts int_max typing (n + i) (map way_shown (drop i ws)) ≡ us → (xs ++ t ∷ []) ++ nexts int_max typing (n + (i + 1)) (map way_shown (drop (i + 1) ws)) ≡ us
nexts_more int_max typing n i xs us ws w t h e k invariant =
    let rest : List (Option ValueType) = nexts int_max typing (n + (i + 1)) (map way_shown (drop (i + 1) ws)) in
    let first : t ≡ or_next (typing (n + i)) (given_by int_max typing (way_shown (get_or ws i w))) = k ∙ ap (λ (v : Made). or_next (typing (n + i)) (given_by int_max typing (way_shown v))) e in
    let next : suc (n + i) ≡ n + (i + 1) = omega arith in
    let more : nexts int_max typing (n + i) (map way_shown (drop i ws)) ≡ or_next (typing (n + i)) (given_by int_max typing (way_shown (get_or ws i w))) ∷ rest =
    at_drop_more (λ (vs : List Made). nexts int_max typing (n + i) (map way_shown vs)) ws i w h
    ∙ ap (λ (j : ℕ). or_next (typing (n + i)) (given_by int_max typing (way_shown (get_or ws i w))) ∷ nexts int_max typing j (map way_shown (drop (i + 1) ws))) next in
    append_assoc xs (t ∷ []) rest ∙ ap (λ (u : Option ValueType). xs ++ u ∷ rest) first ∙ ap (λ (vs : List (Option ValueType)). xs ++ vs) (sym more) ∙ invariant

-- at the end nothing is left
pub nexts_end : (int_max : ℤ) (typing : Typing) (n i : ℕ) (xs us : List (Option ValueType)) (ws : List Made) → length ws ≤ i → xs ++ nexts int_max typing (n + i) (map way_shown (drop i ws)) ≡ us → xs ≡ us
nexts_end int_max typing n i xs us ws h invariant =
    sym (append-nil xs) ∙ ap (λ (vs : List Made). xs ++ nexts int_max typing (n + i) (map way_shown vs)) (sym (drop_of_length-le ws h)) ∙ invariant

pub length_list : (int_max : ℤ) (typing : Typing) (n : ℕ) (ws : List Way) (ts : List (Option ValueType)) → n ≤ length ts → length (take n ts ++ nexts int_max typing n ws) ≡ n + length ws
length_list int_max typing n ws ts h =
    let first : length (take n ts) ≡ n = length-take-le n ts h in
    let rest : length (nexts int_max typing n ws) ≡ length ws = length-nexts int_max typing n ws in
    length-append (take n ts) (nexts int_max typing n ws) ∙ ap (λ (k : ℕ). k + length (nexts int_max typing n ws)) first ∙ ap (λ (k : ℕ). n + k) rest

-- ---- rounds that add nothing
-- what has no new type has the one that there is
same_type : (old next given : Option ValueType) → next ≡ or_next old given → (has_type next && not (has_type old)) ≡ false → next ≡ old
same_type (Some t) next given e h = e
same_type None None given e h = refl
same_type None (Some t) given e h = cc

told_here : (ts : List (Option ValueType)) (k : ℕ) (d : Option ValueType) → k < length ts → typing_of ts k ≡ get_or ts k d
told_here ts k d h = ap told_at (slice_get-get_or ts k d h)

pub same_more : (ts xs : List (Option ValueType)) (k j : ℕ) (t given : Option ValueType) → k < length ts → j ≡ k + 1 → t ≡ or_next (typing_of ts k) given → (has_type t && not (has_type (typing_of ts k))) ≡ false → xs ≡ take k ts → xs ++ t ∷ [] ≡ take j ts
same_more ts xs k j t given h e g new same =
    let kept : t ≡ get_or ts k t = same_type (typing_of ts k) t given g new ∙ told_here ts k t h in
    ap (λ (vs : List (Option ValueType)). vs ++ t ∷ []) same ∙ ap (λ (u : Option ValueType). take k ts ++ u ∷ []) kept ∙ sym (take_more ts k t h) ∙ ap (λ (m : ℕ). take m ts) (sym e)

-- types without further ones at the end are still those that there are
none_at : (us : List (Option ValueType)) (m : ℕ) → typing_of us m ≡ typing_of (us ++ None ∷ []) m
none_at [] zero = refl
none_at [] (suc m) = refl
none_at (u ∷ us) zero = refl
none_at (u ∷ us) (suc m) = none_at us m

pub none_told : (ts : List (Option ValueType)) → typing_of ts ≡ typing_of (ts ++ None ∷ [])
none_told ts = fun_ext (none_at ts)
