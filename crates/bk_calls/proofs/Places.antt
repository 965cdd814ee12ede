-- The first place in a list that passes a test.
use Rattle.std.proofs.Common.{◌≡◌, ℕ, ◌<◌, ◌≤◌, refl, arith, Bool, true, false, cond, not, ltb, List, length, Some, None}
use Rattle.std.specs.Prelude.{position, All, unwrap_or}
use Rattle.std.specs.List.{position_or_len}
use Rattle.std.proofs.lemmas.Bool.{ltb-true, ltb-false}
use Rattle.std.proofs.lemmas.List.Sums.{fails_before_first, prefix_len-le-length}

some_cond : (b : Bool) (n i : ℕ) → cond b (Some n) None ≡ Some i → (b ≡ true) × (n ≡ i)
some_cond true n i e = (refl, cc)
some_cond false n i e = absurd cc

none_cond : (b : Bool) (n : ℕ) → cond b (Some n) None ≡ None → b ≡ false
none_cond true n e = absurd cc
none_cond false n e = refl

-- a place that is found is the first that passes
pub place_found : {X : Type 0} (p : X → Bool) (xs : List X) (i : ℕ) → position p xs ≡ Some i → (position_or_len p xs ≡ i) × (position_or_len p xs < length xs)
place_found p xs i e =
    let h = some_cond (ltb (position_or_len p xs) (length xs)) (position_or_len p xs) i e in
    (h.1, ltb-true (position_or_len p xs) (length xs) h.0)

pub none_found : {X : Type 0} (p : X → Bool) (xs : List X) → position p xs ≡ None → length xs ≤ position_or_len p xs
none_found p xs e = ltb-false (position_or_len p xs) (length xs) (none_cond (ltb (position_or_len p xs) (length xs)) (position_or_len p xs) e)

pub all_fail : {X : Type 0} (p : X → Bool) (xs : List X) → position p xs ≡ None → All (λ x. p x ≡ false) xs
all_fail p xs e k d below =
    let past = none_found p xs e in
    fails_before_first p xs k d (omega arith)

or_length : (n l : ℕ) → n ≤ l → (b : Bool) → ltb n l ≡ b → unwrap_or (cond b (Some n) None) l ≡ n
or_length n l le true e = refl
or_length n l le false e = (let past = ltb-false n l e in omega arith)

-- the first place that passes, or else the length
pub place_or_length : {X : Type 0} (p : X → Bool) (xs : List X) → unwrap_or (position p xs) (length xs) ≡ position_or_len p xs
place_or_length p xs =
    or_length (position_or_len p xs) (length xs) (prefix_len-le-length (λ x. not (p x)) xs) (ltb (position_or_len p xs) (length xs)) refl
