-- The place of the first element that passes a test.
use Rattle.std.proofs.Common.{◌≡◌, ℕ, ◌+◌, Bool, true, false, not, cond, ◌||◌, List, [], ◌∷◌, ◌++◌, length, map, slice_get, position, is_some, Some, None, nat_lt, IsSome, Contains, get_or, refl, sym, ap, ◌∙◌, true≢false, arith, rules, ◌≢◌, if◌then◌else◌, AllPairs}
use Rattle.std.proofs.lemmas.List.{length-map, map-append}
use Rattle.std.proofs.lemmas.Map.Made.{AllPairs-from_IsDistinct}
use Rattle.std.proofs.lemmas.List.Folds.{list_any-append}
use Rattle.std.proofs.lemmas.List.Quantifiers.{position-Some}
use Rattle.std.proofs.lemmas.Map.Views.{Contains-from_any, list_any-from_Contains}
use Rattle.std.proofs.lemmas.Option.{slice_get-get_or}
use Rattle.std.specs.Cmp.Lexicographic.{bytes_decides, nat_list_eq_equiv}
use Rattle.std.specs.List.{list_any, position_or_len, IsDistinct, AllByRecursion}
use Rattle.indexmap.specs.IndexSet.{insert_key}
use Rattle.bk_names.specs.Names.{place_among, with_name}
use Rattle.std.specs.Str.{bytes_eq}

module _ {X Y : Type 0} (f : X → Y) (p : Y → Bool) where
  pub position_or_len-map : (xs : List X) → position_or_len p (map f xs) ≡ position_or_len (λ x. p (f x)) xs
  position_or_len-map [] = refl
  position_or_len-map (x ∷ xs) = ap (λ n. cond (not (p (f x))) (1 + n) 0) (position_or_len-map xs)

  -- the place in the images is the place of the image's source
  pub position-map : (xs : List X) → position p (map f xs) ≡ position (λ x. p (f x)) xs
  position-map xs =
      ap (λ n. cond (nat_lt n (length (map f xs))) (Some n) None) (position_or_len-map xs)
      ∙ ap (λ n. cond (nat_lt (position_or_len (λ x. p (f x)) xs) n) (Some (position_or_len (λ x. p (f x)) xs)) None) (length-map xs f)

  pub list_any-map : (xs : List X) → list_any p (map f xs) ≡ list_any (λ x. p (f x)) xs
  list_any-map [] = refl
  list_any-map (x ∷ xs) = ap (λ b. p (f x) || b) (list_any-map xs)

module _ {X : Type 0} (p : X → Bool) where
  any_within : (xs : List X) → list_any p xs ≡ nat_lt (position_or_len p xs) (length xs)
  any_within [] = refl
  any_within (x ∷ xs) = by (p x) (any_within xs)
    where
      by : (b : Bool) → list_any p xs ≡ nat_lt (position_or_len p xs) (length xs) → (b || list_any p xs) ≡ nat_lt (cond (not b) (1 + position_or_len p xs) 0) (length (x ∷ xs))
      by true h = grind (arith, rules)
      by false h = grind (arith, rules)

  -- there is a place exactly where some element passes
  pub some_place : (xs : List X) → is_some (position p xs) ≡ list_any p xs
  some_place xs = by (nat_lt (position_or_len p xs) (length xs)) (any_within xs)
    where
      by : (b : Bool) → list_any p xs ≡ b → is_some (cond b (Some (position_or_len p xs)) None) ≡ list_any p xs
      by true h = sym h
      by false h = sym h

  last_first : (xs : List X) (y : X) → list_any p xs ≡ false → p y ≡ true → position_or_len p (xs ++ y ∷ []) ≡ length xs
  last_first [] y h e = ap (λ b. cond (not b) 1 0) e
  last_first (x ∷ xs) y h e = by (p x) h (last_first xs y)
    where
      by : (b : Bool) → (b || list_any p xs) ≡ false → (list_any p xs ≡ false → p y ≡ true → position_or_len p (xs ++ y ∷ []) ≡ length xs) → cond (not b) (1 + position_or_len p (xs ++ y ∷ [])) 0 ≡ length (x ∷ xs)
      by true g on = absurd (true≢false g)
      by false g on = omega (arith, on g e)

  -- where no element passes, the place of one more that does is the last
  pub place_of_last : (xs : List X) (y : X) → list_any p xs ≡ false → p y ≡ true → position p (xs ++ y ∷ []) ≡ Some (length xs)
  place_of_last xs y h e =
      ap (λ n. cond (nat_lt n (length (xs ++ y ∷ []))) (Some n) None) (last_first xs y h e)
      ∙ ap (λ b. cond b (Some (length xs)) None) (sym (any_within (xs ++ y ∷ []) ∙ ap (λ n. nat_lt n (length (xs ++ y ∷ []))) (last_first xs y h e)) ∙ list_any-append p xs (y ∷ []) ∙ ap (λ b. b || (p y || false)) h ∙ ap (λ b. b || false) e)

  absent_len : (xs : List X) → list_any p xs ≡ false → position_or_len p xs ≡ length xs
  absent_len [] h = refl
  absent_len (x ∷ xs) h = by (p x) h (absent_len xs)
    where
      by : (b : Bool) → (b || list_any p xs) ≡ false → (list_any p xs ≡ false → position_or_len p xs ≡ length xs) → cond (not b) (1 + position_or_len p xs) 0 ≡ length (x ∷ xs)
      by true g on = absurd (true≢false g)
      by false g on = omega (arith, on g)

-- where a text has a place, it stands there
pub text_stands : (names : List (List ℕ)) (text : List ℕ) (n : ℕ) → position (bytes_eq text) names ≡ Some n → slice_get names n ≡ Some text
text_stands names text n h =
    let found = position-Some (bytes_eq text) names n [] h in
    slice_get-get_or names n [] found.0 ∙ ap Some (sym ((bytes_decides text (get_or names n [])).0 found.1))

-- a text has a place exactly where it is a name
pub text_found : (names : List (List ℕ)) (text : List ℕ) → (IsSome (position (bytes_eq text) names) → Contains names text) × (Contains names text → IsSome (position (bytes_eq text) names))
text_found names text = (
  λ s. Contains-from_any (λ x y. (bytes_decides x y).0) text names (sym (some_place (bytes_eq text) names) ∙ s),
  λ k. some_place (bytes_eq text) names ∙ list_any-from_Contains nat_list_eq_equiv text names k,
)

-- a text that has a place is no new name
pub known_name : (names : List (List ℕ)) (text : List ℕ) → is_some (place_among names text) ≡ true → with_name names text ≡ names
known_name names text h = ap (λ b. if b then names else names ++ text ∷ []) (sym (some_place (bytes_eq text) names) ∙ h)

-- a numbered text is at the place that it had, or behind the others
pub place_with_name : (names : List (List ℕ)) (text : List ℕ) → place_among (with_name names text) text ≡ Some (position_or_len (bytes_eq text) names)
place_with_name names text = by (list_any (bytes_eq text) names) refl
  where
    by : (b : Bool) → list_any (bytes_eq text) names ≡ b → place_among (if b then names else names ++ text ∷ []) text ≡ Some (position_or_len (bytes_eq text) names)
    by true h = ap (λ b. cond b (Some (position_or_len (bytes_eq text) names)) None) (sym (any_within (bytes_eq text) names) ∙ h)
    by false h = place_of_last (bytes_eq text) names text h ((bytes_decides text text).1 refl) ∙ ap Some (sym (absent_len (bytes_eq text) names h))

module _ {K : Type 0} (f : K → List ℕ) where
  -- a key is put among keys as its text is put among their texts
  pub texts-insert_key : (keys : List K) (k : K) → map f (insert_key (λ a b. bytes_eq (f a) (f b)) keys k) ≡ with_name (map f keys) (f k)
  texts-insert_key keys k =
      by (list_any (λ x. bytes_eq (f k) (f x)) keys)
      ∙ ap (λ b. if b then map f keys else map f keys ++ f k ∷ []) (sym (list_any-map f (bytes_eq (f k)) keys))
    where
      by : (b : Bool) → map f (if b then keys else keys ++ k ∷ []) ≡ (if b then map f keys else map f keys ++ f k ∷ [])
      by true = refl
      by false = map-append f keys (k ∷ [])

  apart-map : (k : K) (keys : List K) → AllByRecursion (λ x. bytes_eq (f k) (f x) ≡ false) keys → AllByRecursion (λ text. bytes_eq (f k) text ≡ false) (map f keys)
  apart-map k [] h = tt
  apart-map k (x ∷ xs) h = (h.0, apart-map k xs h.1)

  distinct-map : (keys : List K) → IsDistinct (λ a b. bytes_eq (f a) (f b)) keys → IsDistinct bytes_eq (map f keys)
  unfolding IsDistinct
  distinct-map [] h = tt
  distinct-map (k ∷ keys) h = (apart-map k keys h.0, distinct-map keys h.1)

  -- keys that differ in their texts have texts without doubles
  pub texts_differ : (keys : List K) → IsDistinct (λ a b. bytes_eq (f a) (f b)) keys → AllPairs (λ a b. a ≢ b) (map f keys)
  texts_differ keys h = AllPairs-from_IsDistinct {eq = bytes_eq} bytes_decides (map f keys) (distinct-map keys h)
