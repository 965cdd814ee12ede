-- Scripts by their names.
use Rattle.std.proofs.Common.{◌≡◌, ◌<◌, ◌≤◌, ◌+◌, ◌-◌, ℕ, suc, Bool, true, false, cond, List, [], ◌∷◌, ◌++◌, take, length, get_or, Option, Some, None, refl, sym, ◌∙◌, ap, subst, arith, length-take, true≢false}
use Rattle.std.specs.Prelude.{All, IfSome, MatchOption, is_some, slice_get}
use Rattle.std.specs.Option.{option_copied}
use denote.Bor.{Bor}
use Rattle.std.specs.Map.{lookup}
use Rattle.std.specs.Str.{bytes_eq}
use Rattle.std.specs.Cmp.Lexicographic.{bytes_decides}
use Rattle.std.proofs.lemmas.List.{take_more}
use Rattle.std.proofs.lemmas.Option.{slice_get_read, slice_get_past}
use Rattle.indexmap.specs.IndexMap.{insert_entry}
use Rattle.bk_raw.proofs.Numbered.{lookup_inserted}
use Rattle.bk_raw.specs.Trees.ScriptTree.{RawScript}
use Rattle.bk_status.specs.Places.{place_from, script_place, found_or}
use Rattle.bk_status.specs.States.{name_text, script_named}

-- ---- what is found
pub none_there : {X : Type 0} (r : Option (Bor X)) → is_some r ≡ false → option_copied r ≡ None
none_there (Some x) h = absurd (true≢false h)
none_there None h = refl

-- what a look at a place of a list gives
module _ {X : Type 0} (xs : List X) (i : ℕ) (Q : Bor X → Type 0) where
  pub got : (r : Option (Bor X)) → MatchOption r (length xs ≤ i) (λ x. (i < length xs) × Q x) → IfSome r (λ x. x.now ≡ get_or xs i x.now) → option_copied r ≡ slice_get xs i
  got (Some x) h e = sym (slice_get_read xs (length xs) i x.now refl h.0 e)
  got None h e = sym (slice_get_past xs i h)

  pub got_so : (P : X → Type 0) → All P xs → (r : Option (Bor X)) → MatchOption r (length xs ≤ i) (λ x. (i < length xs) × Q x) → IfSome r (λ x. x.now ≡ get_or xs i x.now) → IfSome r (λ x. P x.now)
  got_so P all (Some x) h e = subst P (sym e) (all i x.now h.0)
  got_so P all None h e = tt

not-here : (o : Option ℕ) (place : ℕ) → o ≡ found_or o false place
not-here (Some n) place = refl
not-here None place = refl

-- ---- a name that is put in with a place
module _ {K : Type 0} (f : K → List ℕ) (es : List (K × ℕ)) (k : K) (place : ℕ) (other : List ℕ) where
  abbrev place_at : List ℕ → Option ℕ
  place_at name = lookup (λ q. bytes_eq name (f q)) es

  same-place : bytes_eq other (f k) ≡ true → place_at other ≡ place_at (f k)
  same-place e = ap place_at ((bytes_decides other (f k)).0 e)

  -- it isn't
  pub place_put : place_at (f k) ≡ None → lookup (λ q. bytes_eq other (f q)) (insert_entry (λ a b. bytes_eq (f a) (f b)) es k place) ≡ found_or (place_at other) (bytes_eq other (f k)) place
  place_put h = lookup_inserted f other k place es ∙ by (bytes_eq other (f k)) refl
    where
      by : (b : Bool) → bytes_eq other (f k) ≡ b → cond b (Some place) (place_at other) ≡ found_or (place_at other) b place
      by true e = ap (λ o. found_or o true place) (sym (same-place e ∙ h))
      by false e = not-here (place_at other) place

-- ---- places in a list
last-place : (n : ℕ) (ss : List RawScript) (s : RawScript) (name : List ℕ) → place_from n (ss ++ s ∷ []) name ≡ found_or (place_from n ss name) (bytes_eq name (name_text s.name)) (n + length ss)
last-place n [] s name = let e : n ≡ n + 0 = omega arith in ap (λ m. cond (bytes_eq name (name_text s.name)) (Some m) None) e
last-place n (r ∷ ss) s name = by (last-place (suc n) ss s name) (bytes_eq name (name_text r.name))
  where
    here : Bool
    here = bytes_eq name (name_text s.name)

    by : place_from (suc n) (ss ++ s ∷ []) name ≡ found_or (place_from (suc n) ss name) here (suc n + length ss) → (b : Bool)
        → cond b (Some n) (place_from (suc n) (ss ++ s ∷ []) name) ≡ found_or (cond b (Some n) (place_from (suc n) ss name)) here (n + length (r ∷ ss))
    by m true = refl
    by m false = let e : suc n + length ss ≡ n + length (r ∷ ss) = omega arith in m ∙ ap (found_or (place_from (suc n) ss name) here) e

-- one script more
pub place_more : (scripts : List RawScript) (i : ℕ) (s : RawScript) (name : List ℕ) → i < length scripts → s ≡ get_or scripts i s → found_or (script_place (take i scripts) name) (bytes_eq name (name_text s.name)) i ≡ script_place (take (i + 1) scripts) name
place_more scripts i s name l e =
    let many : i ≡ 0 + length (take i scripts) = omega (arith, l, length-take i scripts) in
    ap (found_or (script_place (take i scripts) name) (bytes_eq name (name_text s.name))) many ∙ sym (last-place 0 (take i scripts) s name) ∙ ap (λ ss. script_place ss name) (ap (λ q. take i scripts ++ q ∷ []) e ∙ sym (take_more scripts i s l))

-- ---- what stands at a place
same-number : (m n : ℕ) → Some m ≡ Some n → m ≡ n
same-number m n h = cc

pub script_at : (n : ℕ) (scripts : List RawScript) (name : List ℕ) (k : ℕ) → place_from n scripts name ≡ Some k → (n ≤ k) × (script_named scripts name ≡ slice_get scripts (k - n))
script_at n [] name k h = absurd (cc)
script_at n (s ∷ scripts) name k h = by (λ g. script_at (suc n) scripts name k g) (bytes_eq name (name_text s.name)) h
  where
    by : (place_from (suc n) scripts name ≡ Some k → (suc n ≤ k) × (script_named scripts name ≡ slice_get scripts (k - suc n))) → (b : Bool)
        → cond b (Some n) (place_from (suc n) scripts name) ≡ Some k → (n ≤ k) × (cond b (Some s) (script_named scripts name) ≡ slice_get (s ∷ scripts) (k - n))
    by m true g =
        let same = same-number n k g in
        let none : 0 ≡ k - n = omega (arith, same) in
        (omega (arith, same), ap (slice_get (s ∷ scripts)) none)
    by m false g =
        let there = m g in
        let one : suc (k - suc n) ≡ k - n = omega (arith, there.0) in
        (omega (arith, there.0), there.1 ∙ ap (slice_get (s ∷ scripts)) one)

pub no_script : (n : ℕ) (scripts : List RawScript) (name : List ℕ) → place_from n scripts name ≡ None → script_named scripts name ≡ None
no_script n [] name h = refl
no_script n (s ∷ scripts) name h = by (no_script (suc n) scripts name) (bytes_eq name (name_text s.name)) h
  where
    by : (place_from (suc n) scripts name ≡ None → script_named scripts name ≡ None) → (b : Bool) → cond b (Some n) (place_from (suc n) scripts name) ≡ None → cond b (Some s) (script_named scripts name) ≡ None
    by m true g = absurd (cc)
    by m false g = m g
