-- Names of scripts with one key are the same.
use Rattle.std.specs.Prelude.{◌≡◌, ◌≢◌, ℕ, ◌+◌, ◌*◌, ◌/◌, ◌%◌, ◌<◌, ◌^◌, Bool, true, false, ◌||◌, not, List, [], ◌∷◌, ◌++◌, length, map, take, drop, All, Contains, get_or, refl}
use Rattle.std.specs.List.{AllPairs, list_any}
use Rattle.std.specs.Str.{bytes_eq}
use Rattle.std.specs.Int.{to_le_bytes, from_le_bytes, w64, w128}
use Rattle.std.specs.Cmp.Lexicographic.{bytes_decides, nat_list_eq_equiv}
use Rattle.std.proofs.Common.{arith, sym, ◌∙◌, ap, subst, append_assoc, true≢false, if◌then◌else◌}
use Rattle.std.proofs.Math.Nat as nat
use Rattle.std.proofs.lemmas.Nat.{from_le_bytes-to_le_bytes_8}
use Rattle.std.proofs.lemmas.List.{map-append, length-map, get_or-map, flat_map_more, take_more, drop_more, take-append-drop}
use Rattle.std.proofs.lemmas.List.Elements.{All-head, All-tail, All-push, All-more, Contains-get_or, Contains-append_right}
use Rattle.std.proofs.lemmas.List.Quantifiers.{all_pairs_push}
use Rattle.std.proofs.lemmas.Map.Views.{list_any-from_Contains}
use Rattle.indexmap.specs.IndexSet.{insert_key}
use Rattle.bk_names.proofs.Places.{list_any-map}
use Rattle.bk_raw.specs.declared.script.NamePart.{NamePart}
use Rattle.bk_raw.specs.declared.script.NamePart.TheVariants.{Letters, Numeral}
use Rattle.bk_raw.specs.Trees.ScriptTree.{RawScript}
use Rattle.bk_p_proof.specs.Files.{names_of}
use Rattle.bk_p_proof.specs.Keys.{part_key, name_key, FitsKey, NameFits, HasKeys, IsAgain}

-- ---- bytes
-- lists that begin with parts of one length are the same where these parts and the rests are
cut_same : (a b c d : List ℕ) → length a ≡ length b → a ++ c ≡ b ++ d → (a ≡ b) × (c ≡ d)
cut_same [] [] c d l h = (refl, h)
cut_same [] (y ∷ b) c d l h = absurd (omega (arith, l))
cut_same (x ∷ a) [] c d l h = absurd (omega (arith, l))
cut_same (x ∷ a) (y ∷ b) c d l h =
    let t : a ++ c ≡ b ++ d = cc in
    let e : x ≡ y = cc in
    let r = cut_same a b c d (omega (arith, l)) t in
    ((λ i. e i ∷ r.0 i), r.1)

byte_and_rest : (n p : ℕ) → n / p ≡ n / p % 256 + n / (p * 256) * 256
byte_and_rest n p = omega (arith, nat.div-div-eq-div-mul n p 256)

-- a length is known by its bytes
length_by_bytes : (n m : ℕ) → n < 2 ^ 64 → m < 2 ^ 64 → to_le_bytes w64 n ≡ to_le_bytes w64 m → n ≡ m
length_by_bytes n m a b e = sym (from_le_bytes-to_le_bytes_8 n a) ∙ ap (λ bs. from_le_bytes w64 bs) e ∙ from_le_bytes-to_le_bytes_8 m b

joined : (a b c d e f g h n p q r s t u v w : ℕ) → n ≡ a + p * 256 → p ≡ b + q * 256 → q ≡ c + r * 256 → r ≡ d + s * 256
    → s ≡ e + t * 256 → t ≡ f + u * 256 → u ≡ g + v * 256 → v ≡ h + w * 256
    → n ≡ a + b * 256 + c * 65536 + d * 16777216 + e * 4294967296 + f * 1099511627776 + g * 281474976710656 + h * 72057594037927936 + w * 18446744073709551616
joined a b c d e f g h n p q r s t u v w at_0 at_1 at_2 at_3 at_4 at_5 at_6 at_7 = omega arith

-- a number is its lowest eight bytes and the rest
lowest_bytes : (n : ℕ) → n ≡ from_le_bytes w64 (to_le_bytes w64 n) + n / 18446744073709551616 * 18446744073709551616
lowest_bytes n =
    let low : n ≡ n % 256 + n / 256 * 256 = omega arith in
    joined _ _ _ _ _ _ _ _ n _ _ _ _ _ _ _ _ low (byte_and_rest n 256) (byte_and_rest n 65536) (byte_and_rest n 16777216) (byte_and_rest n 4294967296) (byte_and_rest n 1099511627776) (byte_and_rest n 281474976710656) (byte_and_rest n 72057594037927936)

-- the rest has the bytes behind them
highest_bytes : (n : ℕ) → to_le_bytes w64 (n / 18446744073709551616) ≡ drop 8 (to_le_bytes w128 n)
highest_bytes n = λ i. (n / 18446744073709551616 % 256) ∷ (nat.div-div-eq-div-mul n 18446744073709551616 256 i % 256) ∷ (nat.div-div-eq-div-mul n 18446744073709551616 65536 i % 256) ∷ (nat.div-div-eq-div-mul n 18446744073709551616 16777216 i % 256) ∷ (nat.div-div-eq-div-mul n 18446744073709551616 4294967296 i % 256) ∷ (nat.div-div-eq-div-mul n 18446744073709551616 1099511627776 i % 256) ∷ (nat.div-div-eq-div-mul n 18446744073709551616 281474976710656 i % 256) ∷ (nat.div-div-eq-div-mul n 18446744073709551616 72057594037927936 i % 256) ∷ []

half_fits : (n : ℕ) → n < 2 ^ 128 → n / 18446744073709551616 < 2 ^ 64
half_fits n h = omega arith

-- so a number is known by its bytes too
number_by_bytes : (n m : ℕ) → n < 2 ^ 128 → m < 2 ^ 128 → to_le_bytes w128 n ≡ to_le_bytes w128 m → n ≡ m
number_by_bytes n m a b e =
    let low : to_le_bytes w64 n ≡ to_le_bytes w64 m = ap (take 8) e in
    let high : n / 18446744073709551616 ≡ m / 18446744073709551616 = length_by_bytes (n / 18446744073709551616) (m / 18446744073709551616) (half_fits n a) (half_fits m b) (highest_bytes n ∙ ap (drop 8) e ∙ sym (highest_bytes m)) in
    lowest_bytes n ∙ (λ i. from_le_bytes w64 (low i) + high i * 18446744073709551616) ∙ sym (lowest_bytes m)

-- ---- a part of a name
-- parts whose keys begin one list are the same, and so are the rests
part_known : (p q : NamePart) (r s : List ℕ) → FitsKey p → FitsKey q → part_key p ++ r ≡ part_key q ++ s → (p ≡ q) × (r ≡ s)
part_known (Letters t) (Letters u) r s a b h =
    let k : to_le_bytes w64 (length t) ++ (t ++ r) ≡ to_le_bytes w64 (length u) ++ (u ++ s) = cc in
    let c = cut_same (to_le_bytes w64 (length t)) (to_le_bytes w64 (length u)) (t ++ r) (u ++ s) refl k in
    let d = cut_same t u r s (length_by_bytes (length t) (length u) a b c.0) c.1 in
    (ap Letters d.0, d.1)
part_known (Letters t) (Numeral m) r s a b h = absurd (cc)
part_known (Numeral n) (Letters u) r s a b h = absurd (cc)
part_known (Numeral n) (Numeral m) r s a b h =
    let k : to_le_bytes w128 n ++ r ≡ to_le_bytes w128 m ++ s = cc in
    let c = cut_same (to_le_bytes w128 n) (to_le_bytes w128 m) r s refl k in
    (ap Numeral (number_by_bytes n m a b c.0), c.1)

-- ---- a name
pub name_known : (a b : List NamePart) → NameFits a → NameFits b → name_key a ≡ name_key b → a ≡ b
name_known [] [] f g h = refl
name_known [] (q ∷ b) f g h = absurd (no_key q (name_key b) h)
  where
    no_key : (q : NamePart) (r : List ℕ) → [] ≡ part_key q ++ r → ⊥
    no_key (Letters t) r h = cc
    no_key (Numeral n) r h = cc
name_known (p ∷ a) [] f g h = absurd (no_key p (name_key a) (sym h))
  where
    no_key : (q : NamePart) (r : List ℕ) → [] ≡ part_key q ++ r → ⊥
    no_key (Letters t) r h = cc
    no_key (Numeral n) r h = cc
name_known (p ∷ a) (q ∷ b) f g h =
    let k = part_known p q (name_key a) (name_key b) (All-head FitsKey p a f) (All-head FitsKey q b g) h in
    let e = name_known a b (All-tail FitsKey p a f) (All-tail FitsKey q b g) k.1 in
    (λ i. k.0 i ∷ e i)

-- a name's key, part by part
pub key_grows : (name : List NamePart) (i : ℕ) (p : NamePart) (old new : List ℕ) → i < length name → p ≡ get_or name i p → old ≡ name_key (take i name) → new ≡ old ++ part_key p → new ≡ name_key (take (i + 1) name)
key_grows name i p old new l e h k = k ∙ ap (λ o. o ++ part_key p) h ∙ flat_map_more part_key [] (take i name) p ∙ ap name_key (ap (λ q. take i name ++ q ∷ []) e ∙ sym (take_more name i p l))

pub fits_on : (name : List NamePart) (i : ℕ) (p : NamePart) → i < length name → p ≡ get_or name i p → NameFits (take i name) → FitsKey p → NameFits (take (i + 1) name)
fits_on name i p l e h k = All-more FitsKey name i p l h (subst FitsKey e k)

-- ---- the names so far
-- a name whose key is there is one of them
found_name : (names : List (List NamePart)) (name : List NamePart) → All NameFits names → NameFits name → list_any (bytes_eq (name_key name)) (map name_key names) ≡ true → Contains names name
found_name [] name f g h = absurd (true≢false (sym h))
found_name (n ∷ names) name f g h = by (bytes_eq (name_key name) (name_key n)) refl h (found_name names name (All-tail NameFits n names f) g)
  where
    by : (b : Bool) → bytes_eq (name_key name) (name_key n) ≡ b → (bytes_eq (name_key name) (name_key n) || list_any (bytes_eq (name_key name)) (map name_key names)) ≡ true → (list_any (bytes_eq (name_key name)) (map name_key names) ≡ true → Contains names name) → Contains (n ∷ names) name
    by true e w on = subst (Contains (n ∷ names)) (sym (name_known name n g (All-head NameFits n names f) ((bytes_decides (name_key name) (name_key n)).0 e))) (Contains-get_or (n ∷ names) 0 n (omega arith))
    by false e w on = Contains-append_right (n ∷ []) names name (on (sym (ap (λ c. c || list_any (bytes_eq (name_key name)) (map name_key names)) e) ∙ w))

-- one whose key isn't differs from each
absent_name : (names : List (List NamePart)) (name : List NamePart) → list_any (bytes_eq (name_key name)) (map name_key names) ≡ false → (k : ℕ) (d : List NamePart) → k < length names → get_or names k d ≢ name
absent_name names name h k d l e =
    let there : Contains (map name_key names) (name_key name) = subst (Contains (map name_key names)) (get_or-map name_key names k d [] l ∙ ap name_key e) (Contains-get_or (map name_key names) k [] (omega (arith, l, length-map names name_key))) in
    true≢false (sym (list_any-from_Contains nat_list_eq_equiv (name_key name) (map name_key names) there) ∙ h)

not_so : (b : Bool) → true ≡ not b → b ≡ false
not_so true n = n
not_so false n = refl

module _ {K : Type 0} (f : K → List ℕ) where
  in_keys : (names : List (List NamePart)) (name : List NamePart) (keys : List K) (key : K) → HasKeys names (map f keys) → f key ≡ name_key name → list_any (λ k. bytes_eq (f key) (f k)) keys ≡ list_any (bytes_eq (name_key name)) (map name_key names)
  in_keys names name keys key h e = sym (list_any-map f (bytes_eq (f key)) keys) ∙ (λ i. list_any (bytes_eq (e i)) (sym h.keyed i))

  added : (keys : List K) (key : K) → list_any (λ k. bytes_eq (f key) (f k)) keys ≡ false → insert_key (λ a b. bytes_eq (f a) (f b)) keys key ≡ keys ++ key ∷ []
  added keys key h = ap (λ b. if b then keys else keys ++ key ∷ []) h

  -- a further name that is not there
  pub name_new : (names : List (List NamePart)) (name : List NamePart) (keys : List K) (key : K) → HasKeys names (map f keys) → AllPairs (λ a b. a ≢ b) names → f key ≡ name_key name → NameFits name → true ≡ not (list_any (λ k. bytes_eq (f key) (f k)) keys) → HasKeys (names ++ name ∷ []) (map f (insert_key (λ a b. bytes_eq (f a) (f b)) keys key)) × AllPairs (λ a b. a ≢ b) (names ++ name ∷ [])
  name_new names name keys key h d e g n =
      let no : list_any (λ k. bytes_eq (f key) (f k)) keys ≡ false = not_so (list_any (λ k. bytes_eq (f key) (f k)) keys) n in (
        record {
          keyed = map-append name_key names (name ∷ []) ∙ (λ i. h.keyed i ++ sym e i ∷ []) ∙ sym (map-append f keys (key ∷ [])) ∙ ap (map f) (sym (added keys key no));
          fit = All-push NameFits names name h.fit g;
        },
        all_pairs_push (λ a b. a ≢ b) names name d (absent_name names name (sym (in_keys names name keys key h e) ∙ no)),
      )

  -- one that is
  pub name_again : (names : List (List NamePart)) (name : List NamePart) (keys : List K) (key : K) → HasKeys names (map f keys) → f key ≡ name_key name → NameFits name → false ≡ not (list_any (λ k. bytes_eq (f key) (f k)) keys) → Contains names name
  name_again names name keys key h e g n = found_name names name h.fit g (sym (in_keys names name keys key h e) ∙ by (list_any (λ k. bytes_eq (f key) (f k)) keys) n)
    where
      by : (b : Bool) → false ≡ not b → b ≡ true
      by true n = refl
      by false n = absurd (true≢false (sym n))

  -- ---- scripts
  -- the first of the scripts are taken in
  abbrev pub TakenIn : List (List NamePart) → List RawScript → ℕ → List K → Type 0
  TakenIn names scripts i keys = HasKeys (names ++ names_of (take i scripts)) (map f keys) × AllPairs (λ a b. a ≢ b) (names ++ names_of (take i scripts))

  name_more : (names : List (List NamePart)) (scripts : List RawScript) (i : ℕ) (s : RawScript) → i < length scripts → s ≡ get_or scripts i s → (names ++ names_of (take i scripts)) ++ s.name ∷ [] ≡ names ++ names_of (take (i + 1) scripts)
  name_more names scripts i s l e = append_assoc names (names_of (take i scripts)) (s.name ∷ []) ∙ ap (λ ns. names ++ ns) (ap (λ r. names_of (take i scripts) ++ r.name ∷ []) e ∙ sym (map-append (λ r. r.name) (take i scripts) (get_or scripts i s ∷ [])) ∙ ap names_of (sym (take_more scripts i s l)))

  pub takes_in : (names : List (List NamePart)) (scripts : List RawScript) (i : ℕ) (s : RawScript) (keys more : List K) (key : K) (b : Bool) → TakenIn names scripts i keys → i < length scripts → s ≡ get_or scripts i s → f key ≡ name_key s.name → NameFits s.name → b ≡ not (list_any (λ k. bytes_eq (f key) (f k)) keys) → b ≡ true → more ≡ insert_key (λ a b. bytes_eq (f a) (f b)) keys key → TakenIn names scripts (i + 1) more
  takes_in names scripts i s keys more key b h l e k g n t j =
      let r = name_new (names ++ names_of (take i scripts)) s.name keys key h.0 h.1 k g (sym t ∙ n) in
      subst (λ ns. HasKeys ns (map f more) × AllPairs (λ a b. a ≢ b) ns) (name_more names scripts i s l e) (subst (λ ks. HasKeys ((names ++ names_of (take i scripts)) ++ s.name ∷ []) (map f ks)) (sym j) r.0, r.1)

  pub told_again : (names : List (List NamePart)) (scripts : List RawScript) (i : ℕ) (s : RawScript) (keys : List K) (key : K) (b : Bool) (place : ℕ) → TakenIn names scripts i keys → i < length scripts → s ≡ get_or scripts i s → f key ≡ name_key s.name → NameFits s.name → b ≡ not (list_any (λ k. bytes_eq (f key) (f k)) keys) → b ≡ false → s.name_at ≡ place → IsAgain names scripts place
  told_again names scripts i s keys key b place h l e k g n t p = record {
    first = take i scripts;
    script = s;
    rest = drop (i + 1) scripts;
    splits = sym (take-append-drop i scripts) ∙ ap (λ r. take i scripts ++ r) (drop_more scripts i s l) ∙ ap (λ r. take i scripts ++ r ∷ drop (i + 1) scripts) (sym e);
    so_far = h.1;
    again = name_again (names ++ names_of (take i scripts)) s.name keys key h.0 k g (sym t ∙ n);
    starts = p;
  }
