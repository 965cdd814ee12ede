-- The numbers of a scope's names, found by their texts.
use Rattle.std.proofs.Common.{◌≡◌, ℕ, Bool, true, false, cond, List, [], ◌∷◌, ◌++◌, Option, None, Some, refl, sym, ap, ◌∙◌, true≢false, if◌then◌else◌}
use Rattle.std.specs.Cmp.Lexicographic.{bytes_decides}
use Rattle.std.specs.Map.{lookup}
use Rattle.std.specs.Str.{bytes_eq}
use Rattle.indexmap.specs.IndexMap.{insert_entry}
use Rattle.bk_raw.specs.Meaning.ScopeReading.{last_from}

-- one more name hides those before it
last-more : (o : Option ℕ) (ps : List (List ℕ × ℕ)) (p : List ℕ × ℕ) (text : List ℕ) → last_from o (ps ++ p ∷ []) text ≡ cond (bytes_eq p.0 text) (Some p.1) (last_from o ps text)
last-more o [] p text = refl
last-more o (q ∷ ps) p text = last-more (cond (bytes_eq q.0 text) (Some q.1) o) ps p text

bytes-sym : (a b : List ℕ) → bytes_eq a b ≡ bytes_eq b a
bytes-sym a b = by (bytes_eq a b) (bytes_eq b a) (λ e. (bytes_decides b a).1 (sym ((bytes_decides a b).0 e))) (λ e. (bytes_decides a b).1 (sym ((bytes_decides b a).0 e)))
  where
    by : (x y : Bool) → (x ≡ true → y ≡ true) → (y ≡ true → x ≡ true) → x ≡ y
    by true true f g = refl
    by true false f g = sym (f refl)
    by false true f g = g refl
    by false false f g = refl

module _ {K : Type 0} (f : K → List ℕ) (text : List ℕ) (k : K) (n : ℕ) where
  -- what is found by a text once a number is put at a key
  pub lookup_inserted : (es : List (K × ℕ)) → lookup (λ q. bytes_eq text (f q)) (insert_entry (λ a b. bytes_eq (f a) (f b)) es k n) ≡ cond (bytes_eq text (f k)) (Some n) (lookup (λ q. bytes_eq text (f q)) es)
  lookup_inserted [] = refl
  lookup_inserted (e ∷ es) = by (lookup_inserted es) (bytes_eq (f k) (f e.0)) refl (bytes_eq text (f k)) refl (bytes_eq text (f e.0)) refl
    where
      rest : Option ℕ
      rest = lookup (λ q. bytes_eq text (f q)) es

      by : lookup (λ q. bytes_eq text (f q)) (insert_entry (λ a b. bytes_eq (f a) (f b)) es k n) ≡ cond (bytes_eq text (f k)) (Some n) rest → (b : Bool) → bytes_eq (f k) (f e.0) ≡ b → (c : Bool) → bytes_eq text (f k) ≡ c → (d : Bool) → bytes_eq text (f e.0) ≡ d
          → lookup (λ q. bytes_eq text (f q)) (if b then (e.0, n) ∷ es else e ∷ insert_entry (λ a b. bytes_eq (f a) (f b)) es k n) ≡ cond c (Some n) (cond d (Some e.1) rest)
      by m true h true i true j = ap (λ d. cond d (Some n) rest) j
      by m true h true i false j = absurd (true≢false (sym (sym j ∙ (bytes_decides text (f e.0)).1 ((bytes_decides text (f k)).0 i ∙ (bytes_decides (f k) (f e.0)).0 h))))
      by m true h false i true j = absurd (true≢false (sym (sym i ∙ (bytes_decides text (f k)).1 ((bytes_decides text (f e.0)).0 j ∙ sym ((bytes_decides (f k) (f e.0)).0 h)))))
      by m true h false i false j = ap (λ d. cond d (Some n) rest) j
      by m false h true i true j = absurd (true≢false (sym (sym h ∙ (bytes_decides (f k) (f e.0)).1 (sym ((bytes_decides text (f k)).0 i) ∙ (bytes_decides text (f e.0)).0 j))))
      by m false h true i false j = ap (λ d. cond d (Some e.1) (lookup (λ q. bytes_eq text (f q)) (insert_entry (λ a b. bytes_eq (f a) (f b)) es k n))) j ∙ m ∙ ap (λ c. cond c (Some n) rest) i
      by m false h false i d j = ap (λ d. cond d (Some e.1) (lookup (λ q. bytes_eq text (f q)) (insert_entry (λ a b. bytes_eq (f a) (f b)) es k n))) j ∙ ap (λ r. cond d (Some e.1) r) (m ∙ ap (λ c. cond c (Some n) rest) i)

  -- the numbers are those of the names still, where one more is put at its text
  pub numbers_inserted : (es : List (K × ℕ)) (ps : List (List ℕ × ℕ)) → lookup (λ q. bytes_eq text (f q)) es ≡ last_from None ps text
      → lookup (λ q. bytes_eq text (f q)) (insert_entry (λ a b. bytes_eq (f a) (f b)) es k n) ≡ last_from None (ps ++ (f k, n) ∷ []) text
  numbers_inserted es ps h =
      lookup_inserted es
      ∙ (ap (λ o. cond (bytes_eq text (f k)) (Some n) o) h
      ∙ (ap (λ b. cond b (Some n) (last_from None ps text)) (bytes-sym text (f k)) ∙ sym (last-more None ps (f k, n) text)))
