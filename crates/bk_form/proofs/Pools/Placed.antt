-- Looking through a list, and one more at its end.
use Rattle.std.proofs.Common.{◌≡◌, ◌<◌, ◌≤◌, ◌+◌, inl, inr, ℕ, suc, List, [], ◌∷◌, ◌++◌, length, map, get_or, refl, sym, ◌∙◌, ap, subst, arith}
use Rattle.std.specs.Prelude.{Some, slice_get}
use Rattle.std.specs.Option.{option_map}
use Rattle.std.proofs.lemmas.List.{map-append, length-map}
use Rattle.std.proofs.lemmas.Option.{slice_get-map, slice_get_read}
use Rattle.std.proofs.lemmas.Bool.Decides.{leb_tells}
use Rattle.bk_form.specs.PoolKeys.{Differ}
use Rattle.bk_form.proofs.Pools.Lists.{some-same, get-below, get-last}
use Rattle.bk_form.proofs.Pools.Wider.{differ-one}

module _ {A B : Type 0} (f : A → B) (xs : List A) (z : B) where
  abbrev NotBelow : ℕ → Type 0
  NotBelow i = (j : ℕ) → j < i → slice_get (map f xs) j ≡ Some z → ⊥

  pub later : (i : ℕ) (a : A) → a ≡ get_or xs i a → i < length xs → (f a ≡ z → ⊥) → NotBelow i → NotBelow (i + 1)
  later i a e w apart h j b s = elim (leb_tells (suc j) i) [
    | inl p ↦ (let below : suc j ≤ i = p.1 in h j (omega (arith, below)) s)
    | inr p ↦
        let above : i < suc j = p.1 in
        let same : j ≡ i = omega (arith, above, b) in
        let here = slice_get-map f xs i ∙ ap (option_map f) (slice_get_read xs (length xs) i a refl w e) in
        apart (some-same (f a) z (sym here ∙ (sym (ap (slice_get (map f xs)) same) ∙ s)))
  ]

  pub pushed : (y : A) (ys : List A) → ys ≡ xs ++ y ∷ [] → f y ≡ z → map f ys ≡ map f xs ++ z ∷ []
  pushed y ys e h = ap (map f) e ∙ (map-append f xs (y ∷ []) ∙ ap (λ w. map f xs ++ w ∷ []) h)

  pub pushed-differ : Differ (map f xs) → (i : ℕ) → length xs ≤ i → NotBelow i → (ms : List B) → ms ≡ map f xs ++ z ∷ [] → Differ ms
  pushed-differ d i w h ms e = subst Differ (sym e) (differ-one (map f xs) d z new)
    where
      new : (j : ℕ) → slice_get (map f xs) j ≡ Some z → ⊥
      new j s =
          let below : j < length (map f xs) = get-below (map f xs) j z s in
          let len : length (map f xs) ≡ length xs = length-map xs f in
          h j (omega (arith, below, len, w)) s

  pub pushed-number : (ms : List B) → ms ≡ map f xs ++ z ∷ [] → (n : ℕ) → n ≡ length xs → slice_get ms n ≡ Some z
  pushed-number ms e n h = ap (slice_get ms) (h ∙ sym (length-map xs f)) ∙ (ap (λ l. slice_get l (length (map f xs))) e ∙ get-last (map f xs) z)
