-- What putting a value into a set tells of what its values hold, where the set's test decides what they hold.
use Rattle.std.proofs.Common.{◌≡◌, ◌||◌, ℕ, zero, suc, Bool, true, false, true≢false, List, [], ◌∷◌, ◌++◌, map, refl, sym, ◌∙◌, ap, subst, if◌then◌else◌}
use Rattle.std.specs.Prelude.{Some, slice_get}
use Rattle.std.specs.Bool.{Decides}
use Rattle.std.specs.List.{list_any}
use Rattle.std.specs.Option.{option_map}
use Rattle.std.proofs.lemmas.List.{map-append}
use Rattle.std.proofs.lemmas.Option.{slice_get-map}
use Rattle.indexmap.specs.IndexSet.{insert_key}
use Rattle.bk_form.specs.PoolKeys.{Differ, Grows}
use Rattle.bk_form.proofs.Pools.Lists.{some-same, append-none}
use Rattle.bk_form.proofs.Pools.Wider.{differ-one}

or-second : (a b : Bool) → a || b ≡ false → b ≡ false
or-second true b h = absurd (true≢false h)
or-second false b h = h

module _ {A B : Type 0} (f : A → B) (eq : A → A → Bool) (decides : (x y : A) → Decides (eq x y) (f x ≡ f y)) (z : A) where
  pub absent : (xs : List A) → list_any (eq z) xs ≡ false → (i : ℕ) → slice_get (map f xs) i ≡ Some (f z) → ⊥
  absent [] h zero s = absurd (cc)
  absent [] h (suc i) s = absurd (cc)
  absent (x ∷ xs) h zero s = true≢false (sym (ap (λ b. b || list_any (eq z) xs) ((decides z x).1 (sym (some-same (f x) (f z) s)))) ∙ h)
  absent (x ∷ xs) h (suc i) s = absent xs (or-second (eq z x) (list_any (eq z) xs) h) i s

  module _ (xs ys : List A) (put : ys ≡ insert_key eq xs z) where
    pub insert-cases : (P : List A → Type 0) → P xs → (list_any (eq z) xs ≡ false → P (xs ++ z ∷ [])) → P ys
    insert-cases P h k = subst P (sym put) (by (list_any (eq z) xs) refl)
      where
        by : (b : Bool) → list_any (eq z) xs ≡ b → P (if b then xs else xs ++ z ∷ [])
        by true e = h
        by false e = k e

    pub inserted-grows : Grows (map f xs) (map f ys)
    inserted-grows = insert-cases (λ l. Grows (map f xs) (map f l)) ([], sym (append-none (map f xs))) (λ e. (f z ∷ [], map-append f xs (z ∷ [])))

    pub inserted-differ : Differ (map f xs) → Differ (map f ys)
    inserted-differ d = insert-cases (λ l. Differ (map f l)) d (λ e. subst Differ (sym (map-append f xs (z ∷ []))) (differ-one (map f xs) d (f z) (absent xs e)))

    pub inserted-number : (n : ℕ) (k : A) → slice_get ys n ≡ Some k → eq z k ≡ true → slice_get (map f ys) n ≡ Some (f z)
    inserted-number n k s e = slice_get-map f ys n ∙ (ap (option_map f) s ∙ ap Some (sym ((decides z k).0 e)))
