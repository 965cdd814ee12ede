-- The first formula that is the same as another: the list without it.
use Rattle.std.proofs.Common.{◌≡◌, ℕ, suc, ◌+◌, ◌<◌, List, [], ◌∷◌, ◌++◌, take, drop, length, refl, ◌∙◌, ap, Bool, true, false, cond, arith}
use Rattle.std.specs.Prelude.{Some, None}
use Rattle.std.specs.List.{position_from}
use Rattle.std.specs.Option.{option_map}
use Rattle.bk_form.specs.Formula.{Formula}
use Rattle.bk_arith.specs.Same.{is_same}
use Rattle.bk_arith.specs.Polynomials.{removed}

-- formula i of the list is the first one
abbrev Found : Formula → ℕ → List Formula → ℕ → Type 0
Found f n gs j = (i : ℕ) × (j ≡ n + i) × (i < length gs) × (removed f gs ≡ Some (take i gs ++ drop (suc i) gs))

found : (f : Formula) (n : ℕ) (gs : List Formula) (j : ℕ) → position_from (is_same f) n gs ≡ Some j → Found f n gs j
found f n [] j h = absurd (cc)
found f n (g ∷ gs) j h = by_test (found f (n + 1) gs j) (is_same f g) refl h
  where
    by_test : (position_from (is_same f) (n + 1) gs ≡ Some j → Found f (n + 1) gs j) → (b : Bool) → is_same f g ≡ b → cond b (Some n) (position_from (is_same f) (n + 1) gs) ≡ Some j → Found f n (g ∷ gs) j
    by_test on true e k =
        let same : n ≡ j = cc in (
          0,
          omega (arith, same),
          omega arith,
          ap (λ b. cond b (Some gs) (option_map (λ r. g ∷ r) (removed f gs))) e,
        )
    by_test on false e k =
        let rest = on k in
        let where_from : j ≡ n + 1 + rest.0 = rest.1 in
        let within : rest.0 < length gs = rest.2 in (
          suc rest.0,
          omega (arith, where_from),
          omega (arith, within),
          ap (λ b. cond b (Some gs) (option_map (λ r. g ∷ r) (removed f gs))) e ∙ ap (option_map (λ r. g ∷ r)) rest.3,
        )

-- without it
pub removed-found : (f : Formula) (gs : List Formula) (i : ℕ) → position_from (is_same f) 0 gs ≡ Some i → (i < length gs) × (removed f gs ≡ Some (take i gs ++ drop (i + 1) gs))
removed-found f gs i h =
    let place = found f 0 gs i h in
    let same : place.0 ≡ i = omega (arith, place.1) in
    let next : suc place.0 ≡ i + 1 = omega (arith, same) in
    let within : place.0 < length gs = place.2 in
    (omega (arith, within, same), place.3 ∙ (λ k. Some (take (same k) gs ++ drop (next k) gs)))

-- none is
pub removed-not_found : (f : Formula) (gs : List Formula) (n : ℕ) → position_from (is_same f) n gs ≡ None → removed f gs ≡ None
removed-not_found f [] n h = refl
removed-not_found f (g ∷ gs) n h = by_test (removed-not_found f gs (n + 1)) (is_same f g) refl h
  where
    by_test : (position_from (is_same f) (n + 1) gs ≡ None → removed f gs ≡ None) → (b : Bool) → is_same f g ≡ b → cond b (Some n) (position_from (is_same f) (n + 1) gs) ≡ None → removed f (g ∷ gs) ≡ None
    by_test on true e k = absurd (cc)
    by_test on false e k = ap (λ b. cond b (Some gs) (option_map (λ r. g ∷ r) (removed f gs))) e ∙ ap (option_map (λ r. g ∷ r)) (on k)
