-- How many elements a set counts as having, by its size.
use Rattle.std.proofs.Common.{◌≡◌, ◌<◌, ◌≤◌, ℕ, zero, suc, List, [], ◌∷◌, length, refl, arith}
use Rattle.std.specs.Prelude.{slice_get}
use Rattle.std.specs.Option.{option_map_or}
use Rattle.bk_form.specs.Table.{Table, SetEntry, at_least_one, listed_size, set_size}

none : (sets : List SetEntry) (n : ℕ) → length sets ≤ n → option_map_or (λ s. at_least_one s.size) (slice_get sets n) 0 ≡ 0
none [] n h = refl
none (s ∷ sets) zero h = absurd (omega (arith, h))
none (s ∷ sets) (suc n) h = none sets n (omega (arith, h))

one : (sets : List SetEntry) (n : ℕ) → n < length sets → option_map_or (λ s. s.size) (slice_get sets n) 0 ≡ 0 → option_map_or (λ s. at_least_one s.size) (slice_get sets n) 0 ≡ 1
one [] n h e = absurd (omega (arith, h))
one (s ∷ sets) zero h e = Rattle.std.proofs.Common.ap at_least_one e
one (s ∷ sets) (suc n) h e = one sets n (omega (arith, h)) e

some : (sets : List SetEntry) (n : ℕ) → (option_map_or (λ s. s.size) (slice_get sets n) 0 ≡ 0 → ⊥) → option_map_or (λ s. at_least_one s.size) (slice_get sets n) 0 ≡ option_map_or (λ s. s.size) (slice_get sets n) 0
some [] n h = refl
some (s ∷ sets) zero h = by_size s.size h
  where
    by_size : (m : ℕ) → (m ≡ 0 → ⊥) → at_least_one m ≡ m
    by_size zero k = absurd (k refl)
    by_size (suc m) k = refl
some (s ∷ sets) (suc n) h = some sets n h

pub unlisted : (t : Table) (n : ℕ) → length t.sets ≤ n → set_size t n ≡ 0
unlisted t n h = none t.sets n h

pub unsized : (t : Table) (n : ℕ) → n < length t.sets → listed_size t n ≡ 0 → set_size t n ≡ 1
unsized t n h e = one t.sets n h e

pub sized : (t : Table) (n : ℕ) → (listed_size t n ≡ 0 → ⊥) → set_size t n ≡ listed_size t n
sized t n h = some t.sets n h

pub ruleset counts = (unlisted, unsized, sized)
