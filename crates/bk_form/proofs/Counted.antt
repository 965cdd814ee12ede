-- How many elements the sets of a table have.
use Rattle.std.proofs.Common.{◌≡◌, ℕ, zero, suc, List, [], ◌∷◌, length, refl, true, nat_lt, arith}
use Rattle.std.specs.Prelude.{slice_get}
use Rattle.std.specs.Option.{option_map_or}
use Rattle.std.proofs.lemmas.Bool.Decides.{nat_tests}
use Rattle.bk_form.specs.Table.{Table, SetEntry, at_least_one, listed_size, set_size}

-- ---- tests of numbers
pub none-below : (n : ℕ) → nat_lt n 0 ≡ true → ⊥
none-below n h = grind (arith, nat_tests)

first-below : (m : ℕ) → nat_lt zero (suc m) ≡ true
first-below m = grind (arith, nat_tests)

more-below : (m n : ℕ) → nat_lt m n ≡ true → nat_lt (suc m) (suc n) ≡ true
more-below m n h = grind (arith, nat_tests)

less-below : (m n : ℕ) → nat_lt (suc m) (suc n) ≡ true → nat_lt m n ≡ true
less-below m n h = grind (arith, nat_tests)

-- ---- a number and at least one
some-counted : (n : ℕ) → nat_lt 0 (at_least_one n) ≡ true
some-counted zero = refl
some-counted (suc n) = first-below n

below-counted : (i n : ℕ) → nat_lt i n ≡ true → nat_lt i (at_least_one n) ≡ true
below-counted i zero h = absurd (none-below i h)
below-counted i (suc n) h = h

-- ---- lists of sets
-- a set with a size is listed
sized-listed : (sets : List SetEntry) (n i : ℕ) → nat_lt i (option_map_or (λ s. s.size) (slice_get sets n) 0) ≡ true → nat_lt n (length sets) ≡ true
sized-listed [] n i h = absurd (none-below i h)
sized-listed (s ∷ sets) zero i h = first-below (length sets)
sized-listed (s ∷ sets) (suc n) i h = more-below n (length sets) (sized-listed sets n i h)

counted-listed : (sets : List SetEntry) (n i : ℕ) → nat_lt i (option_map_or (λ s. at_least_one s.size) (slice_get sets n) 0) ≡ true → nat_lt n (length sets) ≡ true
counted-listed [] n i h = absurd (none-below i h)
counted-listed (s ∷ sets) zero i h = first-below (length sets)
counted-listed (s ∷ sets) (suc n) i h = more-below n (length sets) (counted-listed sets n i h)

listed-counted : (sets : List SetEntry) (n : ℕ) → nat_lt n (length sets) ≡ true → nat_lt 0 (option_map_or (λ s. at_least_one s.size) (slice_get sets n) 0) ≡ true
listed-counted [] n h = absurd (none-below n h)
listed-counted (s ∷ sets) zero h = some-counted s.size
listed-counted (s ∷ sets) (suc n) h = listed-counted sets n (less-below n (length sets) h)

sized-counted : (sets : List SetEntry) (n i : ℕ) → nat_lt i (option_map_or (λ s. s.size) (slice_get sets n) 0) ≡ true → nat_lt i (option_map_or (λ s. at_least_one s.size) (slice_get sets n) 0) ≡ true
sized-counted [] n i h = h
sized-counted (s ∷ sets) zero i h = below-counted i s.size h
sized-counted (s ∷ sets) (suc n) i h = sized-counted sets n i h

-- ---- tables
-- a set of which an element types is listed
pub size-listed : (table : Table) (n i : ℕ) → nat_lt i (listed_size table n) ≡ true → nat_lt n (length table.sets) ≡ true
size-listed table n i h = sized-listed table.sets n i h

-- a set that counts an element is listed
pub count-listed : (table : Table) (n i : ℕ) → nat_lt i (set_size table n) ≡ true → nat_lt n (length table.sets) ≡ true
count-listed table n i h = counted-listed table.sets n i h

-- each listed set counts an element
pub listed-count : (table : Table) (n : ℕ) → nat_lt n (length table.sets) ≡ true → nat_lt 0 (set_size table n) ≡ true
listed-count table n h = listed-counted table.sets n h

-- an element that types is one that counts
pub size-count : (table : Table) (n i : ℕ) → nat_lt i (listed_size table n) ≡ true → nat_lt i (set_size table n) ≡ true
size-count table n i h = sized-counted table.sets n i h
