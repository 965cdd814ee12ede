-- What holds of each of a list, and of lists that are made of it.
use Rattle.std.proofs.Common.{◌≡◌, ◌<◌, ℕ, zero, suc, List, [], ◌∷◌, ◌++◌, map, take, refl, subst, Bool, true, false, cond, nat_lt, arith}
use Rattle.std.specs.List.{filter, flat_map}
use Rattle.std.proofs.lemmas.Bool.Decides.{nat_tests}
use Rattle.bk_form.specs.Each.{Each}
use Rattle.bk_po.specs.Obligations.{numbers_below}

pub append-each : {A : Type 0} (P : A → Type 0) (xs ys : List A) → Each P xs → Each P ys → Each P (xs ++ ys)
append-each {A} P [] ys h k = k
append-each {A} P (x ∷ xs) ys h k = (h.0, append-each P xs ys h.1 k)

pub flat-each : {A B : Type 0} (P : B → Type 0) (F : A → List B) (xs : List A) → Each (λ x. Each P (F x)) xs → Each P (flat_map F xs)
flat-each {A} {B} P F [] h = tt
flat-each {A} {B} P F (x ∷ xs) h = append-each P (F x) (flat_map F xs) h.0 (flat-each P F xs h.1)

pub map-each : {A B : Type 0} (P : B → Type 0) (F : A → B) (xs : List A) → Each (λ x. P (F x)) xs → Each P (map F xs)
map-each {A} {B} P F [] h = tt
map-each {A} {B} P F (x ∷ xs) h = (h.0, map-each P F xs h.1)

pub below-each : (P : ℕ → Type 0) (n : ℕ) → ((k : ℕ) → k < n → P k) → Each P (numbers_below n)
below-each P zero h = tt
below-each P (suc n) h = append-each P (numbers_below n) (n ∷ []) (below-each P n (λ k l. h k (omega (arith, l)))) (h n (omega arith), tt)

pub take-each : {A : Type 0} (P : A → Type 0) (n : ℕ) (xs : List A) → Each P xs → Each P (take n xs)
take-each {A} P zero [] h = tt
take-each {A} P zero (x ∷ xs) h = tt
take-each {A} P (suc n) [] h = tt
take-each {A} P (suc n) (x ∷ xs) h = (h.0, take-each P n xs h.1)

pub filter-each : {A : Type 0} (P : A → Type 0) (test : A → Bool) (xs : List A) → Each P xs → Each P (filter test xs)
filter-each {A} P test [] h = tt
filter-each {A} P test (x ∷ xs) h =
    let rest = filter-each P test xs h.1 in
    elim (test x) as (λ b. Each P (cond b (x ∷ filter test xs) (filter test xs))) [ true ↦ (h.0, rest) | false ↦ rest ]

-- what passes a filter
pub filter-true : {A : Type 0} (test : A → Bool) (xs : List A) → Each (λ x. test x ≡ true) (filter test xs)
filter-true {A} test [] = tt
filter-true {A} test (x ∷ xs) = by_test (filter-true test xs) (test x) refl
  where
    by_test : Each (λ x. test x ≡ true) (filter test xs) → (b : Bool) → test x ≡ b → Each (λ x. test x ≡ true) (cond b (x ∷ filter test xs) (filter test xs))
    by_test rest true h = (h, rest)
    by_test rest false h = rest

-- ---- each of a list that was made of others
pub each-first : {A : Type 0} (P : A → Type 0) (xs ys : List A) → Each P (xs ++ ys) → Each P xs
each-first {A} P [] ys h = tt
each-first {A} P (x ∷ xs) ys h = (h.0, each-first P xs ys h.1)

pub each-second : {A : Type 0} (P : A → Type 0) (xs ys : List A) → Each P (xs ++ ys) → Each P ys
each-second {A} P [] ys h = h
each-second {A} P (x ∷ xs) ys h = each-second P xs ys h.1

pub each-flat : {A B : Type 0} (P : B → Type 0) (F : A → List B) (xs : List A) → Each P (flat_map F xs) → Each (λ x. Each P (F x)) xs
each-flat {A} {B} P F [] h = tt
each-flat {A} {B} P F (x ∷ xs) h = (each-first P (F x) (flat_map F xs) h, each-flat P F xs (each-second P (F x) (flat_map F xs) h))

pub each-map : {A B : Type 0} (P : B → Type 0) (F : A → B) (xs : List A) → Each P (map F xs) → Each (λ x. P (F x)) xs
each-map {A} {B} P F [] h = tt
each-map {A} {B} P F (x ∷ xs) h = (h.0, each-map P F xs h.1)

pub each-so : {A : Type 0} (P Q : A → Type 0) (xs : List A) → ((x : A) → P x → Q x) → Each P xs → Each Q xs
each-so {A} P Q [] so h = tt
each-so {A} P Q (x ∷ xs) so h = (so x h.0, each-so P Q xs so h.1)

pub each-below : (P : ℕ → Type 0) (n : ℕ) → Each P (numbers_below n) → (k : ℕ) → k < n → P k
each-below P zero h k l = absurd (omega (arith, l))
each-below P (suc n) h k l = by_test (λ less. each-below P n (each-first P (numbers_below n) (n ∷ []) h) k less) (nat_lt k n) refl
  where
    by_test : (k < n → P k) → (b : Bool) → nat_lt k n ≡ b → P k
    by_test less true e = less (grind (arith, nat_tests))
    by_test less false e = let same : n ≡ k = grind (arith, nat_tests) in subst P same (each-second P (numbers_below n) (n ∷ []) h).0
