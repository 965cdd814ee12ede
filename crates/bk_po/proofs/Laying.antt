-- Obligations laid down one after another, up to the first that is too large.
use Rattle.std.proofs.Common.{◌≡◌, ◌<◌, ◌≤◌, ◌+◌, ◌-◌, ℕ, zero, suc, List, [], ◌∷◌, ◌++◌, map, length, drop, get_or, Bool, true, false, cond, Option, Some, None, Result, Ok, Err, IfErr, IsErrAnd, refl, sym, ◌∙◌, ap, subst, arith}
use Rattle.std.specs.List.{flat_map}
use Rattle.std.proofs.lemmas.Bool.Decides.{nat_tests}
use Rattle.std.proofs.lemmas.List.{append_assoc, drop_more}
use Rattle.bk_bind.specs.Limits.{IsWithinLimits}
use Rattle.bk_form.specs.Each.{Each}
use Rattle.bk_po.specs.Obligations.{Obligation, numbers_below}
use Rattle.bk_po.specs.declared.error.PoFault.{PoFault}
use Rattle.bk_po.specs.declared.error.PoFault.TheVariants.{TooLarge, TooMany, Memory}
use Rattle.bk_po.specs.Limits.{is_too_large, first_too_large, IsFaultAmong, IsFaultOf}

-- ---- the first that is too large
pub first_passes : (os more : List Obligation) → first_too_large os ≡ None → first_too_large (os ++ more) ≡ first_too_large more
first_passes [] more h = refl
first_passes (o ∷ os) more h = by_test (first_passes os more) (is_too_large o) refl h
  where
    by_test : (first_too_large os ≡ None → first_too_large (os ++ more) ≡ first_too_large more) → (b : Bool) → is_too_large o ≡ b → cond b (Some o.name) (first_too_large os) ≡ None → first_too_large (o ∷ os ++ more) ≡ first_too_large more
    by_test rest true k h = absurd (let e : Some o.name ≡ None = h in cc)
    by_test rest false k h = rw k (rest h)

pub first_found : (os more : List Obligation) (name : List ℕ) → first_too_large os ≡ Some name → first_too_large (os ++ more) ≡ Some name
first_found [] more name h = absurd (let e : None ≡ Some name = h in cc)
first_found (o ∷ os) more name h = by_test (first_found os more name) (is_too_large o) refl h
  where
    by_test : (first_too_large os ≡ Some name → first_too_large (os ++ more) ≡ Some name) → (b : Bool) → is_too_large o ≡ b → cond b (Some o.name) (first_too_large os) ≡ Some name → first_too_large (o ∷ os ++ more) ≡ Some name
    by_test rest true k h = rw k h
    by_test rest false k h = rw k (rest h)

-- a goal that is too large by itself
pub large_goal : (o : Obligation) → (IsWithinLimits o.goal → ⊥) → first_too_large (o ∷ []) ≡ Some o.name
large_goal o h = by_test (is_too_large o) refl
  where
    small : is_too_large o ≡ false → IsWithinLimits o.goal
    small k = record { nodes = grind (arith, nat_tests); height = grind (arith, nat_tests) }

    by_test : (b : Bool) → is_too_large o ≡ b → first_too_large (o ∷ []) ≡ Some o.name
    by_test true k = rw k refl
    by_test false k = absurd (h (small k))

-- ---- numbers from one on
-- n numbers from k on
abbrev pub from_on : ℕ → ℕ → List ℕ
from_on k zero = []
from_on k (suc n) = k ∷ from_on (suc k) n

one-more : (k n : ℕ) → from_on k (suc n) ≡ from_on k n ++ (k + n) ∷ []
one-more k zero = λ i. let same : k ≡ k + 0 = omega arith in same i ∷ []
one-more k (suc n) = λ i. k ∷ (one-more (suc k) n ∙ ap (λ j. from_on (suc k) n ++ j ∷ []) (let same : suc k + n ≡ k + suc n = omega arith in same)) i

pub below_is_from : (n : ℕ) → numbers_below n ≡ from_on 0 n
below_is_from zero = refl
below_is_from (suc n) =
    let same : n ≡ 0 + n = omega arith in
    ap (λ ns. ns ++ n ∷ []) (below_is_from n) ∙ (ap (λ j. from_on 0 n ++ j ∷ []) same ∙ sym (one-more 0 n))

pub from_start : (n : ℕ) → from_on 0 (n - 0) ≡ numbers_below n
from_start n = let same : n - 0 ≡ n = omega arith in ap (from_on 0) same ∙ sym (below_is_from n)

pub from_step : (k n : ℕ) → k < n → from_on k (n - k) ≡ k ∷ from_on (k + 1) (n - (k + 1))
from_step k n h =
    let more : n - k ≡ suc (n - (k + 1)) = omega (arith, h) in
    let next : suc k ≡ k + 1 = omega arith in
    ap (from_on k) more ∙ ap (λ j. k ∷ from_on j (n - (k + 1))) next

pub from_end : (k n : ℕ) → n ≤ k → from_on k (n - k) ≡ []
from_end k n h = let none : n - k ≡ 0 = omega (arith, h) in ap (from_on k) none

-- ---- one more number
pub next_number : {A : Type 0} (f : ℕ → A) (total now new : List A) (k n : ℕ) (x : A) → k < n → now ++ map f (from_on k (n - k)) ≡ total → new ≡ now ++ x ∷ [] → x ≡ f k → new ++ map f (from_on (k + 1) (n - (k + 1))) ≡ total
next_number {A} f total now new k n x h so_far pushed is =
    let rest = map f (from_on (k + 1) (n - (k + 1))) in
    ap (λ xs. xs ++ rest) (pushed ∙ ap (λ p. now ++ p ∷ []) is) ∙ (append_assoc now (f k ∷ []) rest ∙ (ap (λ ks. now ++ map f ks) (sym (from_step k n h)) ∙ so_far))

-- ---- one more level
pub next_level : (f : ℕ → List Obligation) (total now new : List Obligation) (k n : ℕ) → k < n → now ++ flat_map f (from_on k (n - k)) ≡ total → new ≡ now ++ f k → new ++ flat_map f (from_on (k + 1) (n - (k + 1))) ≡ total
next_level f total now new k n h so_far added =
    let rest = flat_map f (from_on (k + 1) (n - (k + 1))) in
    ap (λ os. os ++ rest) added ∙ (append_assoc now (f k) rest ∙ (ap (λ ks. now ++ flat_map f ks) (sym (from_step k n h)) ∙ so_far))

pub next_level_size : (f : ℕ → List Obligation) (v : Option (List ℕ)) (k n : ℕ) → k < n → first_too_large (flat_map f (from_on k (n - k))) ≡ v → first_too_large (f k) ≡ None → first_too_large (flat_map f (from_on (k + 1) (n - (k + 1)))) ≡ v
next_level_size f v k n h so_far small =
    sym (first_passes (f k) (flat_map f (from_on (k + 1) (n - (k + 1)))) small) ∙ (ap (λ ks. first_too_large (flat_map f ks)) (sym (from_step k n h)) ∙ so_far)

pub found_level : (f : ℕ → List Obligation) (v : Option (List ℕ)) (k n : ℕ) (name : List ℕ) → k < n → first_too_large (flat_map f (from_on k (n - k))) ≡ v → first_too_large (f k) ≡ Some name → v ≡ Some name
found_level f v k n name h so_far large =
    sym so_far ∙ (ap (λ ks. first_too_large (flat_map f ks)) (from_step k n h) ∙ first_found (f k) (flat_map f (from_on (k + 1) (n - (k + 1)))) name large)

pub found_fault : (f : ℕ → List Obligation) (total : List Obligation) (k n : ℕ) (fault : PoFault) → k < n → first_too_large (flat_map f (from_on k (n - k))) ≡ first_too_large total → IsFaultAmong (f k) fault → IsFaultAmong total fault
found_fault f total k n (TooLarge name) h so_far large = found_level f (first_too_large total) k n name h so_far large
found_fault f total k n (TooMany limit) h so_far large = large
found_fault f total k n Memory h so_far large = tt

-- ---- one more clause
pub next_clause : {A : Type 0} (f : A → Obligation) (total now new : List Obligation) (cs : List A) (i : ℕ) (d : A) (o : Obligation) → i < length cs → now ++ map f (drop i cs) ≡ total → new ≡ now ++ o ∷ [] → o ≡ f (get_or cs i d) → new ++ map f (drop (i + 1) cs) ≡ total
next_clause {A} f total now new cs i d o h so_far pushed is =
    let rest = map f (drop (i + 1) cs) in
    ap (λ os. os ++ rest) (pushed ∙ ap (λ p. now ++ p ∷ []) is) ∙ (append_assoc now (f (get_or cs i d) ∷ []) rest ∙ (ap (λ xs. now ++ map f xs) (sym (drop_more cs i d h)) ∙ so_far))

pub next_clause_size : {A : Type 0} (f : A → Obligation) (v : Option (List ℕ)) (cs : List A) (i : ℕ) (d : A) → i < length cs → first_too_large (map f (drop i cs)) ≡ v → first_too_large (f (get_or cs i d) ∷ []) ≡ None → first_too_large (map f (drop (i + 1) cs)) ≡ v
next_clause_size {A} f v cs i d h so_far small =
    sym (first_passes (f (get_or cs i d) ∷ []) (map f (drop (i + 1) cs)) small) ∙ (ap (λ xs. first_too_large (map f xs)) (sym (drop_more cs i d h)) ∙ so_far)

found_clause : {A : Type 0} (f : A → Obligation) (v : Option (List ℕ)) (cs : List A) (i : ℕ) (d : A) (name : List ℕ) → i < length cs → first_too_large (map f (drop i cs)) ≡ v → first_too_large (f (get_or cs i d) ∷ []) ≡ Some name → v ≡ Some name
found_clause {A} f v cs i d name h so_far large =
    sym so_far ∙ (ap (λ xs. first_too_large (map f xs)) (drop_more cs i d h) ∙ first_found (f (get_or cs i d) ∷ []) (map f (drop (i + 1) cs)) name large)

pub found_clause_fault : {A : Type 0} (f : A → Obligation) (total : List Obligation) (cs : List A) (i : ℕ) (d : A) (fault : PoFault) → i < length cs → first_too_large (map f (drop i cs)) ≡ first_too_large total → IsFaultAmong (f (get_or cs i d) ∷ []) fault → IsFaultAmong total fault
found_clause_fault {A} f total cs i d (TooLarge name) h so_far large = found_clause f (first_too_large total) cs i d name h so_far large
found_clause_fault {A} f total cs i d (TooMany limit) h so_far large = large
found_clause_fault {A} f total cs i d Memory h so_far large = tt

-- what is so of each clause is so of the next
pub each_item : {A : Type 0} (P : A → Type 0) (xs : List A) (i : ℕ) (d : A) → i < length xs → Each P xs → P (get_or xs i d)
each_item {A} P [] i d h e = absurd (omega (arith, h))
each_item {A} P (x ∷ xs) zero d h e = e.0
each_item {A} P (x ∷ xs) (suc i) d h e = each_item P xs i d (omega (arith, h)) e.1

-- ---- what a call gave
pub among_is_of : (os : List Obligation) (fault : PoFault) → IsFaultAmong os fault → IsFaultOf os fault
among_is_of os (TooLarge name) h = h
among_is_of os (TooMany limit) h = absurd h
among_is_of os Memory h = tt

-- an error that is handed on
pub handed_on : {T : Type 0} (r : Result T PoFault) (fault : PoFault) (P : PoFault → Type 0) → IsErrAnd r (λ e. e ≡ fault) → P fault → IfErr r P
handed_on {T} (Ok x) fault P h p = tt
handed_on {T} (Err e) fault P h p = subst P (sym h) p

pub ruleset laying = (first_passes, first_found, large_goal, below_is_from, from_step, from_end)
