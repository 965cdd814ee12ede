-- What cannot be wanting, without a decision: each conclusion is that what is wanting cannot be refuted.
use Rattle.std.specs.Prelude.{◌≡◌, ℕ, zero, suc, ◌+◌, ◌≤◌, List, [], ◌∷◌, ◌++◌, All, refl}
use Rattle.std.proofs.Common.{inl, inr, arith, ap}
use Rattle.std.proofs.lemmas.Bool.{cases_lt}
use Rattle.std.specs.List.{AllZip}
use Rattle.std.proofs.lemmas.List.Elements.{All-nil, All-cons, All-head, All-tail}

-- ---- the greatest and the least
-- of what is so and no greater than the bound one is the greatest; the fuel is what is left up to the bound
greatest_from : {A : Type 0} (P : A → Type 0) (size : A → ℕ) (bound : ℕ) → ((x : A) → P x → size x ≤ bound) → (fuel : ℕ) (x : A) → P x → bound ≤ size x + fuel → ((x : A) → P x → ((y : A) → P y → size y ≤ size x) → ⊥) → ⊥
greatest_from P size bound within zero x p l never = never x p (λ y q. omega (arith, l, within y q))
greatest_from P size bound within (suc fuel) x p l never = never x p (λ y q. elim (cases_lt (size x) (size y)) [
  | inl s ↦ absurd (greatest_from P size bound within fuel y q (omega (arith, l, s)) never)
  | inr s ↦ s
])

pub some_greatest : {A : Type 0} (P : A → Type 0) (size : A → ℕ) (bound : ℕ) → ((x : A) → P x → size x ≤ bound) → (x : A) → P x → ((x : A) → P x → ((y : A) → P y → size y ≤ size x) → ⊥) → ⊥
some_greatest P size bound within x p never = greatest_from P size bound within bound x p (omega arith) never

least_from : {A : Type 0} (P : A → Type 0) (size : A → ℕ) (fuel : ℕ) (x : A) → P x → size x ≤ fuel → ((x : A) → P x → ((y : A) → P y → size x ≤ size y) → ⊥) → ⊥
least_from P size zero x p l never = never x p (λ y q. omega (arith, l))
least_from P size (suc fuel) x p l never = never x p (λ y q. elim (cases_lt (size y) (size x)) [
  | inl s ↦ absurd (least_from P size fuel y q (omega (arith, l, s)) never)
  | inr s ↦ s
])

pub some_least : {A : Type 0} (P : A → Type 0) (size : A → ℕ) (x : A) → P x → ((x : A) → P x → ((y : A) → P y → size x ≤ size y) → ⊥) → ⊥
some_least P size x p never = least_from P size (size x) x p (omega arith) never

-- ---- lists
-- all are fine, or a first one is not
pub all_or_first : {A : Type 0} (Fine : A → Type 0) (items : List A) → (All Fine items → ⊥) → ((before : List A) (item : A) (after : List A) → items ≡ before ++ item ∷ after → All Fine before → (Fine item → ⊥) → ⊥) → ⊥
all_or_first Fine [] not_all not_first = not_all (All-nil Fine)
all_or_first Fine (x ∷ xs) not_all not_first = not_first [] x xs refl (All-nil Fine) (λ f. all_or_first Fine xs (λ h. not_all (All-cons Fine x xs f h)) (λ before item after e h n. not_first (x ∷ before) item after (ap (λ us. x ∷ us) e) (All-cons Fine x before f h) n))

-- what stands beside each
pub all_zipped : {A B : Type 0} (R : A → B → Type 0) (xs : List A) → All (λ x. (y : B) × R x y) xs → (ys : List B) × AllZip R xs ys
all_zipped R [] h = ([], tt)
all_zipped {A} {B} R (x ∷ xs) h =
    let y = All-head (λ x. (y : B) × R x y) x xs h in
    let r = all_zipped R xs (All-tail (λ x. (y : B) × R x y) x xs h) in
    (y.0 ∷ r.0, (y.1, r.1))

-- ---- numbers
pub missing : (m n : ℕ) → m ≤ n → (k : ℕ) × (k + m ≡ n)
missing m zero l = (zero, omega (arith, l))
missing m (suc n) l = elim (cases_lt n m) [
  | inl s ↦ (zero, omega (arith, l, s))
  | inr s ↦ (let r = missing m n s in (suc r.0, omega (arith, r.1)))
]
