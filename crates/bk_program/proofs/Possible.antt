-- What cannot fail. Each question may be taken to have an answer, yes or no, in a proof that something cannot fail.
use Rattle.std.proofs.Common.{◌≡◌, ℕ, zero, suc, ◌+◌, ◌<◌, ◌⊎◌, inl, inr, List, [], ◌∷◌, length, slice_index, refl, ap, subst, arith, below_more}

abbrev pub Possible : Type 0 → Type 0
Possible P = (P → ⊥) → ⊥

pub certain : {P : Type 0} → P → Possible P
certain p never = never p

pub and_then : {P Q : Type 0} → Possible P → (P → Possible Q) → Possible Q
and_then h f never = h (λ p. f p never)

pub decide : (P : Type 0) → Possible (P ⊎ (P → ⊥))
decide P never = never (inr (λ p. never (inl p)))

-- ---- numbers
-- the least number of a kind
abbrev pub Least : (ℕ → Type 0) → Type 0
Least P = (n : ℕ) × P n × ((k : ℕ) → k < n → P k → ⊥)

least_from : (P : ℕ → Type 0) (left n : ℕ) → ((k : ℕ) → k < n → P k → ⊥) → P (n + left) → Possible (Least P)
least_from P zero n below p = certain (n, subst P (omega arith) p, below)
least_from P (suc left) n below p = and_then (decide (P n)) (λ d. elim d [
  | inl here ↦ certain (n, here, below)
  | inr none ↦ least_from P left (n + 1) (below_more (λ k. P k → ⊥) n below none) (subst P (omega arith) p)
])

-- where there is one of the kind there is a least one
pub least : (P : ℕ → Type 0) (n : ℕ) → P n → Possible (Least P)
least P n p = least_from P n 0 (λ k below. absurd (omega arith)) (subst P (omega arith) p)

-- a kind that numbers have where all smaller ones have it, all numbers have
up_to : (P : ℕ → Type 0) → ((n : ℕ) → ((k : ℕ) → k < n → P k) → P n) → (n k : ℕ) → k < n → P k
up_to P step zero k below = absurd (omega arith)
up_to P step (suc n) k below = step k (λ j h. up_to P step n j (omega arith))

pub by_smaller : (P : ℕ → Type 0) → ((n : ℕ) → ((k : ℕ) → k < n → P k) → P n) → (n : ℕ) → P n
by_smaller P step n = step n (up_to P step n)

-- ---- lists
-- one more number in front
chosen_more : (P : ℕ → ℕ → Type 0) (n x : ℕ) (xs : List ℕ) → P 0 x → ((k : ℕ) → k < n → P (suc k) (slice_index xs k)) → (k : ℕ) → k < suc n → P k (slice_index (x ∷ xs) k)
chosen_more P n x xs p h zero below = p
chosen_more P n x xs p h (suc k) below = h k (omega arith)

-- a number for each place
pub choose : (P : ℕ → ℕ → Type 0) (n : ℕ) → ((k : ℕ) → k < n → Possible ((x : ℕ) × P k x)) → Possible ((xs : List ℕ) × (length xs ≡ n) × ((k : ℕ) → k < n → P k (slice_index xs k)))
choose P zero h = certain ([], refl, λ k below. absurd (omega arith))
choose P (suc n) h =
    and_then (h 0 (omega arith)) (λ first.
    and_then (choose (λ k. P (suc k)) n (λ k below. h (suc k) (omega arith))) (λ rest.
    certain (first.0 ∷ rest.0, ap suc rest.1, chosen_more P n first.0 rest.0 first.1 rest.2)))
