-- Loops over tokens, whose reader has fuel.
use Rattle.std.specs.Prelude.{◌≡◌, ℕ, zero, suc, pred, ◌-◌, ◌≤◌}
use Rattle.std.proofs.Common.{arith, ◌∙◌}

-- with fuel enough, the whole is what is left to read, with more fuel than there is room for
pub record Continues {X : Type 0} (least room : ℕ) (whole : ℕ → X) (left : ℕ → ℕ → X) : Type 0 where
  pub so_far : (n : ℕ) → least ≤ n → (k : ℕ) × (room ≤ k) × (whole n ≡ left n k)

pub continues_more : {X : Type 0} (least room less : ℕ) (whole : ℕ → X) (left after : ℕ → ℕ → X) → Continues least room whole left → ((n k : ℕ) → least ≤ n → room ≤ k → (j : ℕ) × (less ≤ j) × (left n k ≡ after n j)) → Continues least less whole after
continues_more least room less whole left after c f = record { so_far = λ n l. let s : (k : ℕ) × (room ≤ k) × (whole n ≡ left n k) = c.so_far n l in let g : (j : ℕ) × (less ≤ j) × (left n s.0 ≡ after n j) = f n s.0 l s.1 in (g.0, g.1, s.2 ∙ g.2) }

pub continues_done : {X : Type 0} (least room : ℕ) (whole : ℕ → X) (left : ℕ → ℕ → X) (found : X) → Continues least room whole left → ((n k : ℕ) → least ≤ n → room ≤ k → left n k ≡ found) → (n : ℕ) → least ≤ n → whole n ≡ found
continues_done least room whole left found c f n l = let s : (k : ℕ) × (room ≤ k) × (whole n ≡ left n k) = c.so_far n l in s.2 ∙ f n s.0 l s.1

pub pred_is : (n : ℕ) → pred n ≡ n - 1
pred_is zero = omega arith
pred_is (suc n) = omega arith
