-- Products and quotients of whole numbers.
use Rattle.std.proofs.Common.{◌≡◌, ℕ, zero, suc, ◌*◌, ◌/◌, ◌%◌, ◌-◌, ◌<◌, ◌≤◌, ℤ, pos, negsuc, ◌+ℤ◌, ◌-ℤ◌, ◌*ℤ◌, ◌≤ℤ◌, refl, ap, sym, ◌∙◌, arith}
use Rattle.std.proofs.Math.IntN.{suc_ℤ, pred_ℤ, suc_ℤ-*ℤ, pred_ℤ-*ℤ, suc_ℤ-+ℤ, pred_ℤ-+ℤ, zero-*ℤ, *ℤ_comm, +ℤ_idl, pos-*ℤ-pos, pos-*ℤ-negsuc}
use Rattle.std.specs.Int.{int_div_euclid, int_rem_euclid}
use Rattle.std.proofs.lemmas.Int.{ints}

swap_last : (u v x : ℤ) → (u +ℤ v) +ℤ x ≡ (u +ℤ x) +ℤ v
swap_last u v x = omega (arith, ints)

swap_last_off : (u v x : ℤ) → (u +ℤ v) -ℤ x ≡ (u -ℤ x) +ℤ v
swap_last_off u v x = omega (arith, ints)

one_more : (m b x : ℤ) → (m +ℤ b) *ℤ x ≡ m *ℤ x +ℤ b *ℤ x → (suc_ℤ m +ℤ b) *ℤ x ≡ suc_ℤ m *ℤ x +ℤ b *ℤ x
one_more m b x h =
    ap (λ s. s *ℤ x) (suc_ℤ-+ℤ m b) ∙ suc_ℤ-*ℤ (m +ℤ b) x ∙ ap (λ s. s +ℤ x) h
    ∙ swap_last (m *ℤ x) (b *ℤ x) x ∙ ap (λ s. s +ℤ b *ℤ x) (sym (suc_ℤ-*ℤ m x))

one_less : (m b x : ℤ) → (m +ℤ b) *ℤ x ≡ m *ℤ x +ℤ b *ℤ x → (pred_ℤ m +ℤ b) *ℤ x ≡ pred_ℤ m *ℤ x +ℤ b *ℤ x
one_less m b x h =
    ap (λ s. s *ℤ x) (pred_ℤ-+ℤ m b) ∙ pred_ℤ-*ℤ (m +ℤ b) x ∙ ap (λ s. s -ℤ x) h
    ∙ swap_last_off (m *ℤ x) (b *ℤ x) x ∙ ap (λ s. s +ℤ b *ℤ x) (sym (pred_ℤ-*ℤ m x))

pub +ℤ-*ℤ : (a b x : ℤ) → (a +ℤ b) *ℤ x ≡ a *ℤ x +ℤ b *ℤ x
+ℤ-*ℤ (pos zero) b x =
    ap (λ s. s *ℤ x) (+ℤ_idl b) ∙ sym (ap (λ s. s +ℤ b *ℤ x) (zero-*ℤ x) ∙ +ℤ_idl (b *ℤ x))
+ℤ-*ℤ (pos (suc n)) b x = one_more (pos n) b x (+ℤ-*ℤ (pos n) b x)
+ℤ-*ℤ (negsuc zero) b x =
    one_less (pos 0) b x (ap (λ s. s *ℤ x) (+ℤ_idl b) ∙ sym (ap (λ s. s +ℤ b *ℤ x) (zero-*ℤ x) ∙ +ℤ_idl (b *ℤ x)))
+ℤ-*ℤ (negsuc (suc n)) b x = one_less (negsuc n) b x (+ℤ-*ℤ (negsuc n) b x)

pub *ℤ-+ℤ : (x a b : ℤ) → x *ℤ (a +ℤ b) ≡ x *ℤ a +ℤ x *ℤ b
*ℤ-+ℤ x a b =
    *ℤ_comm x (a +ℤ b) ∙ +ℤ-*ℤ a b x ∙ ap (λ s. s +ℤ b *ℤ x) (*ℤ_comm a x) ∙ ap (λ s. x *ℤ a +ℤ s) (*ℤ_comm b x)

-- a natural multiple of a product
pub pos-*ℤ_assoc : (n : ℕ) (c x : ℤ) → pos n *ℤ (c *ℤ x) ≡ (pos n *ℤ c) *ℤ x
pos-*ℤ_assoc zero c x = zero-*ℤ (c *ℤ x) ∙ sym (ap (λ s. s *ℤ x) (zero-*ℤ c) ∙ zero-*ℤ x)
pos-*ℤ_assoc (suc n) c x =
    suc_ℤ-*ℤ (pos n) (c *ℤ x) ∙ ap (λ s. s +ℤ c *ℤ x) (pos-*ℤ_assoc n c x)
    ∙ sym (+ℤ-*ℤ (pos n *ℤ c) c x) ∙ ap (λ s. s *ℤ x) (sym (suc_ℤ-*ℤ (pos n) c))

pub 0≤-*ℤ : (m z : ℤ) → pos 0 ≤ℤ m → pos 0 ≤ℤ z → pos 0 ≤ℤ (m *ℤ z)
0≤-*ℤ (pos m) (pos z) h k = let e = pos-*ℤ-pos m z in omega (arith, ints)
0≤-*ℤ (pos m) (negsuc z) h k = absurd (omega (arith, ints))
0≤-*ℤ (negsuc m) z h k = absurd (omega (arith, ints))

-- the quotient of a positive divisor, rounded down, and what remains
pub divided : (d : ℕ) (z : ℤ) → 0 < d → (r : ℕ) × (r < d) × (int_rem_euclid z (pos d) ≡ pos r) × (pos d *ℤ int_div_euclid z (pos d) +ℤ pos r ≡ z)
divided d (pos n) h = (n % d, omega arith, refl, (let e = pos-*ℤ-pos d (n / d) in omega (arith, ints)))
divided d (negsuc n) h = (
  d - 1 - n % d,
  omega arith,
  refl,
  (let e = pos-*ℤ-negsuc d (n / d) in let r : n % d < d = omega arith in omega (arith, ints)),
)

-- what is negative stays negative over a positive divisor, also where less than the divisor is added
pub 0≤-divided : (d r : ℕ) (z : ℤ) → r < d → pos 0 ≤ℤ (pos d *ℤ z +ℤ pos r) → pos 0 ≤ℤ z
0≤-divided d r (pos n) h k = omega (arith, ints)
0≤-divided d r (negsuc n) h k = let e = pos-*ℤ-negsuc d n in let more : d ≤ d * suc n = omega arith in absurd (omega (arith, ints))
