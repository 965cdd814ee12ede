-- What quotients and remainders are.
use Rattle.std.proofs.Common.{◌≡◌, ◌≢◌, ℕ, zero, suc, ◌/◌, ◌%◌, ◌<◌, ℤ, pos, ◌≤ℤ◌, ◌<ℤ◌, refl, arith}
use Rattle.std.specs.Prelude.{nat_abs, neg_ℤ, int_rem, ◌+ℤ◌, ◌*ℤ◌}
use Rattle.std.proofs.lemmas.Int.{ints, quot-rem}
use lib.IntN.{negsuc}
use Rattle.bk_val.specs.Number.{quotient_of, remainder_of}

nat_abs-neg : (n : ℕ) → nat_abs (neg_ℤ (pos n)) ≡ n
nat_abs-neg zero = refl
nat_abs-neg (suc n) = refl

rest_small : (a b : ℤ) → 0 < nat_abs b → nat_abs (int_rem a b) < nat_abs b
rest_small (pos a) b h = omega arith
rest_small (negsuc a) b h = omega (arith, nat_abs-neg (suc a % nat_abs b))

pub quotient-rest : (a b : ℤ) → b ≢ pos 0 → (r : ℤ) × ((quotient_of a b *ℤ b +ℤ r ≡ a) × (nat_abs r < nat_abs b))
quotient-rest a (pos zero) n = absurd (n refl)
quotient-rest a (pos (suc b)) n = (int_rem a (pos (suc b)), (quot-rem a (pos (suc b)), rest_small a (pos (suc b)) (omega arith)))
quotient-rest a (negsuc b) n = (int_rem a (negsuc b), (quot-rem a (negsuc b), rest_small a (negsuc b) (omega arith)))

pub quotient-magnitude : (a b : ℤ) → b ≢ pos 0 → nat_abs (quotient_of a b) ≡ nat_abs a / nat_abs b
quotient-magnitude a (pos zero) n = absurd (n refl)
quotient-magnitude (pos a) (pos (suc b)) n = refl
quotient-magnitude (negsuc a) (pos (suc b)) n = nat_abs-neg (suc a / suc b)
quotient-magnitude (pos a) (negsuc b) n = nat_abs-neg (a / suc b)
quotient-magnitude (negsuc a) (negsuc b) n = refl

pub remainder_of-negative : (a b : ℤ) → a <ℤ pos 0 → remainder_of a b ≡ pos 0
remainder_of-negative (pos a) b h = absurd (omega (arith, ints))
remainder_of-negative (negsuc a) b h = refl

pub remainder_of-no_modulus : (a b : ℤ) → b ≤ℤ pos 0 → remainder_of a b ≡ pos 0
remainder_of-no_modulus (pos a) (pos zero) h = refl
remainder_of-no_modulus (pos a) (pos (suc b)) h = absurd (omega (arith, ints))
remainder_of-no_modulus (pos a) (negsuc b) h = refl
remainder_of-no_modulus (negsuc a) b h = refl
