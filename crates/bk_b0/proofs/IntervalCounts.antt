-- How many numbers an interval has.
use Rattle.std.proofs.Common.{◌≡◌, ◌<ℤ◌, ◌≤ℤ◌, ℤ, pos, negsuc, ◌+ℤ◌, ◌-ℤ◌, refl, arith}
use Rattle.std.proofs.lemmas.Int.{ints}
use Rattle.bk_form.specs.Operators.{count_of}

none-counted : (low high n : ℤ) → n ≡ (high +ℤ pos 1) -ℤ low → high <ℤ low → 0 ≡ count_of n
none-counted low high (negsuc n) e h = refl
none-counted low high (pos n) e h = omega (arith, ints, e, h)

pub counted_none : (low high : ℤ) → high <ℤ low → 0 ≡ count_of ((high +ℤ pos 1) -ℤ low)
counted_none low high h = none-counted low high ((high +ℤ pos 1) -ℤ low) refl h

-- the number, where it is counted from a whole number
some-counted : (low high n : ℤ) → n ≡ (high +ℤ pos 1) -ℤ low → low ≤ℤ high → pos (count_of n) ≡ high -ℤ low +ℤ pos 1
some-counted low high (negsuc n) e h = absurd (omega (arith, ints, e, h))
some-counted low high (pos n) e h = omega (arith, ints, e)

pub counted_some : (low high : ℤ) → low ≤ℤ high → pos (count_of ((high +ℤ pos 1) -ℤ low)) ≡ high -ℤ low +ℤ pos 1
counted_some low high h = some-counted low high ((high +ℤ pos 1) -ℤ low) refl h
