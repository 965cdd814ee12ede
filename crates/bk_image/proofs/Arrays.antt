-- The indices of an array.
use Rattle.std.proofs.Common.{ℕ, arith, ℤ, pos}
use Rattle.std.specs.Prelude.{◌+ℤ◌, ◌-ℤ◌}
use Rattle.std.proofs.lemmas.Int.{ints}
use Rattle.bk_code.specs.Numbers.{IsWithin}
use Rattle.bk_image.specs.Faults.{HasIndexOutside}

pub inside : (max low : ℤ) (count : ℕ) → HasIndexOutside max low count → IsWithin max low × IsWithin max (low +ℤ pos count -ℤ pos 1) → ⊥
inside max low count h w = h.2 (omega (arith, ints, w.0.0, h.1), omega (arith, ints, w.1.1, h.1))
