-- The range where none is said.
use Rattle.std.proofs.Common.{arith}
use Rattle.std.proofs.lemmas.Int.{ints}
use Rattle.bk_dev.specs.Development.{default_max, IsRange}

pub default_range : IsRange default_max
default_range = record { least = omega (arith, ints); greatest = omega (arith, ints) }
