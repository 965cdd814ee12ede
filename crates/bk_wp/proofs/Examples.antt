-- Small cases.
use Rattle.std.proofs.Common.{refl}
use Rattle.bk_wp.specs.Examples.{EachTable, CountsUp}

pub examples : EachTable
examples table = record { assigned = refl; both_levels = refl; conditional = refl; conditioned = refl; in_turn = refl; chosen = refl; greater = refl }

pub counts-up : CountsUp
counts-up = refl
