use Rattle.std.proofs.Common.{◌≡◌, drop}
use Rattle.std.specs.List.{position_from}
use Rattle.bk_arith.specs.Polynomials.{same_atoms}
use Rattle.bk_arith.specs.Layout.{polynomial_of}
use Rattle.bk_arith.proofs.multiplying.place_of.Given as goal

abbrev pub invariant-loop-index : goal.invariant-loop-index
invariant-loop-index l = position_from (λ m. same_atoms l.atoms m.1) l.index (polynomial_of (drop l.index l.list)) ≡ position_from (λ m. same_atoms l.atoms m.1) 0 (polynomial_of l.list)
