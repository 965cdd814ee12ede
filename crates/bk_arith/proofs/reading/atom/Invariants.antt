use Rattle.std.proofs.Common.{◌≡◌, map, take, pos, if◌then◌else◌}
use Rattle.bk_arith.specs.Same.{is_same}
use Rattle.bk_arith.proofs.reading.atom.Given as goal

abbrev pub invariant-loop-other : goal.invariant-loop-other
invariant-loop-other l = l.coefs.items ≡ map (λ b. if is_same l.form b then pos 1 else pos 0) (take l.other-index l.atoms)
