use Rattle.std.proofs.Common.{◌≡◌, map, take}
use Rattle.bk_p_proof.proofs.second.all_of.Given as goal

abbrev pub invariant-loop-name : goal.invariant-loop-name
invariant-loop-name l = map (λ x. x.now) l.all.items ≡ take l.name-index l.names
