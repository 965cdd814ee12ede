use Rattle.std.proofs.Common.{◌≡◌, drop}
use Rattle.bk_val.specs.Sets.{in_domain}
use Rattle.bk_val.proofs.relation.is_in_domain.Given as goal

abbrev pub invariant-loop-p : goal.invariant-loop-p
invariant-loop-p l = in_domain l.p-items l.x ≡ in_domain (drop l.p-index l.p-items) l.x
