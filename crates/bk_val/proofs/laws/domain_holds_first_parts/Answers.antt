use Rattle.bk_val.proofs.Relations.{pair_from_in_domain, in_domain_from_pair}
use Rattle.bk_val.proofs.laws.domain_holds_first_parts.Goals as goal

pub returns : goal.returns
returns c r x = (pair_from_in_domain r x, λ p. in_domain_from_pair r x p.0 p.1)
