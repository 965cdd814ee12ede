use Rattle.bk_par.specs.Overlaps.{overlaps}
use Rattle.bk_par.proofs.Least.{least_found}
use Rattle.bk_par.proofs.flattening.flatten.Goals as goal

pub returns-in-Some-clause-overlap : goal.returns-in-Some-clause-overlap
returns-in-Some-clause-overlap c v same =
    let first = c.in_ok-variable.ensures in
    let found = c.in-Some.is in
    least_found (overlaps c.args.sub) v (cc (first, found, same))
