use Rattle.std.proofs.Common.{Err, sym, ◌∙◌, ap}
use Rattle.bk_laws.specs.Rows.{instance_of_row}
use Rattle.bk_laws.proofs.Faults.{no-instance}
use Rattle.bk_kernel.proofs.instances.set_law.Goals as goal

pub returns-in-Err-Unknown : goal.returns-in-Err-Unknown
returns-in-Err-Unknown c =
    sym (ap (instance_of_row c.args.picks.now) (c.in-Err-Unknown.ensures.unknown.0 (ap (λ f. Err f) c.in-Err-Unknown.field-0-is)))

pub returns-in-Err-Picks : goal.returns-in-Err-Picks
returns-in-Err-Picks c =
    let w = (c.in-Err-Picks.ensures.picks c.in-Err-Picks.field-0-0).0 (ap (λ f. Err f) c.in-Err-Picks.field-0-is) in
    sym (ap (instance_of_row c.args.picks.now) w.1 ∙ no-instance w.0 c.args.picks.now c.in-Err-Picks.field-0-0 w.2)
