use Rattle.std.proofs.Common.{rules, sym}
use Rattle.bk_status.proofs.Outcomes.{outcome-state}
use Rattle.bk_dev.specs.Flattened.{flattened}
use Rattle.bk_seq.specs.Sequents.{sequent_of}
use Rattle.bk_status.proofs.replayed.state.Goals as goal

pub returns-in_ok-outcome-in-Some : goal.returns-in_ok-outcome-in-Some
returns-in_ok-outcome-in-Some c =
    outcome-state (flattened c.args.dev.now) c.args.named.now c.args.name.now (sequent_of c.args.sequent) c.in-Some.script.now c.in_ok-outcome-in-Some.field-0 (search rules) (sym c.in-Some.ensures.named) c.in_ok-outcome-in-Some.ensures
