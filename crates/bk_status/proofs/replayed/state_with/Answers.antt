use Rattle.std.proofs.Common.{List, subst}
use Rattle.std.specs.Prelude.{IfOk}
use Rattle.bk_dev.specs.Flattened.{flattened}
use Rattle.bk_seq.specs.Sequents.{sequent_of}
use Rattle.bk_raw.specs.Trees.ScriptTree.{RawScript}
use Rattle.bk_status.specs.States.{IsState}
use Rattle.bk_status.proofs.replayed.state_with.Goals as goal

pub returns : goal.returns
returns c = subst (λ (ss : List RawScript). IfOk c.state.result (IsState (flattened c.args.dev.now) ss c.args.name.now (sequent_of c.args.sequent))) c.in_ok-named.ensures c.state.ensures
