use Rattle.bk_status.proofs.Obviousness.{shown_obligations_are_valid, obvious_obligations_are_valid}
use Rattle.bk_status.proofs.Tables.{proved_obligations_are_valid, proved_developments_are_correct}
use Rattle.bk_status.proofs.laws.proved_obligations.Goals as goal

pub returns : goal.returns
returns c = record {
  shown = shown_obligations_are_valid;
  obvious = obvious_obligations_are_valid;
  valid = proved_obligations_are_valid;
  correct = proved_developments_are_correct;
}
