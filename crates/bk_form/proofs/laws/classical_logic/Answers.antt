use Rattle.bk_form.proofs.Truth.{classical}
use Rattle.bk_form.proofs.laws.classical_logic.Goals as goal

pub returns : goal.returns
returns c = classical
