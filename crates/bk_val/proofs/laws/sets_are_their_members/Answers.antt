use Rattle.bk_val.proofs.Elements.{same_elements}
use Rattle.bk_val.proofs.laws.sets_are_their_members.Goals as goal

pub returns : goal.returns
returns c = same_elements
