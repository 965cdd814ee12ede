use Rattle.bk_evidence.proofs.Marks.{escaped_is_bare}
use Rattle.bk_evidence.proofs.laws.escaped_texts_are_bare.Goals as goal

pub returns : goal.returns
returns c = escaped_is_bare
