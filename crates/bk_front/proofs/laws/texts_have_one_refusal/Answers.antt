use Rattle.bk_front.proofs.OneRefusal.{texts_have_one_refusal}
use Rattle.bk_front.proofs.laws.texts_have_one_refusal.Goals as goal

pub returns : goal.returns
returns c = texts_have_one_refusal
