use Rattle.bk_proof_words.proofs.Getters.{first_is}
use Rattle.bk_proof_words.proofs.words.value_of.Goals as goal

pub returns : goal.returns
returns c = first_is c.args.matches.now c.args.id.now _ c.get_str.ensures
