use Rattle.bk_gen.proofs.Loads.{translations_load}
use Rattle.bk_gen.proofs.laws.translations_load.Goals as goal

pub returns : goal.returns
returns c = λ dev h. translations_load dev h.lawful h.in_b0 h.elements h.cells h.code
