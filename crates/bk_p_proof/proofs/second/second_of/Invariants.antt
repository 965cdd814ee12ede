use Rattle.bk_p_proof.proofs.Seconds.{Seen}
use Rattle.bk_p_proof.proofs.second.second_of.Given as goal

abbrev pub invariant-loop-name : goal.invariant-loop-name
invariant-loop-name l = Seen (λ t. t.items) (λ x. x.now) l.names l.name-index l.texts.keys l.first.items
