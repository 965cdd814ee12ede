use Rattle.bk_wp.proofs.Sound.{box-is-sound}
use Rattle.bk_wp.proofs.laws.with_loops.Goals as goal

pub returns : goal.returns
returns c = λ find table s r e h. box-is-sound find h.search table h.formed s h.flat h.types r h.closed h.apart e h.state h.box
