use Rattle.std.proofs.Common.{rules}
use Rattle.bk_verbs.proofs.player.Player.call.Goals.{in-Project, in-Image}
use Rattle.bk_verbs.proofs.player.Player.call.Goals as goal

pub returns-clause-ends : goal.returns-clause-ends
returns-clause-ends c = elim c.match-self.branch [
  | in-Project w ↦ search rules
  | in-Image w ↦ search rules
]
