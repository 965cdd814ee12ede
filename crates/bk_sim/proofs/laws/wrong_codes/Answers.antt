use Rattle.bk_sim.proofs.Settling.{wrong_codes_do_not_follow}
use Rattle.bk_sim.proofs.laws.wrong_codes.Goals as goal

pub returns : goal.returns
returns c = wrong_codes_do_not_follow
