use Rattle.bk_val.proofs.Powers.{power_of-zero, power_of-more}
use Rattle.bk_val.proofs.laws.power_multiplies.Goals as goal

pub returns-clause-no_factor : goal.returns-clause-no_factor
returns-clause-no_factor c = power_of-zero

pub returns-clause-one_more : goal.returns-clause-one_more
returns-clause-one_more c = power_of-more
