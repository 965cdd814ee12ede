use Rattle.bk_val.proofs.Quotients.{remainder_of-negative, remainder_of-no_modulus}
use Rattle.bk_val.proofs.Powers.{power_of-negative}
use Rattle.bk_val.proofs.laws.numbers_outside_domains.Goals as goal

pub returns-clause-negative_dividend : goal.returns-clause-negative_dividend
returns-clause-negative_dividend c = remainder_of-negative

pub returns-clause-no_modulus : goal.returns-clause-no_modulus
returns-clause-no_modulus c = remainder_of-no_modulus

pub returns-clause-negative_exponent : goal.returns-clause-negative_exponent
returns-clause-negative_exponent c = power_of-negative
