use Rattle.bk_arith.proofs.PolynomialLaw.{polynomial_is_valid}
use Rattle.bk_arith.proofs.laws.polynomial_is_valid.Goals as goal

pub returns : goal.returns
returns c = polynomial_is_valid
