use Rattle.bk_program.proofs.ExchangeValid.{exchange_is_right}
use Rattle.bk_program.proofs.laws.exchange.Goals as goal

pub returns : goal.returns
returns c = exchange_is_right
