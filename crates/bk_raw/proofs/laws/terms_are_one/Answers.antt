use Rattle.bk_raw.proofs.Exact.{one_for_its_tokens}
use Rattle.bk_raw.proofs.laws.terms_are_one.Goals as goal

pub returns : goal.returns
returns c = one_for_its_tokens
