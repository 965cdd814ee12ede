use Rattle.bk_lex.proofs.Cutting.{tokens_are_one}
use Rattle.bk_lex.proofs.laws.tokens_are_one.Goals as goal

pub returns : goal.returns
returns c = tokens_are_one
