use Rattle.bk_p_expr.proofs.Places.{front_of}
use Rattle.bk_p_expr.proofs.reader.front_term.Goals as goal

pub returns-clause-found : goal.returns-clause-found
returns-clause-found c = front_of c.args.tokens.now c.longest.result c.longest.ensures.found
