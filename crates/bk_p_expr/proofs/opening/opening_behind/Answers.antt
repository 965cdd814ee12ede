use Rattle.bk_p_expr.proofs.Begun.{other_none}
use Rattle.bk_p_expr.proofs.Choices.{if_none}
use Rattle.bk_p_expr.proofs.opening.opening_behind.Goals as goal

pub returns-in_default-kind : goal.returns-in_default-kind
returns-in_default-kind c = record { found = other_none c.args.first.now.kind c.args.first.now.start c.args.tokens.now (if_none _ _ _ c.in_ok-piece.ensures c.in_default.is) c.in_default-of.ensures c.in_default-kind.not-Sign; shorter = tt }
