use Rattle.bk_p_expr.specs.Pieces.{around_node}
use Rattle.bk_p_expr.proofs.Begun.{quantified_none, quantified_none_dot, quantified_opens}
use Rattle.bk_p_expr.proofs.Choices.{if_none, if_some}
use Rattle.bk_p_expr.proofs.opening.quantified.Goals as goal

pub returns-in_default-clause-found : goal.returns-in_default-clause-found
returns-in_default-clause-found c = quantified_none c.args.at c.args.quantifier c.args.tokens.now (if_none _ _ _ c.in_ok-form.ensures.found c.in_default.is)

pub returns-in_default-behind_dot-clause-found : goal.returns-in_default-behind_dot-clause-found
returns-in_default-behind_dot-clause-found c = quantified_none_dot c.args.at c.args.quantifier c.args.tokens.now (around_node c.in-Some.form) c.in-Some.rest.now (if_some _ _ _ _ c.in_ok-form.ensures.found c.in-Some.is) c.in_default-behind_dot.ensures.found

pub returns-clause-found : goal.returns-clause-found
returns-clause-found c = quantified_opens c.args.at c.args.quantifier c.args.tokens.now (around_node c.in-Some.form) c.in-Some.rest.now c.in-Some-behind_dot.ensures.found.0 c.in-Some-behind_dot.inside.now (if_some _ _ _ _ c.in_ok-form.ensures.found c.in-Some.is) c.in-Some-behind_dot.ensures.found.1
