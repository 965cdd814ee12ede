use Rattle.std.proofs.Common.{◌∙◌}
use Rattle.bk_ops.specs.declared.sign.TheConstants.{DOT, OPEN_PAREN}
use Rattle.bk_raw.specs.Grammar.Reading.{sign}
use Rattle.bk_p_expr.proofs.Choices.{next_found}
use Rattle.bk_p_expr.proofs.opening.behind_dot.Goals as goal

pub returns-clause-found : goal.returns-clause-found
returns-clause-found c = (_, next_found (sign DOT c.args.tokens.now) _ _ (λ _ us. sign OPEN_PAREN us) c.in_ok-rest.ensures.found ∙ c.in_ok-inside.ensures.found)
