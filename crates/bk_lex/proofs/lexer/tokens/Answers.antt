use Rattle.std.proofs.Common.{IfErr, subst}
use Rattle.bk_lex.specs.Laws.{HasNoTokens}
use Rattle.bk_lex.proofs.Cutting.{no_tokens}
use Rattle.bk_lex.proofs.lexer.tokens.Goals as goal

pub returns-in-Ok-clause-none : goal.returns-in-Ok-clause-none
returns-in-Ok-clause-none c =
    subst (λ t. IfErr c.cut.result (HasNoTokens t)) c.in-Ok.ensures.cases.0 (no_tokens c.cut.result _ c.in-Ok.text.now c.cut.ensures)
