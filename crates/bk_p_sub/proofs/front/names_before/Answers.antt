use Rattle.bk_form.specs.declared.token.TokenKind.TheVariants.{Word}
use Rattle.bk_raw.specs.Grammar.Spelling.{Names}
use Rattle.bk_p_expr.proofs.Choices.{if_none, if_some}
use Rattle.bk_p_sub.proofs.Fronts.{before_there, names_not_before}
use Rattle.bk_p_sub.proofs.Openings.{none_before}
use Rattle.bk_p_sub.proofs.front.names_before.Goals as goal

pub returns-in_default-clause-found : goal.returns-in_default-clause-found
returns-in_default-clause-found c = none_before Names (Word c.args.op) c.args.tokens.now (if_none _ _ _ c.in_ok-names.ensures.found c.in_default.is)

pub returns-in_default-after_word-clause-found : goal.returns-in_default-after_word-clause-found
returns-in_default-after_word-clause-found c = names_not_before c.args.op c.args.tokens.now c.in-Some.after.now c.in-Some.names.items (if_some _ _ _ _ c.in_ok-names.ensures.found c.in-Some.is) c.in_default-after_word.ensures.found

pub returns-clause-found : goal.returns-clause-found
returns-clause-found c = before_there Names (Word c.args.op) c.args.tokens.now c.in-Some.after.now c.in-Some-after_word.rest.now c.in-Some.names.items (if_some _ _ _ _ c.in_ok-names.ensures.found c.in-Some.is) c.in-Some-after_word.ensures.found
