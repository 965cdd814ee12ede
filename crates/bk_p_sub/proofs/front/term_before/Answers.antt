use Rattle.bk_form.specs.declared.token.TokenKind.TheVariants.{Word}
use Rattle.bk_raw.specs.Trees.RawTree.{RawTree}
use Rattle.bk_raw.specs.Grammar.Spelling.{Spells}
use Rattle.bk_p_expr.specs.Fronts.{Longest}
use Rattle.bk_p_expr.proofs.Choices.{if_none, if_some}
use Rattle.bk_p_sub.specs.Statements.{IsTerm}
use Rattle.bk_p_sub.proofs.Fronts.{before_there, term_not_before}
use Rattle.bk_p_sub.proofs.Openings.{none_before}
use Rattle.bk_p_sub.proofs.front.term_before.Goals as goal

pub returns-in_default-clause-found : goal.returns-in_default-clause-found
returns-in_default-clause-found c = none_before Spells (Word c.args.op) c.args.tokens.now (if_none _ _ _ c.in_ok-term.ensures.found c.in_default.is)

pub returns-in_default-after_word-clause-found : goal.returns-in_default-after_word-clause-found
returns-in_default-after_word-clause-found c =
    let f : (t : RawTree) × Longest Spells c.args.tokens.now t c.in-Some.after.now × IsTerm t c.in-Some.term = if_some _ _ _ _ c.in_ok-term.ensures.found c.in-Some.is in
    term_not_before c.args.op c.args.tokens.now c.in-Some.after.now f.0 c.requires f.1 c.in_default-after_word.ensures.found

pub returns-clause-found : goal.returns-clause-found
returns-clause-found c =
    let f : (t : RawTree) × Longest Spells c.args.tokens.now t c.in-Some.after.now × IsTerm t c.in-Some.term = if_some _ _ _ _ c.in_ok-term.ensures.found c.in-Some.is in
    (f.0, before_there Spells (Word c.args.op) c.args.tokens.now c.in-Some.after.now c.in-Some-after_word.rest.now f.0 f.1 c.in-Some-after_word.ensures.found, f.2)
