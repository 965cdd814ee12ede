use Rattle.std.proofs.Common.{◌<◌, length}
use Rattle.bk_form.specs.declared.token.TokenKind.TheVariants.{Word}
use Rattle.bk_p_expr.proofs.Choices.{if_none, if_some}
use Rattle.bk_p_sub.specs.Found.{FoundBefore}
use Rattle.bk_p_sub.proofs.Guards.{guard_found, guard_none}
use Rattle.bk_p_sub.proofs.opening.guarded.Goals as goal

pub returns-in_default-clause-found : goal.returns-in_default-clause-found
returns-in_default-clause-found c calls = guard_none calls c.args.guard c.args.first.now c.args.tokens.now c.end.result c.requires c.end.ensures.word (if_none _ _ _ c.in_ok-test.ensures.found c.in_default.is)

pub returns-clause-found : goal.returns-clause-found
returns-clause-found c calls =
    let f : FoundBefore (Word c.end.result) c.args.tokens.now c.in-Some.test c.in-Some.rest.now = if_some _ _ _ _ c.in_ok-test.ensures.found c.in-Some.is in
    let l : length c.in-Some.rest.now < length c.args.tokens.now = if_some _ _ _ _ c.in_ok-test.ensures.shorter c.in-Some.is in
    guard_found calls c.args.guard c.args.first.now c.args.tokens.now c.in-Some.rest.now c.in-Some.test c.end.result c.begins.result c.requires c.end.ensures.word c.begins.ensures l f
