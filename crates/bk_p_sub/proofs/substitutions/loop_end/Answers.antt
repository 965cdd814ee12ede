use Rattle.bk_form.specs.declared.token.TokenKind.TheVariants.{Word}
use Rattle.bk_ops.specs.declared.word.TheConstants.{VARIANT, END}
use Rattle.bk_p_expr.proofs.Choices.{if_none, if_some}
use Rattle.bk_p_sub.specs.Found.{FoundBefore}
use Rattle.bk_p_sub.proofs.Blocks.{loop_end_found, loop_end_none, loop_end_none_invariant, loop_end_none_variant}
use Rattle.bk_p_sub.proofs.substitutions.loop_end.Goals as goal

pub returns-in_default-clause-found : goal.returns-in_default-clause-found
returns-in_default-clause-found c = loop_end_none c.args.tokens.now c.in_default.ensures.found

pub returns-in_default-2-clause-found : goal.returns-in_default-2-clause-found
returns-in_default-2-clause-found c = loop_end_none_invariant c.args.tokens.now c.in-Some.behind.now c.in-Some.ensures.found (if_none _ _ _ c.in_ok-invariant.ensures.found c.in_default-2.is)

pub returns-in_default-3-clause-found : goal.returns-in_default-3-clause-found
returns-in_default-3-clause-found c =
    let i : FoundBefore (Word VARIANT) c.in-Some.behind.now c.in-Some-2.invariant c.in-Some-2.behind.now = if_some _ _ _ _ c.in_ok-invariant.ensures.found c.in-Some-2.is in
    loop_end_none_variant c.args.tokens.now c.in-Some.behind.now c.in-Some-2.behind.now c.in-Some-2.invariant c.in-Some.ensures.found i (if_none _ _ _ c.in_ok-variant.ensures.found c.in_default-3.is)

pub returns-clause-found : goal.returns-clause-found
returns-clause-found c =
    let i : FoundBefore (Word VARIANT) c.in-Some.behind.now c.in-Some-2.invariant c.in-Some-2.behind.now = if_some _ _ _ _ c.in_ok-invariant.ensures.found c.in-Some-2.is in
    let v : FoundBefore (Word END) c.in-Some-2.behind.now c.in-Some-3.variant c.in-Some-3.rest.now = if_some _ _ _ _ c.in_ok-variant.ensures.found c.in-Some-3.is in
    loop_end_found c.args.tokens.now c.in-Some.behind.now c.in-Some-2.behind.now c.in-Some-3.rest.now c.in-Some-2.invariant c.in-Some-3.variant c.in-Some.ensures.found i v
