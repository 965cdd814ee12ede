use Rattle.std.proofs.Common.{◌<◌, length, refl, arith}
use Rattle.bk_form.specs.declared.token.TokenKind.TheVariants.{Word}
use Rattle.bk_ops.specs.declared.word.TheConstants.{WHERE, THEN}
use Rattle.bk_raw.specs.Grammar.Spelling.{Names}
use Rattle.bk_raw.specs.Trees.SubTree.{sub_any}
use Rattle.bk_p_expr.proofs.Choices.{if_none, if_some}
use Rattle.bk_p_sub.specs.Found.{Before, FoundBefore}
use Rattle.bk_p_sub.proofs.Openings.{any_opens, any_nothing, any_nothing_behind}
use Rattle.bk_p_sub.proofs.opening.values.Goals as goal

pub returns-in_default-clause-found : goal.returns-in_default-clause-found
returns-in_default-clause-found c calls = any_nothing calls c.args.first.now c.args.tokens.now c.requires (if_none _ _ _ c.in_ok-names.ensures.found c.in_default.is)

pub returns-in_default-2-clause-found : goal.returns-in_default-2-clause-found
returns-in_default-2-clause-found c calls =
    let f : Before Names (Word WHERE) c.args.tokens.now c.in-Some.names.items c.in-Some.behind.now = if_some _ _ _ _ c.in_ok-names.ensures.found c.in-Some.is in
    any_nothing_behind calls c.args.first.now c.args.tokens.now c.in-Some.behind.now c.in-Some.names.items c.requires f (if_none _ _ _ c.in_ok-test.ensures.found c.in_default-2.is)

pub returns-clause-found : goal.returns-clause-found
returns-clause-found c calls =
    let f : Before Names (Word WHERE) c.args.tokens.now c.in-Some.names.items c.in-Some.behind.now = if_some _ _ _ _ c.in_ok-names.ensures.found c.in-Some.is in
    let p : FoundBefore (Word THEN) c.in-Some.behind.now c.in-Some-2.test c.in-Some-2.rest.now = if_some _ _ _ _ c.in_ok-test.ensures.found c.in-Some-2.is in
    let l : length c.in-Some.behind.now < length c.args.tokens.now = if_some _ _ _ _ c.in_ok-names.ensures.shorter c.in-Some.is in
    let m : length c.in-Some-2.rest.now < length c.in-Some.behind.now = if_some _ _ _ _ c.in_ok-test.ensures.shorter c.in-Some-2.is in
    (sub_any c.in-Some.names.items p.0, (p.0, refl, p.2), any_opens calls c.args.first.now c.args.tokens.now c.in-Some.behind.now c.in-Some-2.rest.now c.in-Some.names.items p.0 (omega (arith, l, m)) c.requires f p.1)
