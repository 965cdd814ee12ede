use Rattle.std.proofs.Common.{◌<◌, length, refl, arith, subst}
use Rattle.bk_form.specs.declared.token.TokenKind.TheVariants.{Word}
use Rattle.bk_ops.specs.declared.word.TheConstants.{BE, IN}
use Rattle.bk_raw.specs.Trees.FreeNames.{Defines}
use Rattle.bk_raw.specs.Grammar.Spelling.{Names}
use Rattle.bk_raw.specs.Trees.SubTree.{sub_let}
use Rattle.bk_p_expr.proofs.Choices.{if_none, if_some}
use Rattle.bk_p_sub.specs.Found.{Before, FoundBefore}
use Rattle.bk_p_sub.proofs.Openings.{let_opens, let_nothing, let_nothing_behind, let_not_defining}
use Rattle.bk_p_sub.proofs.opening.definitions.Goals as goal

pub returns-in_default-clause-found : goal.returns-in_default-clause-found
returns-in_default-clause-found c calls = let_nothing calls c.args.first.now c.args.tokens.now c.requires (if_none _ _ _ c.in_ok-names.ensures.found c.in_default.is)

pub returns-in_default-2-clause-found : goal.returns-in_default-2-clause-found
returns-in_default-2-clause-found c calls =
    let f : Before Names (Word BE) c.args.tokens.now c.in-Some.names.items c.in-Some.behind.now = if_some _ _ _ _ c.in_ok-names.ensures.found c.in-Some.is in
    let_nothing_behind calls c.args.first.now c.args.tokens.now c.in-Some.behind.now c.in-Some.names.items c.requires f (if_none _ _ _ c.in_ok-test.ensures.found c.in_default-2.is)

pub returns-then-not-defined-clause-found : goal.returns-then-not-defined-clause-found
returns-then-not-defined-clause-found c calls =
    let f : Before Names (Word BE) c.args.tokens.now c.in-Some.names.items c.in-Some.behind.now = if_some _ _ _ _ c.in_ok-names.ensures.found c.in-Some.is in
    let p : FoundBefore (Word IN) c.in-Some.behind.now c.in-Some-2.test c.in-Some-2.rest.now = if_some _ _ _ _ c.in_ok-test.ensures.found c.in-Some-2.is in
    let_not_defining calls c.args.first.now c.args.tokens.now c.in-Some.behind.now c.in-Some-2.rest.now c.in-Some.names.items p.0 c.requires f p.1 (subst (λ xs. Defines xs p.0 → ⊥) c.deref.ensures.value (c.in_ok-defined.ensures.not_defining p.0 p.2 c.if-not-defined.true))

pub returns-clause-found : goal.returns-clause-found
returns-clause-found c calls =
    let f : Before Names (Word BE) c.args.tokens.now c.in-Some.names.items c.in-Some.behind.now = if_some _ _ _ _ c.in_ok-names.ensures.found c.in-Some.is in
    let p : FoundBefore (Word IN) c.in-Some.behind.now c.in-Some-2.test c.in-Some-2.rest.now = if_some _ _ _ _ c.in_ok-test.ensures.found c.in-Some-2.is in
    let l : length c.in-Some.behind.now < length c.args.tokens.now = if_some _ _ _ _ c.in_ok-names.ensures.shorter c.in-Some.is in
    let m : length c.in-Some-2.rest.now < length c.in-Some.behind.now = if_some _ _ _ _ c.in_ok-test.ensures.shorter c.in-Some-2.is in
    let d : Defines c.in-Some.names.items p.0 = subst (λ xs. Defines xs p.0) c.deref.ensures.value (c.in_ok-defined.ensures.defining p.0 p.2 c.if-not-defined.false) in
    (sub_let c.in-Some.names.items p.0, (p.0, refl, p.2), let_opens calls c.args.first.now c.args.tokens.now c.in-Some.behind.now c.in-Some-2.rest.now c.in-Some.names.items p.0 (omega (arith, l, m)) c.requires f p.1 d)
