use Rattle.std.proofs.Common.{◌≡◌, Some, refl}
use Rattle.bk_ops.specs.declared.sign.TheConstants.{CLOSE_BRACE, OPEN_BRACE}
use Rattle.bk_raw.specs.Grammar.Reading.{name}
use Rattle.bk_raw.specs.Grammar.Spelling.{Names}
use Rattle.bk_p_expr.specs.Fronts.{Longest}
use Rattle.bk_p_expr.proofs.Choices.{if_none, if_some}
use Rattle.bk_p_comp.proofs.Singles.{between_found, between_none, between_none_inside, between_none_last, set_found, set_none, set_none_behind, set_none_sign}
use Rattle.bk_p_comp.proofs.entries.set.Goals as goal

pub returns-in_default-clause-found : goal.returns-in_default-clause-found
returns-in_default-clause-found c = set_none c.args.tokens.now (if_none _ _ _ c.in_ok-name.ensures.found c.in_default.is)

pub returns-in_default-after_sign-clause-found : goal.returns-in_default-after_sign-clause-found
returns-in_default-after_sign-clause-found c =
    let n : name c.args.tokens.now ≡ Some (c.in-Some.name, c.in-Some.behind.now) = if_some _ _ _ _ c.in_ok-name.ensures.found c.in-Some.is in
    set_none_sign c.args.tokens.now c.in-Some.behind.now c.in-Some.name n c.in_default-after_sign.ensures.found

pub returns-in_default-after_sign-2-clause-found : goal.returns-in_default-after_sign-2-clause-found
returns-in_default-after_sign-2-clause-found c =
    let n : name c.args.tokens.now ≡ Some (c.in-Some.name, c.in-Some.behind.now) = if_some _ _ _ _ c.in_ok-name.ensures.found c.in-Some.is in
    set_none_behind c.args.tokens.now c.in-Some.behind.now c.in-Some-after_sign.behind.now c.in-Some.name n c.in-Some-after_sign.ensures.found (between_none OPEN_BRACE CLOSE_BRACE c.in-Some-after_sign.behind.now c.in_default-after_sign-2.ensures.found)

pub returns-in_default-2-clause-found : goal.returns-in_default-2-clause-found
returns-in_default-2-clause-found c =
    let n : name c.args.tokens.now ≡ Some (c.in-Some.name, c.in-Some.behind.now) = if_some _ _ _ _ c.in_ok-name.ensures.found c.in-Some.is in
    set_none_behind c.args.tokens.now c.in-Some.behind.now c.in-Some-after_sign.behind.now c.in-Some.name n c.in-Some-after_sign.ensures.found (between_none_inside OPEN_BRACE CLOSE_BRACE c.in-Some-after_sign.behind.now c.in-Some-after_sign-2.behind.now c.in-Some-after_sign-2.ensures.found (if_none _ _ _ c.in_ok-elements.ensures.found c.in_default-2.is))

pub returns-in_default-after_sign-3-clause-found : goal.returns-in_default-after_sign-3-clause-found
returns-in_default-after_sign-3-clause-found c =
    let n : name c.args.tokens.now ≡ Some (c.in-Some.name, c.in-Some.behind.now) = if_some _ _ _ _ c.in_ok-name.ensures.found c.in-Some.is in
    let e : Longest Names c.in-Some-after_sign-2.behind.now c.in-Some-2.elements.items c.in-Some-2.behind.now = if_some _ _ _ _ c.in_ok-elements.ensures.found c.in-Some-2.is in
    set_none_behind c.args.tokens.now c.in-Some.behind.now c.in-Some-after_sign.behind.now c.in-Some.name n c.in-Some-after_sign.ensures.found (between_none_last OPEN_BRACE CLOSE_BRACE refl c.in-Some-after_sign.behind.now c.in-Some-after_sign-2.behind.now c.in-Some-2.behind.now c.in-Some-2.elements.items c.in-Some-after_sign-2.ensures.found e c.in_default-after_sign-3.ensures.found)

pub returns-clause-found : goal.returns-clause-found
returns-clause-found c =
    let n : name c.args.tokens.now ≡ Some (c.in-Some.name, c.in-Some.behind.now) = if_some _ _ _ _ c.in_ok-name.ensures.found c.in-Some.is in
    let e : Longest Names c.in-Some-after_sign-2.behind.now c.in-Some-2.elements.items c.in-Some-2.behind.now = if_some _ _ _ _ c.in_ok-elements.ensures.found c.in-Some-2.is in
    set_found c.args.tokens.now c.in-Some.behind.now c.in-Some-after_sign.behind.now c.in-Some-after_sign-3.rest.now c.in-Some.name c.in-Some-2.elements.items n c.in-Some-after_sign.ensures.found (between_found OPEN_BRACE CLOSE_BRACE refl c.in-Some-after_sign.behind.now c.in-Some-after_sign-2.behind.now c.in-Some-2.behind.now c.in-Some-after_sign-3.rest.now c.in-Some-2.elements.items c.in-Some-after_sign-2.ensures.found e c.in-Some-after_sign-3.ensures.found)
