use Rattle.std.proofs.Common.{◌≡◌, Some}
use Rattle.bk_raw.specs.Trees.RawTree.{RawTree}
use Rattle.bk_raw.specs.Grammar.Reading.{name}
use Rattle.bk_raw.specs.Grammar.Spelling.{Spells}
use Rattle.bk_p_expr.specs.Fronts.{Longest}
use Rattle.bk_p_expr.specs.Pieces.{IsPiece}
use Rattle.bk_p_expr.proofs.Choices.{if_none, if_some}
use Rattle.bk_p_comp.proofs.Singles.{value_found, value_none, value_none_sign, value_none_term}
use Rattle.bk_p_comp.proofs.entries.value.Goals as goal

pub returns-in_default-clause-found : goal.returns-in_default-clause-found
returns-in_default-clause-found c = value_none c.args.tokens.now (if_none _ _ _ c.in_ok-name.ensures.found c.in_default.is)

pub returns-in_default-after_sign-clause-found : goal.returns-in_default-after_sign-clause-found
returns-in_default-after_sign-clause-found c =
    let n : name c.args.tokens.now ≡ Some (c.in-Some.name, c.in-Some.behind.now) = if_some _ _ _ _ c.in_ok-name.ensures.found c.in-Some.is in
    value_none_sign c.args.tokens.now c.in-Some.behind.now c.in-Some.name n c.in_default-after_sign.ensures.found

pub returns-in_default-2-clause-found : goal.returns-in_default-2-clause-found
returns-in_default-2-clause-found c =
    let n : name c.args.tokens.now ≡ Some (c.in-Some.name, c.in-Some.behind.now) = if_some _ _ _ _ c.in_ok-name.ensures.found c.in-Some.is in
    value_none_term c.args.tokens.now c.in-Some.behind.now c.in-Some-after_sign.behind.now c.in-Some.name n c.in-Some-after_sign.ensures.found (if_none _ _ _ c.in_ok-value.ensures.found c.in_default-2.is)

pub returns-clause-found : goal.returns-clause-found
returns-clause-found c =
    let n : name c.args.tokens.now ≡ Some (c.in-Some.name, c.in-Some.behind.now) = if_some _ _ _ _ c.in_ok-name.ensures.found c.in-Some.is in
    let v : (t : RawTree) × Longest Spells c.in-Some-after_sign.behind.now t c.in-Some-2.rest.now × IsPiece t c.in-Some-2.value = if_some _ _ _ _ c.in_ok-value.ensures.found c.in-Some-2.is in
    (v.0, value_found c.args.tokens.now c.in-Some.behind.now c.in-Some-after_sign.behind.now c.in-Some-2.rest.now c.in-Some.name v.0 n c.in-Some-after_sign.ensures.found v.1, v.2)
