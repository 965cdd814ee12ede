use Rattle.bk_raw.specs.Grammar.Spelling.{Names}
use Rattle.bk_p_expr.specs.Fronts.{Longest}
use Rattle.bk_p_expr.proofs.Choices.{if_none, if_some}
use Rattle.bk_p_comp.proofs.Singles.{outputs_found, outputs_none}
use Rattle.bk_p_comp.proofs.entries.outputs.Goals as goal

pub returns-in_default-clause-found : goal.returns-in_default-clause-found
returns-in_default-clause-found c = if_none _ _ _ c.in_ok-outputs.ensures.found c.in_default.is

pub returns-in_default-after_sign-clause-found : goal.returns-in_default-after_sign-clause-found
returns-in_default-after_sign-clause-found c =
    let n : Longest Names c.args.tokens.now c.in-Some.outputs.items c.in-Some.behind.now = if_some _ _ _ _ c.in_ok-outputs.ensures.found c.in-Some.is in
    outputs_none c.args.tokens.now c.in-Some.behind.now c.in-Some.outputs.items c.new.result.items n c.in_default-after_sign.ensures.found c.new.ensures.items

pub returns-clause-found : goal.returns-clause-found
returns-clause-found c =
    let n : Longest Names c.args.tokens.now c.in-Some.outputs.items c.in-Some.behind.now = if_some _ _ _ _ c.in_ok-outputs.ensures.found c.in-Some.is in
    outputs_found c.args.tokens.now c.in-Some.behind.now c.in-Some-after_sign.rest.now c.in-Some.outputs.items n c.in-Some-after_sign.ensures.found
