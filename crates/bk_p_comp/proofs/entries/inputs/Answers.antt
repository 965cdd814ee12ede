use Rattle.std.proofs.Common.{refl}
use Rattle.bk_ops.specs.declared.sign.TheConstants.{CLOSE_PAREN, OPEN_PAREN}
use Rattle.bk_raw.specs.Grammar.Spelling.{Names}
use Rattle.bk_p_expr.specs.Fronts.{Longest}
use Rattle.bk_p_expr.proofs.Choices.{if_none, if_some}
use Rattle.bk_p_comp.proofs.Singles.{between_none_inside, between_none_last, inputs_fail, inputs_found, inputs_none}
use Rattle.bk_p_comp.proofs.entries.inputs.Goals as goal

pub returns-in_default-clause-found : goal.returns-in_default-clause-found
returns-in_default-clause-found c = inputs_none c.args.tokens.now c.new.result.items c.in_default.ensures.found c.new.ensures.items

pub returns-in_default-2-clause-found : goal.returns-in_default-2-clause-found
returns-in_default-2-clause-found c = inputs_fail c.args.tokens.now c.in-Some.inside.now c.in-Some.ensures.found (between_none_inside OPEN_PAREN CLOSE_PAREN c.args.tokens.now c.in-Some.inside.now c.in-Some.ensures.found (if_none _ _ _ c.in_ok-inputs.ensures.found c.in_default-2.is))

pub returns-in_default-after_sign-clause-found : goal.returns-in_default-after_sign-clause-found
returns-in_default-after_sign-clause-found c =
    let n : Longest Names c.in-Some.inside.now c.in-Some-2.inputs.items c.in-Some-2.behind.now = if_some _ _ _ _ c.in_ok-inputs.ensures.found c.in-Some-2.is in
    inputs_fail c.args.tokens.now c.in-Some.inside.now c.in-Some.ensures.found (between_none_last OPEN_PAREN CLOSE_PAREN refl c.args.tokens.now c.in-Some.inside.now c.in-Some-2.behind.now c.in-Some-2.inputs.items c.in-Some.ensures.found n c.in_default-after_sign.ensures.found)

pub returns-clause-found : goal.returns-clause-found
returns-clause-found c =
    let n : Longest Names c.in-Some.inside.now c.in-Some-2.inputs.items c.in-Some-2.behind.now = if_some _ _ _ _ c.in_ok-inputs.ensures.found c.in-Some-2.is in
    inputs_found c.args.tokens.now c.in-Some.inside.now c.in-Some-2.behind.now c.in-Some-after_sign.rest.now c.in-Some-2.inputs.items c.in-Some.ensures.found n c.in-Some-after_sign.ensures.found
