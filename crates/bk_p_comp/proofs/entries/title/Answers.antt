use Rattle.std.proofs.Common.{◌≡◌, Some}
use Rattle.bk_raw.specs.Grammar.Reading.{name}
use Rattle.bk_p_expr.proofs.Choices.{if_none, if_some}
use Rattle.bk_p_comp.specs.Entries.{IsInputs, IsOutputs}
use Rattle.bk_p_comp.proofs.Singles.{operation_none, operation_none_inputs, operation_none_name, title_left}
use Rattle.bk_p_comp.proofs.entries.title.Goals as goal

pub returns-in_default-clause-found : goal.returns-in_default-clause-found
returns-in_default-clause-found c = operation_none c.args.tokens.now (if_none _ _ _ c.in_ok-outputs.ensures.found c.in_default.is)

pub returns-in_default-2-clause-found : goal.returns-in_default-2-clause-found
returns-in_default-2-clause-found c =
    let o : IsOutputs c.args.tokens.now c.in-Some.outputs.items c.in-Some.behind.now = if_some _ _ _ _ c.in_ok-outputs.ensures.found c.in-Some.is in
    operation_none_name c.args.tokens.now c.in-Some.behind.now c.in-Some.outputs.items o (if_none _ _ _ c.in_ok-name.ensures.found c.in_default-2.is)

pub returns-in_default-3-clause-found : goal.returns-in_default-3-clause-found
returns-in_default-3-clause-found c =
    let o : IsOutputs c.args.tokens.now c.in-Some.outputs.items c.in-Some.behind.now = if_some _ _ _ _ c.in_ok-outputs.ensures.found c.in-Some.is in
    let n : name c.in-Some.behind.now ≡ Some (c.in-Some-2.name, c.in-Some-2.behind.now) = if_some _ _ _ _ c.in_ok-name.ensures.found c.in-Some-2.is in
    operation_none_inputs c.args.tokens.now c.in-Some.behind.now c.in-Some-2.behind.now c.in-Some.outputs.items c.in-Some-2.name o n (if_none _ _ _ c.in_ok-inputs.ensures.found c.in_default-3.is)

pub returns-clause-found : goal.returns-clause-found
returns-clause-found c =
    let o : IsOutputs c.args.tokens.now c.in-Some.outputs.items c.in-Some.behind.now = if_some _ _ _ _ c.in_ok-outputs.ensures.found c.in-Some.is in
    let n : name c.in-Some.behind.now ≡ Some (c.in-Some-2.name, c.in-Some-2.behind.now) = if_some _ _ _ _ c.in_ok-name.ensures.found c.in-Some-2.is in
    let i : IsInputs c.in-Some-2.behind.now c.in-Some-3.inputs.items c.in-Some-3.rest.now = if_some _ _ _ _ c.in_ok-inputs.ensures.found c.in-Some-3.is in
    title_left c.args.tokens.now c.in-Some.behind.now c.in-Some-2.behind.now c.in-Some-3.rest.now c.in-Some.outputs.items c.in-Some-3.inputs.items c.in-Some-2.name o n i
