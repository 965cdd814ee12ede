use Rattle.std.proofs.Common.{List, ◌++◌, ◌∙◌, ap}
use Rattle.bk_evidence.specs.declared.report.Input.{Input}
use Rattle.bk_evidence.specs.declared.report.Stray.{Stray}
use Rattle.bk_evidence.specs.Html.{strays_part, inputs_part, tool_part, claims_part}
use Rattle.bk_evidence.proofs.Pieces.{four_pieces}
use Rattle.bk_evidence.proofs.html.write_about.Goals as goal

pub returns : goal.returns
returns c =
    let report = c.args.report.now in
    four_pieces c.args.page.now.items c.write_strays.new.page.items c.write_inputs.new.page.items c.write_tool.new.page.items c.write_claims.new.page.items
    (strays_part report.strays.items) (inputs_part report.inputs.items) (tool_part report) (claims_part report.claims)
    (c.in_ok-write_strays.ensures ∙ ap (λ (strays : List Stray). c.args.page.now.items ++ strays_part strays) c.deref.ensures.value)
    (c.in_ok-write_inputs.ensures ∙ ap (λ (inputs : List Input). c.write_strays.new.page.items ++ inputs_part inputs) c.deref-2.ensures.value)
    c.in_ok-write_tool.ensures c.in_ok-write_claims.ensures
