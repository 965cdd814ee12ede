use Rattle.std.proofs.Common.{false, ◌∙◌, ap, codes}
use Rattle.serde_json.specs.Data.{Data, Members, put}
use Rattle.serde_json.specs.View.{members_view}
use Rattle.bk_evidence.specs.Json.{inputs_data, items_data, strays_data}
use Rattle.bk_evidence.proofs.json.listed_map.Goals as goal

pub returns : goal.returns
returns c =
    let report = c.args.report.now in
    ((c.in_ok-put-3.ensures.ok ∙ ap (λ (d : Data). put (codes "scripts_for_no_obligation") d (members_view c.put-2.new.map.entries)) (c.in_ok-strays.ensures ∙ ap strays_data c.deref-3.ensures.value)) ∙ ap (λ (ms : Members). put (codes "scripts_for_no_obligation") (strays_data report.strays.items) ms) ((c.in_ok-put-2.ensures.ok ∙ ap (λ (d : Data). put (codes "obligations") d (members_view c.put.new.map.entries)) (c.in_ok-items.ensures ∙ ap (items_data false) c.deref-2.ensures.value)) ∙ ap (λ (ms : Members). put (codes "obligations") (items_data false report.items.items) ms) ((c.in_ok-put.ensures.ok ∙ ap (λ (d : Data). put (codes "inputs") d (members_view c.in_ok-map.map.entries)) (c.in_ok-inputs.ensures ∙ ap inputs_data c.deref.ensures.value)) ∙ ap (λ (ms : Members). put (codes "inputs") (inputs_data report.inputs.items) ms) c.in_ok-map.ensures)))
