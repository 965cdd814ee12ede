use Rattle.std.proofs.Common.{◌∙◌, ap, codes}
use Rattle.serde_json.specs.Data.{Members, put}
use Rattle.bk_report.specs.Table.{state_text}
use Rattle.bk_evidence.specs.Json.{text_data, script_data}
use Rattle.bk_evidence.proofs.Views.{view_object}
use Rattle.bk_evidence.proofs.json.item_value.Goals as goal

pub returns : goal.returns
returns c =
    let item = c.args.item.now in
    view_object c.put_script.new.map _
    (c.in_ok-put_script.ensures ∙ ap (λ (ms : Members). put (codes "script") (script_data item.script) ms) (c.in_ok-put_state.ensures ∙ ap (λ (ms : Members). put (codes "state") (text_data (state_text item.state)) ms) (c.in_ok-put_text-2.ensures ∙ ap (λ (ms : Members). put (codes "asks") (text_data item.words) ms) (c.in_ok-put_text.ensures ∙ ap (λ (ms : Members). put (codes "name") (text_data item.name) ms) c.in_ok-map.ensures))))
