use Rattle.std.proofs.Common.{◌∙◌, ap, codes}
use Rattle.serde_json.specs.Data.{Data, Members, put}
use Rattle.serde_json.specs.View.{members_view}
use Rattle.bk_evidence.specs.Json.{items_data, strays_data}
use Rattle.bk_evidence.proofs.Views.{view_object}
use Rattle.bk_evidence.proofs.json.list_value.Goals as goal

pub returns : goal.returns
returns c =
    view_object c.put-2.new.map _
    ((c.in_ok-put-2.ensures.ok ∙ ap (λ (d : Data). put (codes "scripts_for_no_obligation") d (members_view c.put.new.map.entries)) c.in_ok-strays.ensures)
    ∙ ap (λ (ms : Members). put (codes "scripts_for_no_obligation") (strays_data c.args.strays.now) ms)
    ((c.in_ok-put.ensures.ok ∙ ap (λ (d : Data). put (codes "obligations") d (members_view c.new-map.result.entries)) c.in_ok-items.ensures)
    ∙ ap (λ (ms : Members). put (codes "obligations") (items_data c.args.is_open_only c.args.items.now) ms) (ap members_view c.new-map.ensures.empty)))
