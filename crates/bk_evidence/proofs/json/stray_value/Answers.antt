use Rattle.std.proofs.Common.{◌∙◌, ap, codes}
use Rattle.serde_json.specs.Data.{Data, Members, put}
use Rattle.serde_json.specs.View.{members_view}
use Rattle.bk_evidence.specs.Json.{text_data, nearest_data}
use Rattle.bk_evidence.proofs.Views.{view_object}
use Rattle.bk_evidence.proofs.json.stray_value.Goals as goal

pub returns : goal.returns
returns c =
    let stray = c.args.stray.now in
    view_object c.put.new.map _
    ((c.in_ok-put.ensures.ok ∙ ap (λ (d : Data). put (codes "nearest") d (members_view c.put_text.new.map.entries)) c.in_ok-nearest.ensures)
    ∙ ap (λ (ms : Members). put (codes "nearest") (nearest_data stray.nearest) ms) (c.in_ok-put_text.ensures ∙ ap (λ (ms : Members). put (codes "name") (text_data stray.name) ms) (ap members_view c.new-map.ensures.empty)))
