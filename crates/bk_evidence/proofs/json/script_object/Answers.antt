use Rattle.std.proofs.Common.{◌∙◌, ap, codes}
use Rattle.serde_json.specs.Data.{Members, put}
use Rattle.serde_json.specs.View.{members_view}
use Rattle.bk_evidence.specs.Json.{text_data, count_data}
use Rattle.bk_evidence.proofs.Views.{view_object}
use Rattle.bk_evidence.proofs.json.script_object.Goals as goal

pub returns : goal.returns
returns c =
    let script = c.args.script.now in
    view_object c.put_text.new.map _
    (c.in_ok-put_text.ensures ∙ ap (λ (ms : Members). put (codes "place") (text_data script.place) ms) (c.in_ok-put_count.ensures ∙ ap (λ (ms : Members). put (codes "rules") (count_data script.rules) ms) (ap members_view c.new-map.ensures.empty)))
