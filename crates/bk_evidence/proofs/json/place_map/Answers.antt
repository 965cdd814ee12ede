use Rattle.std.proofs.Common.{◌∙◌, ap, codes}
use Rattle.serde_json.specs.Data.{Members, put}
use Rattle.serde_json.specs.View.{members_view}
use Rattle.bk_evidence.specs.Json.{text_data, count_data}
use Rattle.bk_evidence.proofs.json.place_map.Goals as goal

pub returns : goal.returns
returns c =
    let item = c.args.item.now in
    (c.in_ok-put_count-2.ensures ∙ ap (λ (ms : Members). put (codes "column") (count_data item.column) ms) (c.in_ok-put_count.ensures ∙ ap (λ (ms : Members). put (codes "line") (count_data item.line) ms) (c.in_ok-put_text.ensures ∙ ap (λ (ms : Members). put (codes "file") (text_data item.file) ms) (ap members_view c.new-map.ensures.empty))))
