use Rattle.std.proofs.Common.{List, ℕ, ◌∙◌, ap, codes, string_bytes}
use Rattle.serde_json.specs.Data.{Members, put, string}
use Rattle.serde_json.specs.View.{members_view}
use Rattle.bk_evidence.specs.Json.{text_data, count_data}
use Rattle.bk_evidence.proofs.Views.{view_object}
use Rattle.bk_evidence.proofs.json.input_value.Goals as goal

pub returns : goal.returns
returns c =
    let input = c.args.input.now in
    view_object c.put_str.new.map _
    ((c.in_ok-put_str.ensures ∙ ap (λ (t : List ℕ). put (codes "sha256") (string t) (members_view c.put_count.new.map.entries)) c.as_str.ensures.value) ∙ ap (λ (ms : Members). put (codes "sha256") (string (string_bytes input.digest)) ms) (c.in_ok-put_count.ensures ∙ ap (λ (ms : Members). put (codes "bytes") (count_data input.length) ms) (c.in_ok-put_text.ensures ∙ ap (λ (ms : Members). put (codes "name") (text_data input.name) ms) (ap members_view c.new-map.ensures.empty))))
