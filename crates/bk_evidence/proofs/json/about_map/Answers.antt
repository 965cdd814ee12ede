use Rattle.std.proofs.Common.{◌∙◌, ap, codes}
use Rattle.serde_json.specs.Data.{Members, put, string}
use Rattle.serde_json.specs.View.{members_view}
use Rattle.bk_evidence.specs.Json.{text_data}
use Rattle.bk_evidence.proofs.json.about_map.Goals as goal

pub returns : goal.returns
returns c =
    let report = c.args.report.now in
    (c.in_ok-put_text.ensures ∙ ap (λ (ms : Members). put (codes "machine") (text_data report.machine) ms) (c.in_ok-put_str-2.ensures ∙ ap (λ (ms : Members). put (codes "toolchain") (string report.toolchain.now) ms) (c.in_ok-put_str.ensures ∙ ap (λ (ms : Members). put (codes "version") (string report.version.now) ms) (ap members_view c.new-map.ensures.empty))))
