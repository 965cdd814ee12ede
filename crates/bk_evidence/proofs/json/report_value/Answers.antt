use Rattle.std.proofs.Common.{◌∙◌, ap, codes}
use Rattle.serde_json.specs.Data.{Data, Members, put}
use Rattle.serde_json.specs.View.{members_view}
use Rattle.bk_evidence.specs.declared.sums.Sums.{Sums}
use Rattle.bk_evidence.specs.Items.{sums_over}
use Rattle.bk_evidence.specs.Json.{sums_data, kinds_data, claims_data}
use Rattle.bk_evidence.proofs.Views.{view_object}
use Rattle.bk_evidence.proofs.json.report_value.Goals as goal

pub returns : goal.returns
returns c =
    let report = c.args.report.now in
    view_object c.put-2.new.map _
    ((c.in_ok-put-2.ensures.ok ∙ ap (λ (d : Data). put (codes "claims") d (members_view c.put.new.map.entries)) c.in_ok-claims.ensures) ∙ ap (λ (ms : Members). put (codes "claims") (claims_data report.claims) ms) ((c.in_ok-put.ensures.ok ∙ ap (λ (d : Data). put (codes "sums_by_kind") d (members_view c.put_sums.new.map.entries)) (c.in_ok-kinds.ensures ∙ ap kinds_data c.deref-2.ensures.value)) ∙ ap (λ (ms : Members). put (codes "sums_by_kind") (kinds_data report.items.items) ms) ((c.in_ok-put_sums.ensures ∙ ap (λ (s : Sums). put (codes "sums") (sums_data s) (members_view c.in_ok-map.map.entries)) (c.sums_of.ensures ∙ ap sums_over c.deref.ensures.value)) ∙ ap (λ (ms : Members). put (codes "sums") (sums_data (sums_over report.items.items)) ms) c.in_ok-map.ensures)))
