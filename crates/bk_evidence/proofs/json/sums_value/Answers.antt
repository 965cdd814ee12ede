use Rattle.std.proofs.Common.{◌∙◌, ap, codes}
use Rattle.serde_json.specs.Data.{Members, put}
use Rattle.serde_json.specs.View.{members_view}
use Rattle.bk_evidence.specs.Json.{count_data}
use Rattle.bk_evidence.proofs.Views.{view_object}
use Rattle.bk_evidence.proofs.json.sums_value.Goals as goal

pub returns : goal.returns
returns c =
    let sums = c.args.sums in
    view_object c.put_count-4.new.map _
    (c.in_ok-put_count-4.ensures ∙ ap (λ (ms : Members). put (codes "open") (count_data sums.left) ms) (c.in_ok-put_count-3.ensures ∙ ap (λ (ms : Members). put (codes "proved") (count_data sums.proved) ms) (c.in_ok-put_count-2.ensures ∙ ap (λ (ms : Members). put (codes "obvious") (count_data sums.obvious) ms) (c.in_ok-put_count.ensures ∙ ap (λ (ms : Members). put (codes "obligations") (count_data sums.obligations) ms) (ap members_view c.new-map.ensures.empty)))))
