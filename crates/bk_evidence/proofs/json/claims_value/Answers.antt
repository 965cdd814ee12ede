use Rattle.std.proofs.Common.{◌∙◌, ap, codes}
use Rattle.serde_json.specs.Data.{Members, put, string}
use Rattle.serde_json.specs.View.{members_view}
use Rattle.bk_evidence.proofs.Views.{view_object}
use Rattle.bk_evidence.proofs.json.claims_value.Goals as goal

pub returns : goal.returns
returns c =
    let claims = c.args.claims in
    view_object c.put_str-3.new.map _
    (c.in_ok-put_str-3.ensures ∙ ap (λ (ms : Members). put (codes "not_claimed") (string claims.not_claimed.now) ms) (c.in_ok-put_str-2.ensures ∙ ap (λ (ms : Members). put (codes "trusted") (string claims.trusted.now) ms) (c.in_ok-put_str.ensures ∙ ap (λ (ms : Members). put (codes "proved") (string claims.proved.now) ms) (ap members_view c.new-map.ensures.empty))))
