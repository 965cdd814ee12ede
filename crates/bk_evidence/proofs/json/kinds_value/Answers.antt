use Rattle.std.proofs.Common.{◌∙◌, ap, codes}
use Rattle.serde_json.specs.Data.{Members, put}
use Rattle.serde_json.specs.View.{members_view}
use Rattle.bk_evidence.specs.declared.sums.Sums.{Sums}
use Rattle.bk_evidence.specs.Items.{sums_with}
use Rattle.bk_evidence.specs.Json.{sums_data}
use Rattle.bk_origins.specs.declared.concern.Concern.TheVariants.{Initialisation, Operation, Assertion, Values, Definedness, Other}
use Rattle.bk_evidence.proofs.Views.{view_object}
use Rattle.bk_evidence.proofs.json.kinds_value.Goals as goal

pub returns : goal.returns
returns c =
    let items = c.args.items.now in
    view_object c.put_sums-6.new.map _
    ((c.in_ok-put_sums-6.ensures ∙ ap (λ (s : Sums). put (codes "others") (sums_data s) (members_view c.put_sums-5.new.map.entries)) c.sums_with-6.ensures) ∙ ap (λ (ms : Members). put (codes "others") (sums_data (sums_with Other items)) ms) ((c.in_ok-put_sums-5.ensures ∙ ap (λ (s : Sums). put (codes "definedness") (sums_data s) (members_view c.put_sums-4.new.map.entries)) c.sums_with-5.ensures) ∙ ap (λ (ms : Members). put (codes "definedness") (sums_data (sums_with Definedness items)) ms) ((c.in_ok-put_sums-4.ensures ∙ ap (λ (s : Sums). put (codes "values") (sums_data s) (members_view c.put_sums-3.new.map.entries)) c.sums_with-4.ensures) ∙ ap (λ (ms : Members). put (codes "values") (sums_data (sums_with Values items)) ms) ((c.in_ok-put_sums-3.ensures ∙ ap (λ (s : Sums). put (codes "assertions") (sums_data s) (members_view c.put_sums-2.new.map.entries)) c.sums_with-3.ensures) ∙ ap (λ (ms : Members). put (codes "assertions") (sums_data (sums_with Assertion items)) ms) ((c.in_ok-put_sums-2.ensures ∙ ap (λ (s : Sums). put (codes "operations") (sums_data s) (members_view c.put_sums.new.map.entries)) c.sums_with-2.ensures) ∙ ap (λ (ms : Members). put (codes "operations") (sums_data (sums_with Operation items)) ms) ((c.in_ok-put_sums.ensures ∙ ap (λ (s : Sums). put (codes "initialisation") (sums_data s) (members_view c.new-map.result.entries)) c.sums_with.ensures) ∙ ap (λ (ms : Members). put (codes "initialisation") (sums_data (sums_with Initialisation items)) ms) (ap members_view c.new-map.ensures.empty)))))))
