use Rattle.std.proofs.Common.{false, cond, map, [], ◌∷◌, ◌++◌, sym, ◌∙◌, ap}
use Rattle.std.specs.Prelude.{Bool}
use Rattle.serde_json.specs.View.{view}
use Rattle.bk_evidence.specs.Json.{item_data}
use Rattle.bk_evidence.proofs.Views.{view_more}
use Rattle.bk_evidence.proofs.json.push_if_asked.Goals as goal

pub returns : goal.returns
returns c =
    let old = c.args.list.now.items in
    let one = item_data c.args.item.now in
    view_more c.push.new.self.items old c.in_ok-item_value.field-0 one c.in_ok-push.ensures.items c.in_ok-item_value.ensures
    ∙ ap (λ (b : Bool). map view old ++ cond b [] (one ∷ [])) (sym (sym c.is_left_out.ensures ∙ c.if-is_left_out.false))
