use Rattle.std.proofs.Common.{◌≡◌, ◌↔◌, ◌∙◌, sym, ap, subst, take, List, true}
use Rattle.std.proofs.lemmas.List.{take_all}
use Rattle.bk_val.specs.Value.{MathValue}
use Rattle.bk_val.specs.Sets.{has, set_of, seconds_of, image_of, IsImage}
use Rattle.bk_val.proofs.Relations.{image_of-members}
use Rattle.bk_val.proofs.relation.image.Goals as goal
use Rattle.bk_val.proofs.relation.image.Goals.{After-from_items}

whole : (c : After-from_items) → c.from_items.result ≡ image_of c.args.r.now c.args.s.now
whole c =
    let every : take c.loop-p.p-index c.deref-p-items.result.now ≡ c.args.r.now = take_all _ _ c.loop-p-test.false ∙ c.deref-p-items.ensures.value ∙ c.r.view_is in
    c.from_items.ensures.exact ∙ ap set_of (c.loop-p.invariant ∙ ap (seconds_of (has c.args.s.now)) every)

pub returns-clause-members : goal.returns-clause-members
returns-clause-members c y = subst (λ (t : List MathValue). (has t y ≡ true) ↔ IsImage c.args.r.now c.args.s.now y) (sym (whole c)) (image_of-members c.args.r.now c.args.s.now y)
