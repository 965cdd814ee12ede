use Rattle.std.proofs.Common.{◌≡◌, ◌∙◌}
use Rattle.std.specs.Prelude.{Option, slice_get}
use Rattle.std.proofs.lemmas.Result.{IfOk-weaker}
use Rattle.bk_val.specs.ValueType.{ValueType}
use Rattle.bk_elab_terms.specs.Visible.{visible_names, told_at, typing_of}
use Rattle.bk_statics.specs.Ways.{given_by, by_conjuncts}
use Rattle.bk_scope.specs.Shown.{refs}
use Rattle.bk_scope.proofs.Seeing.{conjuncts-told}
use Rattle.bk_scope.proofs.way.Typing.of_conjuncts.Goals as goal

pub returns : goal.returns
returns c =
    let s = c.args.self.now in
    let g = c.args.group.now in
    let told : told_at (slice_get c.deref-3.result.now c.args.place) ≡ given_by s.max (typing_of s.types.now) (by_conjuncts (visible_names g.around.items) (refs g.names.items) c.args.place g.predicate.now) =
    conjuncts-told c.under.result s.max s.types.now g.around.items c.deref-2.result.now g.names.items g.predicate.now c.args.place c.deref-3.result.now c.under.ensures.max c.under.ensures.types (c.under.ensures.names ∙ c.deref.ensures.value) c.deref-2.ensures.value (c.deref-3.ensures.value ∙ c.in_ok-types.ensures) in
    IfOk-weaker c.at.result (λ (t : Option ValueType). t ≡ told_at (slice_get c.deref-3.result.now c.args.place))
    (λ (t : Option ValueType). t ≡ given_by s.max (typing_of s.types.now) (by_conjuncts (visible_names g.around.items) (refs g.names.items) c.args.place g.predicate.now)) (λ t e. e ∙ told) c.at.ensures
