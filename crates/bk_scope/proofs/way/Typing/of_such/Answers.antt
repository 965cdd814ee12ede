use Rattle.std.proofs.Common.{◌≡◌, ◌∙◌, refl, ap, ℕ, List, [], ◌∷◌}
use Rattle.std.specs.Prelude.{Option, slice_get}
use Rattle.std.specs.Borrow.{Bor}
use Rattle.std.proofs.lemmas.Result.{IfOk-weaker}
use Rattle.bk_val.specs.ValueType.{ValueType}
use Rattle.bk_form.specs.Role.{bind}
use Rattle.bk_raw.specs.declared.term.RawName.{RawName}
use Rattle.bk_raw.specs.Meaning.Names.{Names}
use Rattle.bk_elab_terms.specs.declared.sight.Visible.{Visible}
use Rattle.bk_elab_terms.specs.Visible.{visible_names, told_at, typing_of}
use Rattle.bk_statics.specs.Binders.{old_texts}
use Rattle.bk_statics.specs.Typings.{numbered_old}
use Rattle.bk_statics.specs.Ways.{given_by, by_conjuncts}
use Rattle.bk_scope.specs.Shown.{numbered_texts, such_shown}
use Rattle.bk_scope.proofs.Seeing.{conjuncts-told, numbered-old}
use Rattle.bk_scope.proofs.way.Typing.of_such.Goals as goal

pub returns : goal.returns
returns c =
    let s = c.args.self.now in
    let such = c.args.such.now in
    let xs : List (Bor RawName) = c.args.name ∷ [] in
    let around = visible_names such.around.value.items in
    let sight : visible_names c.in_ok-names.names.items ≡ bind (numbered_old such.first such.names.now) around =
    c.in_ok-names.ensures
    ∙ ap (λ (ts : List (List ℕ)). bind (numbered_texts such.first ts) (visible_names c.deref-3.result.now)) (c.deref.ensures.value ∙ c.in_ok-texts.ensures)
    ∙ ap (λ (vs : List Visible). bind (numbered_texts such.first (old_texts such.names.now)) (visible_names vs)) (c.deref-3.ensures.value ∙ ap (λ v. v.items) c.deref-2.ensures)
    ∙ ap (λ (ns : Names). bind ns around) (numbered-old such.first such.names.now) in
    let told : told_at (slice_get c.deref-5.result.now 0) ≡ given_by s.max (typing_of s.types.now) (such_shown such c.args.name.now) =
    conjuncts-told c.under.result s.max s.types.now c.in_ok-names.names.items xs xs such.predicate.now 0 c.deref-5.result.now c.under.ensures.max c.under.ensures.types (c.under.ensures.names ∙ c.deref-4.ensures.value) refl (c.deref-5.ensures.value ∙ c.in_ok-types.ensures)
    ∙ ap (λ (ns : Names). given_by s.max (typing_of s.types.now) (by_conjuncts ns (c.args.name.now ∷ []) 0 such.predicate.now)) sight in
    IfOk-weaker c.at.result (λ (t : Option ValueType). t ≡ told_at (slice_get c.deref-5.result.now 0)) (λ (t : Option ValueType). t ≡ given_by s.max (typing_of s.types.now) (such_shown such c.args.name.now)) (λ t e. e ∙ told) c.at.ensures
