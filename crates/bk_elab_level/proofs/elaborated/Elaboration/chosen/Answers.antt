use Rattle.std.proofs.Common.{◌≡◌, ap, ◌∙◌}
use Rattle.std.specs.Prelude.{Option}
use Rattle.std.proofs.lemmas.Result.{IfOk-weaker}
use Rattle.bk_val.specs.ValueType.{ValueType}
use Rattle.bk_form.specs.Formula.{Formula}
use Rattle.bk_gsl.specs.Substitution.{Substitution}
use Rattle.bk_elab_terms.specs.Visible.{visible_names}
use Rattle.bk_statics.specs.Elaborated.{chosen_in}
use Rattle.bk_statics.specs.Typings.{target, number_of, type_at}
use Rattle.bk_elab_level.specs.Read.{types_by, chosen_by}
use Rattle.bk_scope.proofs.TermsSeen.{domain-given}
use Rattle.bk_elab_level.proofs.elaborated.Elaboration.chosen.Goals as goal

pub returns : goal.returns
returns c =
    let e = c.args.self.now in
    let t = e.typing in
    let x = target (visible_names e.names.now) c.args.name.now.text in
    let read : Option (Formula × ValueType) → Substitution = λ d. chosen_in (types_by e) (number_of x) (type_at (types_by e) x) e.first d in
    IfOk-weaker c.chosen_in.result (λ (s : Substitution). s ≡ read c.in_ok-asked.asked.answer) (λ (s : Substitution). s ≡ chosen_by e c.args.name.now c.args.domain.now)
    (λ s h. h ∙ ap read (domain-given c.under.result t.max t.types.now e.names.now c.args.domain.now c.in_ok-asked.asked.answer c.under.ensures.max c.under.ensures.names c.under.ensures.types c.in_ok-asked.ensures.same))
    c.chosen_in.ensures
