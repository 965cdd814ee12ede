use Rattle.std.proofs.Common.{◌≡◌, ◌<◌, ◌∙◌, ℕ, List, length, sym, ap, subst}
use Rattle.std.specs.Prelude.{slice_index_or}
use Rattle.bk_form.specs.Formula.{Formula, formula_size}
use Rattle.bk_dev.specs.Development.{Development}
use Rattle.bk_po.proofs.Values.{values_small}
use Rattle.bk_po.proofs.hypotheses.begins.Goals as goal

pub add_values-requires-clause-small : goal.add_values-requires-clause-small
add_values-requires-clause-small c =
    let same : c.deref-2.result.now ≡ c.args.dev.now.values = c.deref-2.ensures.value ∙ (ap (λ (d : Development). d.values) c.written.view_is ∙ ap (λ (d : Development). d.values) c.dev.view_is) in
    subst (λ (vs : List (ℕ × Formula)). (k : ℕ) (d : ℕ × Formula) → k < length vs → formula_size (slice_index_or vs k d).1 ≡ 1) (sym same) (values_small c.args.dev.now c.args.dev.now.values c.facts.ensures.lawful.values)
