use Rattle.std.proofs.Common.{◌≡◌, ℕ, map, IfOk, ap, ◌∙◌, subst}
use Rattle.bk_bind.specs.Closing.{closed_over_each}
use Rattle.bk_gsl.specs.State.{firsts}
use Rattle.bk_wp.proofs.Olds.{renamed_pairs}
use Rattle.bk_wp.proofs.quantifiers.new_values.Goals as goal

pub returns : goal.returns
returns c =
    let pairs = c.args.pairs.now in
    let others : c.deref-2.result.now ≡ map (λ (p : ℕ × ℕ). (p.1, p.0)) pairs = c.deref-2.ensures.value ∙ c.in_ok-swapped.ensures in
    let variables : c.deref.result.now ≡ firsts pairs = c.deref.ensures.value ∙ c.in_ok-variables.ensures in
    let bound : c.in_ok-bound.bound ≡ closed_over_each (firsts pairs) c.args.predicate.now = c.in_ok-bound.ensures ∙ ap (λ zs. closed_over_each zs c.args.predicate.now) variables in
    subst (λ f. IfOk c.rename.result (λ g. g ≡ f)) (renamed_pairs pairs c.deref-2.result.now c.args.predicate.now c.in_ok-bound.bound others bound) c.rename.ensures
