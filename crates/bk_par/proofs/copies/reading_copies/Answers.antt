use Rattle.std.proofs.Common.{◌≡◌, ℕ, List, ◌∙◌, ap, subst}
use Rattle.std.specs.Prelude.{IfOk}
use Rattle.bk_bind.specs.Renaming.{new_name}
use Rattle.bk_gsl.specs.Substitution.{Substitution}
use Rattle.bk_gsl.specs.Flat.{reading}
use Rattle.bk_par.proofs.CopyNames.{reading_copies}
use Rattle.bk_par.proofs.copies.reading_copies.Goals as goal

pub returns : goal.returns
returns c =
    let pairs = c.args.pairs.now in
    let sub = c.args.sub.now in
    let same = ap (λ (ps : List (ℕ × ℕ)). reading (new_name ps) sub) (c.deref.ensures.value ∙ c.in_ok-swapped.ensures) in
    subst (λ (t : Substitution). IfOk c.reading.result (λ (s : Substitution). s ≡ t)) (same ∙ reading_copies pairs sub) c.reading.ensures
