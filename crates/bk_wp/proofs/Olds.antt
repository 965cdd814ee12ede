-- What stands for an old value, renamed by pairs of the number and the variable.
use Rattle.std.proofs.Common.{◌≡◌, ℕ, List, [], ◌∷◌, map, cond, nat_eq, refl, ap, ◌∙◌}
use Rattle.bk_form.specs.Formula.{Formula, variable}
use Rattle.bk_form.specs.Replacement.{replaced, renamed}
use Rattle.bk_bind.specs.Closing.{closed_over_each}
use Rattle.bk_bind.specs.Renaming.{new_name}
use Rattle.bk_gsl.specs.State.{firsts}
use Rattle.bk_gsl.specs.Run.{old_of}
use Rattle.bk_wp.specs.Box.{new_values}

new_name-old : (xs : List (ℕ × ℕ)) (n : ℕ) → new_name (map (λ (p : ℕ × ℕ). (p.1, p.0)) xs) n ≡ old_of xs n
new_name-old [] n = refl
new_name-old (x ∷ xs) n = ap (cond (nat_eq n x.1) x.0) (new_name-old xs n)

pub renamed_pairs : (xs ys : List (ℕ × ℕ)) (p f : Formula) → ys ≡ map (λ (x : ℕ × ℕ). (x.1, x.0)) xs → f ≡ closed_over_each (firsts xs) p → renamed (new_name ys) f ≡ new_values xs p
renamed_pairs xs ys p f h k = (λ i. renamed (new_name (h i)) (k i)) ∙ (λ i. replaced (λ n. variable (new_name-old xs n i)) (closed_over_each (firsts xs) p))
