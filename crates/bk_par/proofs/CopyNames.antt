-- Copies in place of variables, by pairs of the variable and its copy; numbers of copies, one after another.
use Rattle.std.proofs.Common.{◌≡◌, ℕ, ◌+◌, List, [], ◌∷◌, ◌++◌, length, length-append, map, cond, nat_eq, refl, ap, arith}
use Rattle.bk_form.specs.Formula.{formula_size}
use Rattle.bk_form.specs.Predicates.{equation}
use Rattle.bk_bind.specs.Renaming.{new_name}
use Rattle.bk_gsl.specs.Substitution.{Substitution}
use Rattle.bk_gsl.specs.Flat.{reading, copy_of}

new_name-copy : (ps : List (ℕ × ℕ)) (n : ℕ) → new_name (map (λ (p : ℕ × ℕ). (p.1, p.0)) ps) n ≡ copy_of ps n
new_name-copy [] n = refl
new_name-copy (p ∷ ps) n = ap (cond (nat_eq n p.1) p.0) (new_name-copy ps n)

pub reading_copies : (ps : List (ℕ × ℕ)) (s : Substitution) → reading (new_name (map (λ (p : ℕ × ℕ). (p.1, p.0)) ps)) s ≡ reading (copy_of ps) s
reading_copies ps s = λ i. reading (λ n. new_name-copy ps n i) s

-- the numbers that come after those of two lists
pub length_after : (first : ℕ) (xs ys : List ℕ) → first + length (xs ++ ys) ≡ first + length xs + length ys
length_after first xs ys = omega (arith, length-append xs ys)

pub equation_size : (p : ℕ × ℕ) → formula_size (equation p) ≡ 3
equation_size p = refl
