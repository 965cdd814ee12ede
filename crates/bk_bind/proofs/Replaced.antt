-- Replacement in a list of formulas.
use Rattle.std.proofs.Common.{◌≡◌, ℕ, zero, suc, ◌+◌, ◌≤◌, ◌<◌, List, [], ◌∷◌, length, get_or, map, take, ◌++◌, refl, arith}
use Rattle.std.proofs.lemmas.List.{map_more}
use Rattle.bk_form.specs.Formula.{Formula, formula_and, formula_size, formulas_size, formulas_of}
use Rattle.bk_form.specs.Replacement.{replaced, all_replaced}
use Rattle.bk_form.proofs.Sizes.{size_pos, size_at}

pub all_replaced-of : (by : ℕ → Formula) (fs : List Formula) → all_replaced by (formulas_of fs) ≡ formulas_of (map (replaced by) fs)
all_replaced-of by [] = refl
all_replaced-of by (f ∷ fs) = λ i. formula_and (replaced by f) (all_replaced-of by fs i)

-- a formula of the list has no more nodes after replacement than the list
pub replaced_size_at : (by : ℕ → Formula) (fs : List Formula) (i : ℕ) (d : Formula) → i < length fs → formula_size (replaced by (get_or fs i d)) ≤ formulas_size (all_replaced by (formulas_of fs))
replaced_size_at by [] i d h = absurd (omega arith)
replaced_size_at by (f ∷ fs) zero d h = omega arith
replaced_size_at by (f ∷ fs) (suc i) d h = let rest : formula_size (replaced by (get_or fs i d)) ≤ formulas_size (all_replaced by (formulas_of fs)) = replaced_size_at by fs i d (omega arith) in omega arith

-- one more formula
pub map_step : (f : Formula → Formula) (xs built new : List Formula) (i : ℕ) (x y : Formula) → built ≡ map f (take i xs) → x ≡ get_or xs i x → i < length xs → y ≡ f x → new ≡ built ++ y ∷ [] → new ≡ map f (take (i + 1) xs)
map_step f xs built new i x y so_far item h value pushed = let more = map_more f xs i x h in cc

pub ruleset replacement = (size_pos, size_at, replaced_size_at, all_replaced-of)
