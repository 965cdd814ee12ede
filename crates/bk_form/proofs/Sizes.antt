-- The parts of a formula are smaller, and a list of formulas has the nodes of all of them.
use Rattle.std.proofs.Common.{◌≡◌, ◌+◌, ◌<◌, ◌≤◌, ℕ, zero, suc, List, [], ◌∷◌, length, get_or, max, take, drop, ◌-◌, refl, arith}
use Rattle.std.proofs.lemmas.List.{take_rest}
use Rattle.bk_form.specs.Formula.{Formula, variable, formulas_of, formula_size, formulas_size, formula_height, formulas_height}

-- each formula has a node
pub size_pos : (a : Formula) → 0 < formula_size a
size_pos (variable n) = omega arith
size_pos _ = omega arith

-- a formula of a list has no more nodes than the list
pub size_at : (fs : List Formula) (i : ℕ) (d : Formula) → i < length fs → formula_size (get_or fs i d) ≤ formulas_size (formulas_of fs)
size_at [] i d h = absurd (omega arith)
size_at (a ∷ fs) zero d h = omega arith
size_at (a ∷ fs) (suc i) d h = let rest : formula_size (get_or fs i d) ≤ formulas_size (formulas_of fs) = size_at fs i d (omega arith) in omega arith

-- without its first formula a list has fewer nodes
pub rest_size : (fs : List Formula) → 1 ≤ length fs → formulas_size (formulas_of (take (length fs - 1) (drop 1 fs))) < formulas_size (formulas_of fs)
rest_size [] h = absurd (omega arith)
rest_size (a ∷ fs) h = rw take_rest (omega (arith, size_pos a))

-- lists with the same formulas are the same
pub formulas_of-inj : (fs gs : List Formula) → formulas_of fs ≡ formulas_of gs → fs ≡ gs
formulas_of-inj [] [] e = refl
formulas_of-inj [] (b ∷ gs) e = cc
formulas_of-inj (a ∷ fs) [] e = cc
formulas_of-inj (a ∷ fs) (b ∷ gs) e =
    let rest : formulas_of fs ≡ formulas_of gs = cc in
    let more : fs ≡ gs = formulas_of-inj fs gs rest in cc

pub ruleset parts_are_equal = (size_pos, size_at, formulas_of-inj)

pub ruleset parts_are_smaller = (size_pos, size_at, rest_size)

-- the nodes of one more formula
pub sizes_more : (fs : List Formula) (i : ℕ) (d : Formula) → i < length fs → formulas_size (formulas_of (take (i + 1) fs)) ≡ formulas_size (formulas_of (take i fs)) + formula_size (get_or fs i d)
sizes_more [] i d h = absurd (omega arith)
sizes_more (a ∷ fs) zero d h = omega arith
sizes_more (a ∷ fs) (suc i) d h =
    let rest : formulas_size (formulas_of (take (i + 1) fs)) ≡ formulas_size (formulas_of (take i fs)) + formula_size (get_or fs i d) = sizes_more fs i d (omega arith) in
    let e : suc i + 1 ≡ suc (i + 1) = omega arith in rw e (omega arith)

-- the first formulas of a list have no more nodes than the list
pub sizes_of_first : (fs : List Formula) (i : ℕ) → formulas_size (formulas_of (take i fs)) ≤ formulas_size (formulas_of fs)
sizes_of_first [] zero = omega arith
sizes_of_first [] (suc i) = omega arith
sizes_of_first (a ∷ fs) zero = omega arith
sizes_of_first (a ∷ fs) (suc i) = omega (arith, sizes_of_first fs i)

-- the height of one more formula
pub heights_more : (fs : List Formula) (i : ℕ) (d : Formula) → i < length fs → formulas_height (formulas_of (take (i + 1) fs)) ≡ max (formula_height (get_or fs i d)) (formulas_height (formulas_of (take i fs)))
heights_more [] i d h = absurd (omega arith)
heights_more (a ∷ fs) zero d h = omega arith
heights_more (a ∷ fs) (suc i) d h =
    let rest : formulas_height (formulas_of (take (i + 1) fs)) ≡ max (formula_height (get_or fs i d)) (formulas_height (formulas_of (take i fs))) = heights_more fs i d (omega arith) in
    let e : suc i + 1 ≡ suc (i + 1) = omega arith in rw e (omega arith)

pub ruleset sums = (sizes_more, sizes_of_first, heights_more)
