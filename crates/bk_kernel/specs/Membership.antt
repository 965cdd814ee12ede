-- What the members of comprehensions and lambdas meet.
-- Source: B-Book, set comprehension.
use Rattle.std.specs.Prelude.{ℕ, zero, suc, ◌-◌, List, [], ◌∷◌, ◌++◌, Option, Some, None}
use Rattle.std.specs.Option.{option_map, option_and_then}
use Rattle.bk_form.specs.Formula.{Formula, btrue, binary, comprehension, lambda, Formulas, formula_and}
use Rattle.bk_form.specs.Replacement.{count}
use Rattle.bk_form.specs.declared.operator.BinOp.TheVariants.{And, Eq, In, Maps}
use Rattle.bk_bind.specs.Opening.{opened}
use Rattle.bk_laws.specs.Rows.{Instance}
use Rattle.bk_kernel.specs.Branches.{sides}

-- p and all of these, joined from the left
abbrev pub conjoined : Formula → List Formula → Formula
conjoined p [] = p
conjoined p (q ∷ qs) = conjoined (binary And p q) qs

-- p & q & .. r, from the left
abbrev pub conjunction : List Formula → Formula
conjunction [] = btrue
conjunction (p ∷ ps) = conjoined p ps

-- ---- several terms as one
-- the n + 1 terms of which a formula is written as pairs to the left, before some more
abbrev pub unpaired : ℕ → Formula → List Formula → Option (List Formula)
unpaired zero f after = Some (f ∷ after)
unpaired (suc n) (binary Maps a b) after = unpaired n a (b ∷ after)
unpaired (suc n) _ after = None

-- each term is in its range
abbrev pub memberships : Formulas → List Formula → List Formula
memberships (formula_and r rs) (e ∷ es) = binary In e r ∷ memberships rs es
memberships _ _ = []

-- ---- members
-- a member of a comprehension or of a lambda: what its terms meet
abbrev pub met_by : Formula → Formula → Option Formula
met_by e (comprehension rs p) = option_map (λ es. conjunction (memberships rs es ++ opened es p ∷ [])) (unpaired (count rs - 1) e [])
met_by e (lambda rs p v) = option_and_then (λ x. option_map (λ es.
    conjunction (memberships rs es ++ opened es p ∷ binary Eq x.1 (opened es v) ∷ [])) (unpaired (count rs - 1) x.0 [])) (sides Maps e)
met_by e _ = None

-- a lambda applied, which is the whole formula: its value there, under what the terms meet
abbrev pub applied_to : Formula → Formula → Formula → Option Instance
applied_to whole (lambda rs p v) e =
    option_map (λ es. record { sides = conjunction (memberships rs es ++ opened es p ∷ []) ∷ []; left = whole; right = opened es v })
    (unpaired (count rs - 1) e [])
applied_to whole _ e = None
