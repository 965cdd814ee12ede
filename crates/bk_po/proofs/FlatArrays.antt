-- Flattening leaves the arrays of the last level as they were, and no other level has any.
use Rattle.std.proofs.Common.{◌≡◌, ◌<◌, ◌≤◌, ◌-◌, ℕ, zero, suc, ◌+◌, List, [], ◌∷◌, ◌++◌, length, refl, sym, ◌∙◌, ap, Bool, true, false, not, cond, nat_eq, nat_lt, arith, Some, None, Option}
use Rattle.std.specs.Prelude.{slice_get}
use Rattle.std.specs.List.{filter, filter_map, cons_option}
use Rattle.std.specs.Option.{option_map}
use Rattle.std.proofs.lemmas.Bool.Decides.{nat_tests}
use Rattle.bk_form.specs.Table.{variable_type}
use Rattle.bk_form.specs.Formula.{binary}
use Rattle.bk_form.specs.Predicates.{conjuncts}
use Rattle.bk_form.specs.declared.operator.BinOp.TheVariants.{TotalFunctions}
use Rattle.bk_form.specs.declared.arrays.ArrayRow.{ArrayRow}
use Rattle.bk_form.proofs.Members.{or-left, or-right}
use Rattle.bk_gsl.specs.State.{among, firsts}
use Rattle.bk_gsl.proofs.States.{nat_eq-self}
use Rattle.bk_dev.specs.Development.{Level, Development, int_max, level_at, last, is_implementation, is_complete}
use Rattle.bk_dev.specs.Facts.{IsLawful}
use Rattle.bk_dev.specs.Layout.{Clue, in_domain, first_clue, linked_to, or_next, typing_clue, reversed, has_scalars, array_row, indices_of, row_by, arrays_of}
use Rattle.bk_dev.specs.Flattened.{copied_in_level, copied_in_levels, flat_level, flat_levels, flattened}
use Rattle.bk_dev.specs.Claims.{arrays_at}
use Rattle.bk_dev.proofs.FlatSame.{levels-many, level-is}
use Rattle.bk_dev.proofs.InTable.{low-vars}
use Rattle.bk_po.specs.FlatFacts.{IsFlattened}

-- ---- clues: levels that state the same of the same variables give the same
record IsLike (l m : Level) : Type 0 where
  vars : l.vars ≡ m.vars
  invariant : l.invariant ≡ m.invariant
  links : l.links ≡ m.links

AreLike : List Level → List Level → Type 0
AreLike [] [] = Unit {0}
AreLike (l ∷ ls) (m ∷ ms) = IsLike l m × AreLike ls ms
AreLike _ _ = ⊥

clue-like : (o : Option ℕ) (ls ms : List Level) → AreLike ls ms → typing_clue o ls ≡ typing_clue o ms
unfolding AreLike
clue-like None [] [] h = refl
clue-like None [] (m ∷ ms) h = refl
clue-like None (l ∷ ls) [] h = refl
clue-like None (l ∷ ls) (m ∷ ms) h = refl
clue-like (Some x) [] [] h = refl
clue-like (Some x) [] (m ∷ ms) h = absurd h
clue-like (Some x) (l ∷ ls) [] h = absurd h
clue-like (Some x) (l ∷ ls) (m ∷ ms) h =
    let rest : typing_clue (linked_to x l.links) ls ≡ typing_clue (linked_to x m.links) ms = ap (λ k. typing_clue (linked_to x k) ls) h.0.links ∙ clue-like (linked_to x m.links) ls ms h.1 in
    λ i. or_next (first_clue x (filter (λ y. not (among (firsts (h.0.links i)) y)) (h.0.vars i)) (conjuncts (h.0.invariant i))) (rest i)

reversed-like : (k : ℕ) (ls xs ys : List Level) → AreLike xs ys → AreLike (reversed (flat_levels k ls) xs) (reversed ls ys)
unfolding AreLike
reversed-like k [] xs ys h = h
reversed-like k (l ∷ ls) xs ys h = reversed-like (k + length (copied_in_level l)) ls (flat_level k l ∷ xs) (l ∷ ys) (record { vars = refl; invariant = refl; links = refl }, h)

nothing-like : AreLike [] []
unfolding AreLike
nothing-like = tt

-- ---- lists
get-same : {A : Type 0} (xs ys : List A) (n : ℕ) → n < length xs → slice_get (xs ++ ys) n ≡ slice_get xs n
get-same [] ys n h = absurd (omega (arith, h))
get-same (x ∷ xs) ys zero h = refl
get-same (x ∷ xs) ys (suc n) h = get-same xs ys n (omega (arith, h))

rows-same : (F G : ℕ → Option ArrayRow) (xs : List ℕ) → ((x : ℕ) → among xs x ≡ true → F x ≡ G x) → filter_map F xs ≡ filter_map G xs
rows-same F G [] h = refl
rows-same F G (x ∷ xs) h =
    let first = h x (or-left (nat_eq x x) (among xs x) (nat_eq-self x)) in
    let rest = rows-same F G xs (λ y q. h y (or-right (nat_eq y x) (among xs y) q)) in
    λ i. cons_option (first i) (rest i)

-- ---- the last level
module _ (dev : Development) (f : IsLawful dev) where
  abbrev flat : Development
  flat = flattened dev

  abbrev old : ℕ
  old = length dev.table.variables

  last-same : last flat ≡ last dev
  last-same = ap (λ n. n - 1) (levels-many old dev.levels)

  last-is : level_at flat (last flat) ≡ flat_level (level-is dev (last dev)).0 (level_at dev (last dev))
  last-is = ap (level_at flat) last-same ∙ (level-is dev (last dev)).1

  vars-same : (level_at flat (last flat)).vars ≡ (level_at dev (last dev)).vars
  vars-same = ap (λ (l : Level). l.vars) last-is

  pub complete-same : is_complete flat ≡ is_complete dev
  complete-same = ap is_implementation last-is

  type-same : (n : ℕ) → n < old → variable_type flat.table n ≡ variable_type dev.table n
  type-same n h = ap (option_map (λ v. v.of_type)) (get-same dev.table.variables (filter_map (slice_get dev.table.variables) (copied_in_levels dev.levels)) n h)

  row-same : (x : ℕ) (c : Clue) → x < old → row_by flat x c ≡ row_by dev x c
  row-same x (in_domain (binary TotalFunctions d e)) h = ap (λ o. cond (has_scalars o) (array_row x (indices_of (int_max dev) dev.values d)) None) (type-same x h)
  row-same x c h = refl

  clue-same : (x : ℕ) → typing_clue (Some x) (reversed flat.levels []) ≡ typing_clue (Some x) (reversed dev.levels [])
  clue-same x = clue-like (Some x) (reversed flat.levels []) (reversed dev.levels []) (reversed-like old dev.levels [] [] nothing-like)

  pub arrays-same : arrays_of flat ≡ arrays_of dev
  arrays-same =
      let vs = (level_at dev (last dev)).vars in
      let one : filter_map (λ x. row_by flat x (typing_clue (Some x) (reversed flat.levels []))) (level_at flat (last flat)).vars ≡ filter_map (λ x. row_by flat x (typing_clue (Some x) (reversed flat.levels []))) vs = ap (λ xs. filter_map (λ x. row_by flat x (typing_clue (Some x) (reversed flat.levels []))) xs) vars-same in
      let two = rows-same (λ x. row_by flat x (typing_clue (Some x) (reversed flat.levels []))) (λ x. row_by dev x (typing_clue (Some x) (reversed dev.levels []))) vs (λ x q. row-same x (typing_clue (Some x) (reversed flat.levels [])) (low-vars dev f x q) ∙ ap (row_by dev x) (clue-same x)) in
      λ i. record { max = int_max dev; rows = (one ∙ two) i }

  -- the arrays that the program reads off the development are those of its flattened
  pub flat_arrays : arrays_at dev (last dev) ≡ arrays_at flat (last flat)
  flat_arrays = λ i. cond (sym complete-same i) (Some (sym arrays-same i)) None

-- ---- an implementation is the last level
pub last_arrays : (dev : Development) → IsFlattened dev → (k : ℕ) → k < length dev.levels → is_implementation (level_at dev k) ≡ true → arrays_at dev (last dev) ≡ arrays_at dev k
last_arrays dev f k h i = by_test (nat_lt (suc k) (length dev.levels)) refl
  where
    by_test : (b : Bool) → nat_lt (suc k) (length dev.levels) ≡ b → arrays_at dev (last dev) ≡ arrays_at dev k
    by_test true q =
        let above : suc k < length dev.levels = grind (arith, nat_tests) in
        let none : is_implementation (level_at dev k) ≡ false = f.only_last k above in
        absurd (cc)
    by_test false q =
        let few : length dev.levels ≤ suc k = grind (arith, nat_tests) in
        let same : last dev ≡ k = omega (arith, few, h) in
        ap (arrays_at dev) same

pub no_arrays : (dev : Development) (k : ℕ) → is_implementation (level_at dev k) ≡ false → arrays_at dev k ≡ None
no_arrays dev k h = ap (λ b. cond b (Some (arrays_of dev)) None) h

pub ruleset arrays = (last_arrays, no_arrays)
