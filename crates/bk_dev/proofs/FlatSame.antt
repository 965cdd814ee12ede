-- What flattening leaves as it was: levels and bodies but for ||, and of a last level without || its arrays and its cells.
use Rattle.std.proofs.Common.{◌≡◌, ◌<◌, ℕ, zero, suc, ◌+◌, ◌-◌, List, [], ◌∷◌, ◌++◌, length, map, refl, ◌∙◌, ap, true, not, cond, nat_eq, arith, Some, None, Option}
use Rattle.std.specs.Prelude.{slice_index_or, slice_get, unwrap_or}
use Rattle.std.specs.List.{filter, filter_map, cons_option}
use Rattle.std.specs.Option.{option_map}
use Rattle.bk_val.specs.ValueType.{bool_type}
use Rattle.bk_form.specs.Table.{variable_type}
use Rattle.bk_form.specs.ArrayTable.{row_of}
use Rattle.bk_form.specs.declared.arrays.ArrayRow.{ArrayRow}
use Rattle.bk_form.specs.declared.arrays.ArrayDomain.{ArrayDomain}
use Rattle.bk_form.specs.declared.arrays.ArrayDomain.TheVariants.{Interval, Bool as OfBooleans, Set as OfElements}
use Rattle.bk_form.specs.declared.operator.BinOp.TheVariants.{TotalFunctions}
use Rattle.bk_form.specs.Formula.{binary}
use Rattle.bk_gsl.specs.State.{declared_type, among, firsts}
use Rattle.bk_gsl.specs.Flat.{copied, flat_from, IsFlat}
use Rattle.bk_gsl.proofs.States.{nat_eq-self}
use Rattle.bk_dev.specs.Development.{Body, Level, Development, int_max, blank_body, blank_level, level_at, body_of, body_at, last, is_complete, is_implementation}
use Rattle.bk_form.specs.Predicates.{conjuncts}
use Rattle.bk_dev.specs.Layout.{Clue, in_domain, first_clue, linked_to, or_next, typing_clue, reversed, has_scalars, array_row, indices_of, row_by, arrays_of, index_count, row_cells, cells_of, cell_variables, cell_among, cell_of, cells_in, cell_count}
use Rattle.bk_dev.specs.Flattened.{copied_in_level, copied_in_levels, flat_bodies, flat_level, flat_levels, flattened}
use Rattle.bk_form.proofs.Members.{or-left, or-right}
use Rattle.bk_form.specs.Each.{Each}
use Rattle.bk_dev.proofs.Flat.{flat_already, flat_bodies_already}

level-as-it-is : (l : Level) → IsFlat l.init → Each (λ b. IsFlat b.sub) l.bodies → (k : ℕ) → flat_level k l ≡ l
level-as-it-is l h g k = λ i. record l { init = flat_already l.init h k i; bodies = flat_bodies_already l.bodies g (k + length (copied l.init)) i }

-- ---- levels and bodies
pub levels-many : (k : ℕ) (ls : List Level) → length (flat_levels k ls) ≡ length ls
levels-many k [] = refl
levels-many k (l ∷ ls) = ap suc (levels-many (k + length (copied_in_level l)) ls)

level-there : (k : ℕ) (ls : List Level) (j : ℕ) → (i : ℕ) × (slice_index_or (flat_levels k ls) j blank_level ≡ flat_level i (slice_index_or ls j blank_level))
level-there k [] j = (0, refl)
level-there k (l ∷ ls) zero = (k, refl)
level-there k (l ∷ ls) (suc j) = level-there (k + length (copied_in_level l)) ls j

body-there : (k : ℕ) (bs : List Body) (o : ℕ) → (i : ℕ) × (slice_index_or (flat_bodies k bs) o blank_body ≡ record (slice_index_or bs o blank_body) { sub = flat_from i (slice_index_or bs o blank_body).sub })
body-there k [] o = (0, refl)
body-there k (b ∷ bs) zero = (k, refl)
body-there k (b ∷ bs) (suc o) = body-there (k + length (copied b.sub)) bs o

pub level-is : (dev : Development) (k : ℕ) → (i : ℕ) × (level_at (flattened dev) k ≡ flat_level i (level_at dev k))
level-is dev k = level-there (length dev.table.variables) dev.levels k

pub body-is : (dev : Development) (k o : ℕ) → (i : ℕ) × (body_at (flattened dev) k o ≡ record (body_at dev k o) { sub = flat_from i (body_at dev k o).sub })
body-is dev k o =
    let l = level-is dev k in
    let b = body-there (l.0 + length (copied (level_at dev k).init)) (level_at dev k).bodies o in
    (b.0, ap (λ x. body_of x o) l.1 ∙ b.1)

-- ---- clues
record IsLike (l m : Level) : Type 0 where
  vars : l.vars ≡ m.vars
  invariant : l.invariant ≡ m.invariant
  links : l.links ≡ m.links

AreLike : List Level → List Level → Type 0
AreLike [] [] = Unit {0}
AreLike (l ∷ ls) (m ∷ ms) = IsLike l m × AreLike ls ms
AreLike _ _ = ⊥

typing-like : (o : Option ℕ) (ls ms : List Level) → AreLike ls ms → typing_clue o ls ≡ typing_clue o ms
unfolding AreLike
typing-like None [] [] h = refl
typing-like None [] (m ∷ ms) h = refl
typing-like None (l ∷ ls) [] h = refl
typing-like None (l ∷ ls) (m ∷ ms) h = refl
typing-like (Some x) [] [] h = refl
typing-like (Some x) [] (m ∷ ms) h = absurd h
typing-like (Some x) (l ∷ ls) [] h = absurd h
typing-like (Some x) (l ∷ ls) (m ∷ ms) h =
    let rest : typing_clue (linked_to x l.links) ls ≡ typing_clue (linked_to x m.links) ms = ap (λ k. typing_clue (linked_to x k) ls) h.0.links ∙ typing-like (linked_to x m.links) ls ms h.1 in
    λ i. or_next (first_clue x (filter (λ y. not (among (firsts (h.0.links i)) y)) (h.0.vars i)) (conjuncts (h.0.invariant i))) (rest i)

reversed-like : (k : ℕ) (ls xs ys : List Level) → AreLike xs ys → AreLike (reversed (flat_levels k ls) xs) (reversed ls ys)
unfolding AreLike
reversed-like k [] xs ys h = h
reversed-like k (l ∷ ls) xs ys h = reversed-like (k + length (copied_in_level l)) ls (flat_level k l ∷ xs) (l ∷ ys) (record { vars = refl; invariant = refl; links = refl }, h)

nothing-like : AreLike [] []
unfolding AreLike
nothing-like = tt

-- ---- lists
get-same : {A : Type 0} (xs ys : List A) (n : ℕ) → n < length xs → slice_get (xs ++ ys) n ≡ slice_get xs n
get-same [] ys n h = absurd (omega (arith, h))
get-same (x ∷ xs) ys zero h = refl
get-same (x ∷ xs) ys (suc n) h = get-same xs ys n (omega (arith, h))

rows-same : (F G : ℕ → Option ArrayRow) (xs : List ℕ) → ((x : ℕ) → among xs x ≡ true → F x ≡ G x) → filter_map F xs ≡ filter_map G xs
rows-same F G [] h = refl
rows-same F G (x ∷ xs) h =
    let first = h x (or-left (nat_eq x x) (among xs x) (nat_eq-self x)) in
    let rest = rows-same F G xs (λ y q. h y (or-right (nat_eq y x) (among xs y) q)) in
    λ i. cons_option (first i) (rest i)

pub maps-same : {B : Type 0} (F G : ℕ → B) (xs : List ℕ) → ((x : ℕ) → among xs x ≡ true → F x ≡ G x) → map F xs ≡ map G xs
maps-same {B} F G [] h = refl
maps-same {B} F G (x ∷ xs) h =
    let first = h x (or-left (nat_eq x x) (among xs x) (nat_eq-self x)) in
    let rest = maps-same F G xs (λ y q. h y (or-right (nat_eq y x) (among xs y) q)) in
    λ i. first i ∷ rest i

module _ (dev : Development) (some : 0 < length dev.levels) (init : IsFlat (level_at dev (last dev)).init) (bodies : Each (λ b. IsFlat b.sub) (level_at dev (last dev)).bodies) where
  abbrev old : ℕ
  old = length dev.table.variables

  abbrev flat : Development
  flat = flattened dev

  pub last-same : last flat ≡ last dev
  last-same = ap (λ n. n - 1) (levels-many old dev.levels)

  pub low-same : level_at flat (last flat) ≡ level_at dev (last dev)
  low-same =
      let w = level-is dev (last dev) in
      ap (level_at flat) last-same ∙ w.1 ∙ level-as-it-is (level_at dev (last dev)) init bodies w.0

  pub complete-same : is_complete flat ≡ is_complete dev
  complete-same = ap is_implementation low-same

  pub type-same : (n : ℕ) → n < old → variable_type flat.table n ≡ variable_type dev.table n
  type-same n h = ap (option_map (λ v. v.of_type)) (get-same dev.table.variables (filter_map (slice_get dev.table.variables) (copied_in_levels dev.levels)) n h)

  pub declared-same : (n : ℕ) → n < old → declared_type flat.table n ≡ declared_type dev.table n
  declared-same n h = ap (λ o. Rattle.std.specs.Prelude.unwrap_or o bool_type) (type-same n h)

  row-same : (x : ℕ) (c : Clue) → x < old → row_by flat x c ≡ row_by dev x c
  row-same x (in_domain (binary TotalFunctions d e)) h = ap (λ o. cond (has_scalars o) (array_row x (indices_of (int_max dev) dev.values d)) None) (type-same x h)
  row-same x c h = refl

  pub clue-same : (x : ℕ) → typing_clue (Some x) (reversed flat.levels []) ≡ typing_clue (Some x) (reversed dev.levels [])
  clue-same x = typing-like (Some x) (reversed flat.levels []) (reversed dev.levels []) (reversed-like old dev.levels [] [] nothing-like)

  module _ (vars : (n : ℕ) → among (level_at dev (last dev)).vars n ≡ true → n < old) where
    pub arrays-same : arrays_of flat ≡ arrays_of dev
    arrays-same =
        let vs = (level_at dev (last dev)).vars in
        let one : filter_map (λ x. row_by flat x (typing_clue (Some x) (reversed flat.levels []))) (level_at flat (last flat)).vars ≡ filter_map (λ x. row_by flat x (typing_clue (Some x) (reversed flat.levels []))) vs = ap (λ (l : Level). filter_map (λ x. row_by flat x (typing_clue (Some x) (reversed flat.levels []))) l.vars) low-same in
        let two = rows-same (λ x. row_by flat x (typing_clue (Some x) (reversed flat.levels []))) (λ x. row_by dev x (typing_clue (Some x) (reversed dev.levels []))) vs (λ x q. row-same x (typing_clue (Some x) (reversed flat.levels [])) (vars x q) ∙ ap (row_by dev x) (clue-same x)) in
        λ i. record { max = int_max dev; rows = (one ∙ two) i }

    row-cells-same : (o : Option ArrayRow) → row_cells flat.table o ≡ row_cells dev.table o
    row-cells-same None = refl
    row-cells-same (Some row) = by_domain row.domain
      where
        by_domain : (d : ArrayDomain) → index_count flat.table d ≡ index_count dev.table d
        by_domain (Interval a b) = refl
        by_domain OfBooleans = refl
        by_domain (OfElements n) = refl

    pub cells-same : (x : ℕ) → cells_of flat x ≡ cells_of dev x
    cells-same x = ap (λ a. row_cells flat.table (row_of a x)) arrays-same ∙ row-cells-same (row_of (arrays_of dev) x)

    pub variables-same : cell_variables flat ≡ cell_variables dev
    variables-same = ap (λ (l : Level). l.vars ++ Rattle.bk_dev.specs.Layout.locals l.init ++ Rattle.bk_dev.specs.Layout.operation_variables dev.heads l.bodies) low-same

    among-same : (x : ℕ) (ys : List ℕ) → cell_among flat x ys ≡ cell_among dev x ys
    among-same x [] = refl
    among-same x (y ∷ ys) = λ i. cond (nat_eq x y) 0 (cells-same y i + among-same x ys i)

    pub cell-same : (x : ℕ) → cell_of flat x ≡ cell_of dev x
    cell-same x = ap (cell_among flat x) variables-same ∙ among-same x (cell_variables dev)

    in-same : (ys : List ℕ) → cells_in flat ys ≡ cells_in dev ys
    in-same [] = refl
    in-same (y ∷ ys) = λ i. cells-same y i + in-same ys i

    pub count-same : cell_count flat ≡ cell_count dev
    count-same = ap (cells_in flat) variables-same ∙ in-same (cell_variables dev)
