-- The executable part of a development finds each name where the development does.
use Rattle.std.proofs.Common.{◌≡◌, ℕ, ◌+◌, List, [], ◌∷◌, ◌++◌, map, length, refl, ap, cond, nat_eq}
use Rattle.bk_form.specs.ArrayTable.{row_of}
use Rattle.bk_form.specs.Table.{element_texts}
use Rattle.bk_gsl.specs.State.{declared_type}
use Rattle.bk_dev.specs.Development.{Development, int_max, level_at, last}
use Rattle.bk_dev.specs.Layout.{arrays_of, cells_of, cell_variables, cell_among, cells_in}
use Rattle.bk_b0.specs.Places.{kind_of_type, placed_block, placed_entries, placed_bodies}
use Rattle.bk_b0.specs.Translation.{places_of}
use Rattle.bk_b0.specs.CodeUnit.{slot_of, unit_of, first_of, slots_cells, unit_places}
use Rattle.bk_b0.specs.Laws.{UnitsAreTranslated}

module _ (dev : Development) where
  pub first-is : (x : ℕ) (xs : List ℕ) → first_of x (map (slot_of dev) xs) ≡ cell_among dev x xs
  first-is x [] = refl
  first-is x (y ∷ ys) = ap (λ n. cond (nat_eq x y) 0 (cells_of dev y + n)) (first-is x ys)

  pub count-is : (xs : List ℕ) → slots_cells (map (slot_of dev) xs) ≡ cells_in dev xs
  count-is [] = refl
  count-is (x ∷ xs) = ap (λ n. cells_of dev x + n) (count-is xs)

  pub places-are : unit_places (unit_of dev) ≡ places_of dev
  places-are = λ i. record {
    values = dev.values;
    row = λ x. row_of (arrays_of dev) x;
    first_cell = λ x. first-is x (cell_variables dev) i;
    cells = λ x. cells_of dev x;
    kind = λ x. kind_of_type (declared_type dev.table x);
  }

pub units_are_translated : UnitsAreTranslated
units_are_translated dev =
    let low = level_at dev (last dev) in
    λ i. record {
      max = int_max dev;
      cells = count-is dev (cell_variables dev) i;
      sets = map element_texts dev.sets;
      ops = placed_entries (places-are dev i) (length (placed_block (places-are dev i) low.init)) dev.heads low.bodies;
      code = placed_block (places-are dev i) low.init ++ placed_bodies (places-are dev i) low.bodies;
    }
