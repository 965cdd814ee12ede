-- What the numbers in cells stand for.
use Rattle.std.specs.Prelude.{◌≡◌, ℕ, ◌<◌, ℤ, pos, Bool, length, slice_index_or, []}
use Rattle.bk_code.specs.declared.image.Image.{Image}
use Rattle.bk_code.specs.declared.image.CellKind.{CellKind}
use Rattle.bk_code.specs.declared.image.CellKind.TheVariants.{Integer, Bool as BoolKind, Set}
use Rattle.bk_code.specs.Numbers.{int_max, IsWithin, truth_number}

-- what a cell holds: a whole number, a truth value, or the element of a set with that index
pub data CellValue : Type 0 where
  Whole : ℤ → CellValue
  Truth : Bool → CellValue
  Element : (set index : ℕ) → CellValue

-- the number that stands for a value: FALSE is 0, TRUE is 1, and an element is its index
abbrev pub number_of : CellValue → ℤ
number_of (Whole n) = n
number_of (Truth b) = truth_number b
number_of (Element set index) = pos index

-- the value is one of a kind: a whole number within the range, a truth value, or an element that the set has
abbrev pub IsOfKind : Image → CellKind → CellValue → Type 0
IsOfKind image Integer (Whole n) = IsWithin (int_max image) n
IsOfKind image BoolKind (Truth b) = Unit {0}
IsOfKind image (Set k) (Element set index) = (set ≡ k) × (index < length (slice_index_or image.sets k []))
IsOfKind image _ _ = ⊥

-- a number stands for one value of a kind at most
abbrev pub StandsForOne : Type 0
StandsForOne =
    (image : Image) (kind : CellKind) (v w : CellValue) → IsOfKind image kind v → IsOfKind image kind w →
    number_of v ≡ number_of w → v ≡ w
