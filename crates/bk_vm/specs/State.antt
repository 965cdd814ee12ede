-- What a machine is seen as.
use Rattle.std.specs.Prelude.{◌≡◌, ℕ, ℤ, pos, Bool, false, List, length, replicate, slice_get, Some}
use Rattle.bk_code.specs.declared.image.Image.{Image}
use Rattle.bk_code.specs.declared.image.OpEntry.{OpEntry}
use Rattle.bk_code.specs.Checks.{IsChecked}
use Rattle.bk_code.specs.Laws.{AreCells, IsCallable}

-- a machine: its image, its cells, whether the initialisation has run, and whether a trap or want of fuel has stopped it
pub record State : Type 0 where
  pub image : Image
  pub cells : List ℤ
  pub started : Bool
  pub stopped : Bool

-- the image is checked, the cells are as many as it says, with numbers within the range, and each is 0 before
-- the initialisation
pub record IsMachine (image : Image) (cells : List ℤ) (started : Bool) : Type 0 where
  pub checked : IsChecked image
  pub kept : AreCells image cells
  pub untouched : started ≡ false → cells ≡ replicate image.cells (pos 0)

-- a machine before its initialisation: each cell is 0
abbrev pub fresh : Image → State
fresh image = record { image = image; cells = replicate image.cells (pos 0); started = false; stopped = false }

-- the operation with that number is one of the image and takes these arguments and has that many outputs
pub record TakesCall (image : Image) (op : ℕ) (args : List ℤ) (outs : ℕ) : Type 0 where
  pub entry : OpEntry
  pub named : slice_get image.ops op ≡ Some entry
  pub callable : IsCallable image entry args
  pub counted : outs ≡ length entry.outputs
