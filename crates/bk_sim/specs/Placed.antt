-- Code at a place of an image.
use Rattle.std.specs.Prelude.{◌≡◌, ℕ, ◌+◌, ℤ, List, [], Some, slice_get}
use Rattle.bk_code.specs.declared.image.Image.{Image}
use Rattle.bk_code.specs.declared.instruction.Inst.{Inst}
use Rattle.bk_code.specs.Step.{Config}

-- the code stands at this place of the image's
pub record Stands (image : Image) (place : ℕ) (code : List Inst) : Type 0 where
  pub at : (i : ℕ) (inst : Inst) → slice_get code i ≡ Some inst → slice_get image.code (place + i) ≡ Some inst

-- a machine at this place with nothing on its stack and these cells
abbrev pub at_place : ℕ → List ℤ → Config
at_place place m = record { place = place; stack = []; cells = m }
