-- Only the contracts of private functions name what stands here.
-- The first instruction with a wrong depth.
use Rattle.std.specs.Prelude.{◌≡◌, ℕ, List, Some, slice_get}
use Rattle.bk_code.specs.declared.image.Image.{Image}
use Rattle.bk_code.specs.declared.instruction.Inst.{Inst}
use Rattle.bk_image.specs.declared.depths.Depth.{Depth}
use Rattle.bk_image.specs.Spelling.{inst as spell_inst}
use Rattle.bk_image.specs.Faults.{part_place}
use Rattle.bk_image.specs.Progress.{IsWrong, AreRight, depth_at}

-- an instruction is wrong, those before it are right, and it stands at this byte
pub record IsFirstWrong (image : Image) (known : List Depth) (begin byte : ℕ) : Type 0 where
  pub at : ℕ
  pub inst : Inst
  pub get : slice_get image.code at ≡ Some inst
  pub wrong : IsWrong inst (depth_at known at)
  pub before : AreRight image.code known at
  pub place : byte ≡ part_place spell_inst begin image.code at
