-- Which bytes encode an image, and what is wrong with those that encode none.
use Rattle.std.specs.Prelude.{◌≡◌, ℕ, List}
use Rattle.bk_code.specs.declared.image.Image.{Image}
use Rattle.bk_code.specs.Checks.{IsNumbered, IsLoadable}
use Rattle.bk_image.specs.declared.fault.LoadFault.{LoadFault}
use Rattle.bk_image.specs.declared.fault.LoadFault.TheVariants.{Short, Magic, Version, BadInst, BadJump, BadSlot, Stack, Extra}
use Rattle.bk_image.specs.declared.fault.LoadFault.TheVariants as faults
use Rattle.bk_image.specs.declared.version.ImageVersion.{ImageVersion}
use Rattle.bk_image.specs.Spelling.{laid_out, FitsFields, HasSpelling, spelling}
use Rattle.bk_image.specs.Faults.{IsMagicFault, IsVersionFault, IsInstFault, IsExtraFault, IsShortFault, IsFirst, IsNumberFault}
use Rattle.bk_image.specs.Stack.{IsFirstStackFault}

-- all of the bytes are the spelling of an image that passes the checks
pub record Encodes (bytes : List ℕ) (image : Image) : Type 0 where
  pub loadable : IsLoadable image
  pub spelled : HasSpelling image
  pub is : bytes ≡ spelling image

-- all of the bytes are laid out as an image in a version, and this is the first fault of its numbers
pub record IsFirstNumberFault (bytes : List ℕ) (e : LoadFault) : Type 0 where
  pub version : ImageVersion
  pub image : Image
  pub fits : FitsFields version image
  pub is : bytes ≡ laid_out version image
  pub first : IsFirst (IsNumberFault version image) e

-- all of the bytes are the spelling of an image whose numbers are right, and this is the first fault of its stack
pub record IsFirstDepthFault (bytes : List ℕ) (at : ℕ) : Type 0 where
  pub image : Image
  pub spelled : HasSpelling image
  pub is : bytes ≡ spelling image
  pub numbered : IsNumbered image
  pub first : IsFirstStackFault image at

-- the bytes encode no image for this cause; want of memory may come with any
abbrev pub IsFault : List ℕ → LoadFault → Type 0
IsFault bytes (Short at) = IsShortFault bytes at
IsFault bytes Magic = IsMagicFault bytes
IsFault bytes (Version n) = IsVersionFault bytes n
IsFault bytes (BadInst at) = IsInstFault bytes at
IsFault bytes (Extra at) = IsExtraFault bytes at
IsFault bytes (BadJump at) = IsFirstNumberFault bytes (BadJump at)
IsFault bytes (BadSlot at) = IsFirstNumberFault bytes (BadSlot at)
IsFault bytes (Stack at) = IsFirstDepthFault bytes at
IsFault bytes faults.Memory = Unit {0}
