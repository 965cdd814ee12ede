-- Only the contracts of private functions name what stands here.
-- Instructions whose numbers are right, and images.
use Rattle.std.specs.Prelude.{◌≡◌, ◌≢◌, ℕ, ◌+◌, ◌<◌, ◌≤◌, ℤ, List, All, length, slice_index_or}
use Rattle.bk_limits.specs.declared.TheConstants.{MOST_SETS}
use Rattle.bk_code.specs.declared.image.Image.{Image}
use Rattle.bk_code.specs.declared.instruction.Inst.{Inst}
use Rattle.bk_code.specs.Numbers.{int_max, default_max, IsRange}
use Rattle.bk_code.specs.Checks.{IsGoodInst, IsLeaving, IsNumbered}
use Rattle.bk_image.specs.declared.version.ImageVersion.{ImageVersion}
use Rattle.bk_image.specs.declared.version.ImageVersion.TheVariants.{First, Second}
use Rattle.bk_image.specs.Spelling.{version_of, HasFewElements}

-- the instruction at a place is good, and is no last one after which control goes on
pub record IsSound (image : Image) (k : ℕ) (i : Inst) : Type 0 where
  pub good : IsGoodInst image k i
  pub last : k + 1 ≡ length image.code → IsLeaving i

-- the first n instructions are
abbrev pub AreSound : Image → List Inst → ℕ → Type 0
AreSound image code n = (k : ℕ) (d : Inst) → k < n → IsSound image k (slice_index_or code k d)

-- MAXINT is right, where the version has it
abbrev pub IsRightMax : ImageVersion → ℤ → Type 0
IsRightMax First max = Unit {0}
IsRightMax Second max = IsRange max × (max ≢ default_max)

-- no set has too many elements
abbrev pub HaveFewElements : Image → Type 0
HaveFewElements image = All (λ names. HasFewElements (int_max image) names) image.sets

-- the numbers of an image are right, and those of its layout in this version
pub record AreRight (v : ImageVersion) (image : Image) : Type 0 where
  pub numbered : IsNumbered image
  pub version : v ≡ version_of image
  pub few_sets : length image.sets ≤ MOST_SETS
  pub few_elements : HaveFewElements image
