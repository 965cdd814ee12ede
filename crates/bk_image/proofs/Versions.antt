-- The version of an image, and its MAXINT.
use Rattle.std.proofs.Common.{◌≡◌, ◌≢◌, ℕ, List, ℤ, Bool, true, false, refl, sym, subst, arith, inl, inr}
use Rattle.std.specs.Prelude.{FitsSigned}
use Rattle.std.specs.Int.{w64}
use Rattle.std.specs.Ordering.{int_eq}
use Rattle.std.proofs.lemmas.Int.{ints}
use Rattle.bk_code.specs.declared.image.Image.{Image}
use Rattle.bk_code.specs.Numbers.{int_max, default_max, IsRange}
use Rattle.bk_code.proofs.Ranges.{default_range}
use Rattle.bk_image.specs.declared.version.ImageVersion.{ImageVersion}
use Rattle.bk_image.specs.declared.version.ImageVersion.TheVariants.{First, Second}
use Rattle.bk_image.specs.Spelling.{version_of, laid_out, spelling, FitsMax, FitsFields, HasSpelling}
use Rattle.bk_image.specs.Faults.{IsWrongMax}
use Rattle.bk_image.specs.Soundness.{IsRightMax, AreRight}

same-is : (x y : ℤ) → x ≡ y → int_eq x y ≡ true
same-is x y h = grind (arith, ints)

other-is : (x y : ℤ) → (x ≡ y → ⊥) → int_eq x y ≡ false
other-is x y h = grind (arith, ints)

same-only : (x y : ℤ) → int_eq x y ≡ true → x ≡ y
same-only x y h = grind (arith, ints)

differ : (b : Bool) → b ≡ false → b ≡ true → ⊥
differ b e f = cc

pub is_first : (image : Image) → int_max image ≡ default_max → First ≡ version_of image
is_first image h = rw (same-is (int_max image) default_max h) refl

pub is_second : (image : Image) → (int_max image ≡ default_max → ⊥) → Second ≡ version_of image
is_second image h = rw (other-is (int_max image) default_max h) refl

-- MAXINT that fits 64 bits fits the field of its own version, or needs none
pub own_fits : (image : Image) → FitsSigned w64 (int_max image) → FitsMax (version_of image) (int_max image)
own_fits image fits = by_usual (int_eq (int_max image) default_max) refl
  where
    by_usual : (b : Bool) → int_eq (int_max image) default_max ≡ b → FitsMax (version_of image) (int_max image)
    by_usual true is = rw is (same-only (int_max image) default_max is)
    by_usual false is = rw is fits

-- ---- MAXINT of the second version
-- one that is not right is wrong
pub wrong_max : (v : ImageVersion) (top : ℤ) → (IsRightMax v top → ⊥) → IsWrongMax v top
wrong_max First top none = none tt
wrong_max Second top none = by_usual (int_eq top default_max) refl
  where
    by_usual : (b : Bool) → int_eq top default_max ≡ b → IsWrongMax Second top
    by_usual true is = inr (same-only top default_max is)
    by_usual false is = inl (λ range. none (range, λ usual. differ (int_eq top default_max) is (same-is top default_max usual)))

-- a right one is not wrong
pub not_wrong : (v : ImageVersion) (top : ℤ) → IsRightMax v top → IsWrongMax v top → ⊥
not_wrong First top right wrong = wrong
not_wrong Second top right (inl none) = none right.0
not_wrong Second top right (inr usual) = right.1 usual

-- it is a range
pub right_range : (v : ImageVersion) (top : ℤ) → FitsMax v top → IsRightMax v top → IsRange top
right_range First top fits right = subst IsRange (sym fits) default_range
right_range Second top fits right = right.0

-- and the version is the image's
pub right_version : (v : ImageVersion) (image : Image) → FitsMax v (int_max image) → IsRightMax v (int_max image) → v ≡ version_of image
right_version First image fits right = is_first image fits
right_version Second image fits right = is_second image right.1

-- the range of an image is right in its version
pub own_right : (image : Image) → IsRange (int_max image) → IsRightMax (version_of image) (int_max image)
own_right image range = by_usual (int_eq (int_max image) default_max) refl
  where
    by_usual : (b : Bool) → int_eq (int_max image) default_max ≡ b → IsRightMax (version_of image) (int_max image)
    by_usual true is = rw is tt
    by_usual false is = rw is (range, λ usual. differ (int_eq (int_max image) default_max) is (same-is (int_max image) default_max usual))

-- bytes that are laid out as an image whose numbers are right are its spelling
pub rightly_spelled : (bytes : List ℕ) (v : ImageVersion) (image : Image) → bytes ≡ laid_out v image → FitsFields v image → AreRight v image → HasSpelling image × (bytes ≡ spelling image)
rightly_spelled bytes v image is fits right =
    let own : FitsFields (version_of image) image = subst (λ (w : ImageVersion). FitsFields w image) right.version fits in
    (record { fits = own; few_sets = right.few_sets; few_elements = right.few_elements }, subst (λ (w : ImageVersion). bytes ≡ laid_out w image) right.version is)
