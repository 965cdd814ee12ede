-- The three lists are those of the definition.
use Rattle.std.proofs.Common.{refl}
use Rattle.std.specs.Fmt.{digits}
use Rattle.bk_po.specs.WrittenLists.{OverHasThese, SwapHasThese, FillHasThese}

pub over_has_these : OverHasThese
unfolding digits
over_has_these = refl

pub swap_has_these : SwapHasThese
unfolding digits
swap_has_these = refl

pub fill_has_these : FillHasThese
unfolding digits
fill_has_these = refl
