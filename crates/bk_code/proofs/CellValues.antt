-- A number stands for one value of a kind.
use Rattle.std.proofs.Common.{◌≡◌, refl, sym, ◌∙◌, true, false}
use Rattle.bk_code.specs.declared.image.CellKind.TheVariants.{Integer, Bool as BoolKind, Set}
use Rattle.bk_code.specs.CellValues.{Whole, Truth, Element, StandsForOne}

pub stands_for_one : StandsForOne
stands_for_one image Integer (Whole n) (Whole m) p q same = cc
stands_for_one image Integer (Whole n) (Truth b) p q same = absurd q
stands_for_one image Integer (Whole n) (Element s i) p q same = absurd q
stands_for_one image Integer (Truth b) w p q same = absurd p
stands_for_one image Integer (Element s i) w p q same = absurd p
stands_for_one image BoolKind (Whole n) w p q same = absurd p
stands_for_one image BoolKind (Element s i) w p q same = absurd p
stands_for_one image BoolKind (Truth b) (Whole n) p q same = absurd q
stands_for_one image BoolKind (Truth b) (Element s i) p q same = absurd q
stands_for_one image BoolKind (Truth true) (Truth true) p q same = refl
stands_for_one image BoolKind (Truth true) (Truth false) p q same = cc
stands_for_one image BoolKind (Truth false) (Truth true) p q same = cc
stands_for_one image BoolKind (Truth false) (Truth false) p q same = refl
stands_for_one image (Set k) (Whole n) w p q same = absurd p
stands_for_one image (Set k) (Truth b) w p q same = absurd p
stands_for_one image (Set k) (Element s i) (Whole n) p q same = absurd q
stands_for_one image (Set k) (Element s i) (Truth b) p q same = absurd q
stands_for_one image (Set k) (Element s i) (Element t j) p q same =
    let sets : s ≡ t = p.0 ∙ sym q.0 in
    cc
