use Rattle.std.proofs.Common.{◌≡◌, take, false}
use Rattle.bk_elab_terms.specs.Sights.{among}
use Rattle.bk_elab_terms.proofs.sight.Tabled.find_element.Given as goal

abbrev pub invariant-loop-index : goal.invariant-loop-index
invariant-loop-index l = among l.text (take l.index l.elements) ≡ false
