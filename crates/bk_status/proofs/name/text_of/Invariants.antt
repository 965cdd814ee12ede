use Rattle.std.proofs.Common.{◌≡◌, ◌∷◌, take}
use Rattle.bk_status.specs.States.{name_text}
use Rattle.bk_status.proofs.name.text_of.Given as goal

abbrev pub invariant-loop-part : goal.invariant-loop-part
invariant-loop-part l = l.text.items ≡ name_text (l.fn.first ∷ take l.part-index l.rest)
