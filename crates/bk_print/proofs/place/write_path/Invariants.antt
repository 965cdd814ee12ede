use Rattle.std.proofs.Common.{◌≡◌, ◌++◌, ◌∷◌, [], map, drop}
use Rattle.bk_show.specs.Items.{blank, text_of}
use Rattle.bk_print.specs.Text.{behind_each, number_items}
use Rattle.bk_print.proofs.place.write_path.Given as goal

abbrev pub invariant-loop-number : goal.invariant-loop-number
invariant-loop-number l = l.out.items ++ text_of (behind_each (blank ∷ []) (map (number_items) (drop l.number-index l.path))) ≡ l.fn.out.items ++ text_of (behind_each (blank ∷ []) (map (number_items) l.path))
