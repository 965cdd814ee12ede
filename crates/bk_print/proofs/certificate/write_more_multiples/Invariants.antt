use Rattle.std.proofs.Common.{◌≡◌, ◌++◌, map, drop}
use Rattle.bk_show.specs.Items.{text_of}
use Rattle.bk_ops.specs.declared.sign.TheConstants.{PLUS}
use Rattle.bk_print.specs.Text.{behind_each, spaced, multiple_items}
use Rattle.bk_print.proofs.certificate.write_more_multiples.Given as goal

abbrev pub invariant-loop-multiple : goal.invariant-loop-multiple
invariant-loop-multiple l = l.out.items ++ text_of (behind_each (spaced PLUS) (map (multiple_items) (drop l.multiple-index l.multiples))) ≡ l.fn.out.items ++ text_of (behind_each (spaced PLUS) (map (multiple_items) l.multiples))
