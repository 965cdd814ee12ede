use Rattle.std.proofs.Common.{◌≡◌, ◌++◌, map, drop}
use Rattle.bk_show.specs.Items.{text_of}
use Rattle.bk_ops.specs.declared.sign.TheConstants.{BAR}
use Rattle.bk_print.specs.Text.{behind_each, spaced, line_items}
use Rattle.bk_print.proofs.certificate.write_more_lines.Given as goal

abbrev pub invariant-loop-line : goal.invariant-loop-line
invariant-loop-line l = l.out.items ++ text_of (behind_each (spaced BAR) (map (line_items) (drop l.line-index l.lines))) ≡ l.fn.out.items ++ text_of (behind_each (spaced BAR) (map (line_items) l.lines))
