use Rattle.std.proofs.Common.{List, ℕ, ◌++◌, ◌∙◌, ap, codes}
use Rattle.bk_evidence.specs.Html.{text_within, stray_part}
use Rattle.bk_evidence.proofs.Pieces.{one_piece_more}
use Rattle.bk_evidence.proofs.html.write_each_stray.Goals as goal

pub loop-stray-preserved : goal.loop-stray-preserved
loop-stray-preserved c =
    one_piece_more stray_part c.args.page.now.items c.loop-stray.page.items c.put_text.new.page.items c.args.strays.now c.loop-stray.stray-index c.stray-item.result
    c.loop-stray-test.true c.stray-item.is c.loop-stray.invariant
    (c.in_ok-put_text.ensures ∙ ap (λ (t : List ℕ). c.loop-stray.page.items ++ text_within (codes "<li><code>") t (codes "</code></li>\n")) c.as_bytes.ensures.value)
