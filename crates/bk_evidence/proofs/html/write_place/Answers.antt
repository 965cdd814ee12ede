use Rattle.std.proofs.Common.{List, ℕ, [], ◌++◌, ◌∙◌, ap, codes}
use Rattle.std.specs.Prelude.{decimal}
use Rattle.bk_evidence.specs.Html.{text_within, count_within}
use Rattle.bk_evidence.proofs.Pieces.{three_pieces}
use Rattle.bk_evidence.proofs.html.write_place.Goals as goal

pub returns : goal.returns
returns c =
    let item = c.args.item.now in
    three_pieces c.args.page.now.items c.put_text.new.page.items c.write_count.new.text.items c.put_count.new.page.items
    (text_within (codes "</td><td><code>") item.file []) (codes ":" ++ decimal item.line) (count_within (codes ":") item.column (codes "</code></td>"))
    (c.in_ok-put_text.ensures ∙ ap (λ (t : List ℕ). c.args.page.now.items ++ text_within (codes "</td><td><code>") t []) c.as_bytes.ensures.value)
    c.in_ok-write_count.ensures c.in_ok-put_count.ensures
