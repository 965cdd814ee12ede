use Rattle.std.proofs.Common.{List, ℕ, ◌++◌, ◌∙◌, ap, codes}
use Rattle.bk_evidence.specs.Html.{text_within, escaped}
use Rattle.bk_evidence.proofs.Pieces.{two_pieces}
use Rattle.bk_evidence.proofs.html.write_question.Goals as goal

pub returns : goal.returns
returns c =
    let item = c.args.item.now in
    two_pieces c.args.page.now.items c.put_text.new.page.items c.escape.new.page.items
    (text_within (codes "<tr><td><code>") item.name (codes "</code></td><td>")) (escaped item.words)
    (c.in_ok-put_text.ensures ∙ ap (λ (t : List ℕ). c.args.page.now.items ++ text_within (codes "<tr><td><code>") t (codes "</code></td><td>")) c.as_bytes.ensures.value)
    (c.in_ok-escape.ensures ∙ ap (λ (t : List ℕ). c.put_text.new.page.items ++ escaped t) c.as_bytes-2.ensures.value)
