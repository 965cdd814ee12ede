use Rattle.std.proofs.Common.{List, ℕ, ◌++◌, ◌∙◌, ap, codes, string_bytes}
use Rattle.bk_evidence.specs.Html.{text_within, count_within}
use Rattle.bk_evidence.proofs.Pieces.{three_pieces}
use Rattle.bk_evidence.proofs.html.write_input.Goals as goal

pub returns : goal.returns
returns c =
    let input = c.args.input.now in
    three_pieces c.args.page.now.items c.put_text.new.page.items c.put_count.new.page.items c.put_text-2.new.page.items
    (text_within (codes "<tr><td><code>") input.name (codes "</code></td>")) (count_within (codes "<td>") input.length (codes "</td>"))
    (text_within (codes "<td><code>") (string_bytes input.digest) (codes "</code></td></tr>\n"))
    (c.in_ok-put_text.ensures ∙ ap (λ (t : List ℕ). c.args.page.now.items ++ text_within (codes "<tr><td><code>") t (codes "</code></td>")) c.as_bytes.ensures.value)
    c.in_ok-put_count.ensures
    (c.in_ok-put_text-2.ensures ∙ ap (λ (t : List ℕ). c.put_count.new.page.items ++ text_within (codes "<td><code>") t (codes "</code></td></tr>\n")) (c.as_bytes-2.ensures.value ∙ c.as_str.ensures.value))
