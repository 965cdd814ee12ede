use Rattle.std.proofs.Common.{List, ℕ, ◌++◌, ◌∙◌, ap, codes}
use Rattle.std.specs.Prelude.{decimal}
use Rattle.bk_evidence.specs.Html.{text_within}
use Rattle.bk_evidence.proofs.Pieces.{two_pieces}
use Rattle.bk_evidence.proofs.html.write_rules.Goals as goal

pub returns : goal.returns
returns c =
    let script = c.args.script.now in
    two_pieces c.args.page.now.items c.put_text.new.page.items c.write_count.new.text.items
    (text_within (codes "<br><code>") script.place (codes "</code>")) (codes ", rules " ++ decimal script.rules)
    (c.in_ok-put_text.ensures ∙ ap (λ (t : List ℕ). c.args.page.now.items ++ text_within (codes "<br><code>") t (codes "</code>")) c.as_bytes.ensures.value)
    c.in_ok-write_count.ensures
