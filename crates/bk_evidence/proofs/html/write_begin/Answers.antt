use Rattle.std.proofs.Common.{List, ℕ, ◌++◌, ◌∙◌, ap, codes}
use Rattle.bk_evidence.specs.declared.page.TheConstants.{HEAD, STYLE}
use Rattle.bk_evidence.specs.Html.{text_within}
use Rattle.bk_evidence.proofs.Pieces.{two_pieces}
use Rattle.bk_evidence.proofs.html.write_begin.Goals as goal

pub returns : goal.returns
returns c =
    let machine = c.args.report.now.machine in
    two_pieces c.args.page.now.items c.put_text.new.page.items c.put_text-2.new.page.items
    (text_within HEAD.now machine STYLE.now) (text_within (codes "<h1>Status of ") machine (codes "</h1>\n"))
    (c.in_ok-put_text.ensures ∙ ap (λ (t : List ℕ). c.args.page.now.items ++ text_within HEAD.now t STYLE.now) c.as_bytes.ensures.value)
    (c.in_ok-put_text-2.ensures ∙ ap (λ (t : List ℕ). c.put_text.new.page.items ++ text_within (codes "<h1>Status of ") t (codes "</h1>\n")) c.as_bytes-2.ensures.value)
