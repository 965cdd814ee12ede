use Rattle.std.proofs.Common.{List, ℕ, [], ◌++◌, ◌∙◌, ap, codes}
use Rattle.bk_evidence.specs.Html.{text_within}
use Rattle.bk_evidence.proofs.Pieces.{two_pieces}
use Rattle.bk_evidence.proofs.html.write_tool.Goals as goal

pub returns : goal.returns
returns c =
    let report = c.args.report.now in
    two_pieces c.args.page.now.items c.put_text.new.page.items c.put_text-2.new.page.items
    (text_within (codes "<h2>Written by</h2>\n<p>bkproof of bkit ") report.version.now []) (text_within (codes ", proved with ") report.toolchain.now (codes "</p>\n"))
    (c.in_ok-put_text.ensures ∙ ap (λ (t : List ℕ). c.args.page.now.items ++ text_within (codes "<h2>Written by</h2>\n<p>bkproof of bkit ") t []) c.as_bytes.ensures.value)
    (c.in_ok-put_text-2.ensures ∙ ap (λ (t : List ℕ). c.put_text.new.page.items ++ text_within (codes ", proved with ") t (codes "</p>\n")) c.as_bytes-2.ensures.value)
