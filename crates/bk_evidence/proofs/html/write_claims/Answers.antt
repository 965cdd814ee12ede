use Rattle.std.proofs.Common.{List, ℕ, ◌++◌, ◌∙◌, ap, codes}
use Rattle.bk_evidence.specs.Html.{text_within}
use Rattle.bk_evidence.proofs.Pieces.{three_pieces}
use Rattle.bk_evidence.proofs.html.write_claims.Goals as goal

pub returns : goal.returns
returns c =
    let claims = c.args.claims in
    let proved = codes "<h2>What this says</h2>\n<p><b>Proved</b>: " in
    let trusted = codes "<p><b>Trusted</b>: " in
    let others = codes "<p><b>Not claimed</b>: " in
    let behind = codes "</p>\n" in
    three_pieces c.args.page.now.items c.put_text.new.page.items c.put_text-2.new.page.items c.put_text-3.new.page.items
    (text_within proved claims.proved.now behind) (text_within trusted claims.trusted.now behind) (text_within others claims.not_claimed.now behind)
    (c.in_ok-put_text.ensures ∙ ap (λ (t : List ℕ). c.args.page.now.items ++ text_within proved t behind) c.as_bytes.ensures.value)
    (c.in_ok-put_text-2.ensures ∙ ap (λ (t : List ℕ). c.put_text.new.page.items ++ text_within trusted t behind) c.as_bytes-2.ensures.value)
    (c.in_ok-put_text-3.ensures ∙ ap (λ (t : List ℕ). c.put_text-2.new.page.items ++ text_within others t behind) c.as_bytes-3.ensures.value)
