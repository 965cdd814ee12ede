use Rattle.std.proofs.Common.{◌≡◌, length, take, subst, sym}
use Rattle.std.specs.Prelude.{take_while}
use Rattle.bk_lex.specs.Lexis.{stays_in_line}
use Rattle.bk_lex.specs.Parts.{IsRun}
use Rattle.bk_lex.proofs.Runs.{run_at, line_boundary}
use Rattle.bk_lex.proofs.gap.from_line_end.Goals as goal

pub split_at-requires : goal.split_at-requires
split_at-requires c =
    let n = c.line_length.result in
    let text = c.args.text.now in
    line_boundary text n (subst (λ t. n ≡ length (take_while stays_in_line t)) c.as_bytes.ensures.value c.line_length.ensures)

pub returns : goal.returns
returns c =
    let n = c.line_length.result in
    let text = c.args.text.now in
    let e : n ≡ length (take_while stays_in_line text) = subst (λ t. n ≡ length (take_while stays_in_line t)) c.as_bytes.ensures.value c.line_length.ensures in
    (take n text, subst (λ rest. IsRun stays_in_line text (take n text) rest) (sym c.split_at.ensures.back) (run_at stays_in_line text n e))
