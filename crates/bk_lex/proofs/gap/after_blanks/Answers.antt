use Rattle.std.proofs.Common.{◌≡◌, length, take, subst, sym, IsUtf8}
use Rattle.std.specs.Prelude.{take_while}
use Rattle.bk_lex.specs.Lexis.{is_blank}
use Rattle.bk_lex.specs.Parts.{IsRun}
use Rattle.bk_lex.proofs.Runs.{run_at, blanks_boundary}
use Rattle.bk_lex.proofs.gap.after_blanks.Goals as goal

pub split_at-requires : goal.split_at-requires
split_at-requires c =
    let n = c.blanks_in_front.result in
    let text = c.args.text.now in
    let e : n ≡ length (take_while is_blank text) = subst (λ t. n ≡ length (take_while is_blank t)) c.as_bytes.ensures.value c.blanks_in_front.ensures in
    blanks_boundary text n (subst IsUtf8 c.as_bytes.ensures.value c.as_bytes.ensures.utf8) e

pub returns : goal.returns
returns c =
    let n = c.blanks_in_front.result in
    let text = c.args.text.now in
    let e : n ≡ length (take_while is_blank text) = subst (λ t. n ≡ length (take_while is_blank t)) c.as_bytes.ensures.value c.blanks_in_front.ensures in
    (take n text, subst (λ rest. IsRun is_blank text (take n text) rest) (sym c.split_at.ensures.back) (run_at is_blank text n e))
