use Rattle.std.proofs.Common.{◌≡◌, ◌≤◌, length, take, Some, sym, subst, arith, inl, inr}
use Rattle.std.proofs.lemmas.Bool.{cases_lt}
use Rattle.bk_lex.specs.Lexis.{sign_number}
use Rattle.bk_lex.specs.Parts.{IsFirstSign, NoSignOfLength}
use Rattle.bk_lex.proofs.Numbered.{sign_ascii}
use Rattle.bk_lex.proofs.Runs.{ascii_boundary}
use Rattle.bk_lex.proofs.Signs.{first_sign, no_sign}
use Rattle.bk_lex.proofs.part.first_sign.Goals as goal

pub split_at-requires : goal.split_at-requires
split_at-requires c =
    let n = c.loop-length.length in
    let bytes = c.as_bytes.result.now in
    let fits : n ≤ length c.args.text.now = subst (λ t. n ≤ length t) c.as_bytes.ensures.value c.in-Some.ensures.0 in
    let sign : sign_number (take n c.args.text.now) ≡ Some c.in-Some.op = subst (λ t. sign_number (take n t) ≡ Some c.in-Some.op) c.as_bytes.ensures.value c.in-Some.ensures.1 in
    ascii_boundary c.args.text.now n c.utf8.text fits (sign_ascii c.in-Some.op (take n c.args.text.now) sign)

pub returns-in-Some : goal.returns-in-Some
returns-in-Some c =
    let n = c.loop-length.length in
    let text = c.args.text.now in
    let sign : sign_number (take n text) ≡ Some c.in-Some.op = subst (λ t. sign_number (take n t) ≡ Some c.in-Some.op) c.as_bytes.ensures.value c.in-Some.ensures.1 in
    let fits : n ≤ length text = subst (λ t. n ≤ length t) c.as_bytes.ensures.value c.in-Some.ensures.0 in
    subst (λ rest. IsFirstSign c.in-Some.op text rest) (sym c.split_at.ensures.back)
    (first_sign n c.in-Some.op text fits sign c.loop-length.invariant.1)

pub loop-length-preserved : goal.loop-length-preserved
loop-length-preserved c = (
  omega (arith, c.loop-length.invariant.0),
  λ k above below. elim (cases_lt c.loop-length.length k) [
    | inl more ↦ c.loop-length.invariant.1 k more below
    | inr less ↦ subst (λ m. NoSignOfLength m c.args.text.now) (omega arith) (subst (λ t. NoSignOfLength c.loop-length.length t) c.as_bytes.ensures.value c.in_default.ensures)
  ],
)

pub returns : goal.returns
returns c = no_sign c.args.text.now c.loop-length.length (omega arith) c.loop-length.invariant.1
