use Rattle.std.proofs.Common.{◌≡◌, ◌<◌, ◌^◌, ◌++◌, List, ℕ, refl, sym, ◌∙◌, subst}
use Rattle.bk_form.specs.declared.token.TokenKind.TheVariants.{Name, LevelName}
use Rattle.bk_lex.specs.Lexis.{BeginsWith, numeral_from}
use Rattle.bk_lex.proofs.Reading.{name_token, word_token, level_token}
use Rattle.bk_lex.proofs.lexer.first_name.Goals as goal

pub returns-in_default-level : goal.returns-in_default-level
returns-in_default-level c =
    let digits = c.in-Some.digits.now in (
      refl,
      record {
        kind = LevelName c.args.word.now (numeral_from 0 digits);
        after = c.in-Some.rest.now;
        begins = level_token (c.args.word.now ++ c.args.rest.now) c.args.word.now c.args.rest.now digits c.in-Some.rest.now c.requires.first c.requires.comment c.in-Some.ensures;
        wide = c.in_default-level.ensures;
      },
    )

pub returns-in-Some : goal.returns-in-Some
returns-in-Some c =
    let text : List ℕ = c.args.word.now ++ c.args.rest.now in
    let digits = c.in-Some.digits.now in
    let rest = c.in-Some.rest.now in
    let name : c.from_bytes-name.result ≡ c.args.word.now = c.from_bytes-name.ensures ∙ c.in_ok-from_slice.ensures.items in
    let token : BeginsWith (LevelName c.args.word.now (numeral_from 0 digits)) text rest =
    level_token text c.args.word.now c.args.rest.now digits rest c.requires.first c.requires.comment c.in-Some.ensures in (
      subst (λ n. BeginsWith (LevelName c.from_bytes-name.result n) text rest) (sym c.in-Some-level.ensures.1)
          (subst (λ w. BeginsWith (LevelName w (numeral_from 0 digits)) text rest) (sym name) token),
      subst (λ n. n < 2 ^ 32) (sym c.in-Some-level.ensures.1) c.in-Some-level.ensures.0,
    )

pub returns-in-Some-word_number : goal.returns-in-Some-word_number
returns-in-Some-word_number c = (
  word_token (c.args.word.now ++ c.args.rest.now) c.args.word.now c.args.rest.now c.in-Some-word_number.op c.requires.first c.requires.comment c.in_default.ensures
      (sym c.word_number.ensures ∙ c.in-Some-word_number.is),
  tt,
)

pub returns : goal.returns
returns c =
    let text : List ℕ = c.args.word.now ++ c.args.rest.now in
    let name : c.from_bytes-name-2.result ≡ c.args.word.now = c.from_bytes-name-2.ensures ∙ c.in_ok-from_slice-2.ensures.items in (
      subst (λ w. BeginsWith (Name w) text c.args.rest.now) (sym name)
          (name_token text c.args.word.now c.args.rest.now c.requires.first c.requires.comment c.in_default.ensures (sym c.word_number.ensures ∙ c.in_default-word_number.is)),
      tt,
    )
