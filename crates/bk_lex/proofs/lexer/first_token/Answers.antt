use Rattle.std.proofs.Common.{◌≡◌, ◌<◌, ◌^◌, pos, to_z, of_z, to_z-of_z, arith, rules, refl, sym, ◌∙◌, subst, ap}
use mir.Syntax.{w128}
use Rattle.bk_form.specs.declared.token.TokenKind.TheVariants.{BoundName, Number}
use Rattle.bk_lex.specs.Lexis.{BeginsWith, numeral_from}
use Rattle.bk_lex.proofs.Reading.{number_token, bound_token, sign_token, no_token, wide_number}
use Rattle.bk_lex.proofs.lexer.first_token.Goals as goal

pub returns-in_default-number : goal.returns-in_default-number
returns-in_default-number c =
    let digits = c.in-Some-first_numeral.digits.now in (
      refl,
      record {
        kind = Number (pos (numeral_from 0 digits));
        after = c.in-Some-first_numeral.rest.now;
        begins = number_token c.args.text.now digits c.in-Some-first_numeral.rest.now c.requires c.in-Some-first_numeral.ensures;
        wide = wide_number (numeral_from 0 digits) c.in_default-number.ensures;
      },
    )

pub returns-in-Some-first_numeral : goal.returns-in-Some-first_numeral
returns-in-Some-first_numeral c =
    let digits = c.in-Some-first_numeral.digits.now in
    let rest = c.in-Some-first_numeral.rest.now in
    let small : numeral_from 0 digits < 2 ^ 127 = c.in-Some-number.ensures.0 in
    let value : c.in-Some-number.number ≡ pos (numeral_from 0 digits) = c.in-Some-number.ensures.1 in
    let same : to_z w128 (of_z w128 c.in-Some-number.number) ≡ pos (numeral_from 0 digits) =
    ap (λ z. to_z w128 (of_z w128 z)) value ∙ to_z-of_z {w = w128} {z = pos (numeral_from 0 digits)} (search (rules, arith)) in (
      subst (λ z. BeginsWith (Number z) c.args.text.now rest) (sym same) (number_token c.args.text.now digits rest c.requires c.in-Some-first_numeral.ensures),
      (numeral_from 0 digits, same, small),
    )

pub returns-in_default-level : goal.returns-in_default-level
returns-in_default-level c =
    let digits = c.in-Some-first_dollar.digits.now in (
      refl,
      record {
        kind = BoundName (numeral_from 0 digits);
        after = c.in-Some-first_dollar.rest.now;
        begins = bound_token c.args.text.now digits c.in-Some-first_dollar.rest.now c.requires c.in-Some-first_dollar.ensures;
        wide = c.in_default-level.ensures;
      },
    )

pub returns-in-Some-first_dollar : goal.returns-in-Some-first_dollar
returns-in-Some-first_dollar c =
    let digits = c.in-Some-first_dollar.digits.now in
    let rest = c.in-Some-first_dollar.rest.now in (
      subst (λ n. BeginsWith (BoundName n) c.args.text.now rest) (sym c.in-Some-level.ensures.1)
          (bound_token c.args.text.now digits rest c.requires c.in-Some-first_dollar.ensures),
      subst (λ n. n < 2 ^ 32) (sym c.in-Some-level.ensures.1) c.in-Some-level.ensures.0,
    )

pub returns-in_default-first_sign : goal.returns-in_default-first_sign
returns-in_default-first_sign c =
    (refl, no_token c.args.text.now c.in_default.ensures c.in_default-first_numeral.ensures c.in_default-first_dollar.ensures c.in_default-first_sign.ensures)

pub returns : goal.returns
returns c = (sign_token c.in-Some-first_sign.op c.args.text.now c.in-Some-first_sign.rest.now c.requires c.in-Some-first_sign.ensures, tt)
