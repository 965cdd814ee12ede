use Rattle.std.proofs.Common.{◌≡◌, ℕ, sym, ◌∙◌, ap, true, false, Bool, not, refl, Option, Some, None}
use Rattle.std.specs.Prelude.{◌&&◌}
use Rattle.std.specs.Option.{is_some}
use Rattle.std.specs.Str.{chars}
use Rattle.bk_lex.specs.Lexis as lexis
use Rattle.bk_calls.specs.Reading.{is_none}
use Rattle.bk_calls.proofs.Arguments.{name_where, name_nowhere}
use Rattle.bk_calls.proofs.argument.is_name.Goals as goal

answered : (o : Option ℕ) (r : Bool) → is_some o ≡ not r → r ≡ is_none o
answered None true h = refl
answered None false h = absurd cc
answered (Some n) true h = absurd cc
answered (Some n) false h = refl

pub returns-then-is_identifier : goal.returns-then-is_identifier
returns-then-is_identifier c =
    let text = c.args.text.now in
    let same : c.in-Ok.characters.now ≡ text = c.in-Ok.ensures.cases.0 in
    let identifier : lexis.is_identifier (chars text) ≡ true = ap (λ t. lexis.is_identifier (chars t)) (sym same) ∙ sym c.is_identifier.ensures ∙ c.if-is_identifier.true in
    let word : c.is_none.result ≡ is_none (lexis.word_number text) = answered c.number.result c.is_none.result c.is_none.ensures ∙ ap is_none c.number.ensures in
    word ∙ sym (ap (λ b. b && is_none (lexis.word_number text)) identifier) ∙ sym (name_where text c.in-Ok.ensures.cases.1)

pub returns-in-Err : goal.returns-in-Err
returns-in-Err c = sym (name_nowhere c.args.text.now c.in-Err.ensures.cases.0)
