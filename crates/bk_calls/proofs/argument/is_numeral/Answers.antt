use Rattle.std.proofs.Common.{◌≡◌, ℕ, refl, ◌∙◌, List, [], ◌∷◌, length, rules, tests}
use Rattle.std.specs.List.{list_all}
use Rattle.std.proofs.lemmas.Iterator.{YieldsList-from_slice}
use Rattle.std.proofs.lemmas.Iterator.Search.{all_from_yields_List}
use Rattle.bk_lex.specs.Lexis as lexis
use Rattle.bk_calls.proofs.argument.is_numeral.Goals as goal

some_numeral : (text : List ℕ) → (length text ≡ 0 → ⊥) → list_all lexis.is_digit text ≡ lexis.is_numeral text
some_numeral [] h = absurd (h refl)
some_numeral (b ∷ bs) h = refl

pub returns-then-not-is_empty : goal.returns-then-not-is_empty
returns-then-not-is_empty c =
    let digits : c.all.result ≡ list_all lexis.is_digit c.args.text.now = all_from_yields_List lexis.is_digit _ _ c.all.result c.all.ensures.ran (YieldsList-from_slice _ c.iter.ensures.rest) (λ x b q k. search (rules, tests)) in
    digits ∙ some_numeral c.args.text.now (λ empty. search rules)
