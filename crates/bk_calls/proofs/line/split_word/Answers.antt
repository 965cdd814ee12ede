use Rattle.std.proofs.Common.{◌≡◌, ℕ, ◌∙◌, not, rules, tests}
use Rattle.std.specs.Prelude.{position}
use Rattle.std.proofs.lemmas.Iterator.{YieldsList-from_slice}
use Rattle.std.proofs.lemmas.Iterator.Search.{position_from_yields_List}
use Rattle.bk_calls.specs.Reading.{is_plain}
use Rattle.bk_calls.proofs.Words.{split_front}
use Rattle.bk_calls.proofs.line.split_word.Goals as goal

pub returns-clause-front : goal.returns-clause-front
returns-clause-front c =
    let found : c.position.result ≡ position (λ (b : ℕ). not (is_plain b)) c.args.text.now = position_from_yields_List (λ (b : ℕ). not (is_plain b)) _ _ c.position.result c.position.ensures.ran (YieldsList-from_slice _ c.iter.ensures.rest) (λ x b q k. search (rules, tests)) in
    c.split_at.ensures.front ∙ (split_front c.args.text.now c.position.result c.unwrap_or-end.result found c.unwrap_or-end.ensures).0

pub returns-clause-behind : goal.returns-clause-behind
returns-clause-behind c =
    let found : c.position.result ≡ position (λ (b : ℕ). not (is_plain b)) c.args.text.now = position_from_yields_List (λ (b : ℕ). not (is_plain b)) _ _ c.position.result c.position.ensures.ran (YieldsList-from_slice _ c.iter.ensures.rest) (λ x b q k. search (rules, tests)) in
    c.split_at.ensures.back ∙ (split_front c.args.text.now c.position.result c.unwrap_or-end.result found c.unwrap_or-end.ensures).1
