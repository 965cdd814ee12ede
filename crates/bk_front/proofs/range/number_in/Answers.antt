use Rattle.std.proofs.Common.{◌≡◌, ◌<◌, ◌^◌, ◌∙◌, ℕ, List, MatchOption, ap, subst, rules}
use Rattle.std.specs.Str.Parse.{IsNumeral, digits_value, without_leading_plus}
use Rattle.bk_front.specs.ProjectFile.{first_or}
use Rattle.bk_front.proofs.RangeText.{signed, unsigned, digits_are_text}
use Rattle.bk_front.proofs.range.number_in.Goals as goal

pub returns-then-begins_with_plus : goal.returns-then-begins_with_plus
returns-then-begins_with_plus c = λ digits _. signed c.args.text.now (search rules) digits

pub returns-in-Ok : goal.returns-in-Ok
returns-in-Ok c =
    let plain : first_or 0 c.args.text.now ≡ 43 → ⊥ = search rules in
    let same : without_leading_plus c.in-Ok.digits.now ≡ c.args.text.now = ap without_leading_plus c.in-Ok.ensures.cases.0 ∙ unsigned c.args.text.now plain in
    subst (λ (ds : List ℕ). MatchOption c.parsed.result (IsNumeral 10 ds → digits_value 10 ds < 2 ^ 64 → ⊥) (λ (n : ℕ). IsNumeral 10 ds × (n ≡ digits_value 10 ds))) same c.parsed.ensures

pub returns-in-Err : goal.returns-in-Err
returns-in-Err c = λ digits _. c.in-Err.ensures.cases.0 (digits_are_text c.args.text.now digits)
