use Rattle.std.proofs.Common.{rules, ◌≡◌}
use Rattle.std.proofs.lemmas.Fn.{always_returns_same}
use Rattle.std.proofs.lemmas.Str.{IsCharBoundary-end}
use Rattle.bk_lex.proofs.Identifiers.{stops, continues_to_end, continues_to}
use Rattle.bk_lex.proofs.part.identifier_length.Goals as goal

pub returns-in_default : goal.returns-in_default
returns-in_default c =
    continues_to_end c.args.text.now
    (c.in_default.ensures.cases stops (always_returns_same _ (λ a r. r ≡ stops a.0) _ (λ a r f' called. search rules)))
    (IsCharBoundary-end c.args.text.now)

pub returns : goal.returns
returns c =
    let found = c.in-Some.ensures.cases in
    let both = found.1 stops (always_returns_same _ (λ a r. r ≡ stops a.0) _ (λ a r f' called. search rules)) in
    continues_to c.args.text.now c.in-Some.end found.0 both.0 both.1 found.3
