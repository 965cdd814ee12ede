use Rattle.std.proofs.Common.{◌≡◌, sym, ◌∙◌, ap, ◌∷◌, ◌++◌, true, refl, rules, tests}
use Rattle.std.specs.Prelude.{◌&&◌}
use Rattle.std.specs.List.{list_all}
use Rattle.std.specs.Str.{chars}
use Rattle.std.specs.Char.{encode_utf8}
use Rattle.std.proofs.lemmas.Str.{chars_past_char, IsUtf8-past_char}
use Rattle.std.proofs.lemmas.Iterator.{YieldsList-from_chars}
use Rattle.std.proofs.lemmas.Iterator.Search.{all_from_yields_List}
use Rattle.unicode_ident.specs.Ident.{is_xid_start, is_xid_continue}
use Rattle.bk_lex.specs.Lexis as lexis
use Rattle.bk_calls.proofs.argument.is_identifier.Goals as goal

pub returns-then-is_xid_start : goal.returns-then-is_xid_start
returns-then-is_xid_start c =
    let text = c.args.text.now in
    let first = c.in-Some.first in
    let rest = c.next.new.self.rest.now in
    let split : text ≡ encode_utf8 first ++ rest = sym c.chars-characters.ensures.rest ∙ c.in-Some.ensures.steps.0 in
    let spelt : chars text ≡ first ∷ chars rest = chars_past_char text rest first c.utf8.text split in
    let others : c.all.result ≡ list_all is_xid_continue (chars rest) = all_from_yields_List is_xid_continue _ _ c.all.result c.all.ensures.ran (YieldsList-from_chars rest (IsUtf8-past_char text rest first c.utf8.text split) refl) (λ x b q k. search (rules, tests)) in
    let begins : is_xid_start first ≡ true = sym c.is_xid_start.ensures.value ∙ c.if-is_xid_start.true in
    others ∙ sym (ap (λ b. b && list_all is_xid_continue (chars rest)) begins) ∙ sym (ap lexis.is_identifier spelt)
