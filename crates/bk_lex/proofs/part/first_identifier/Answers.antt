use Rattle.std.proofs.Common.{◌≡◌, length, take, drop, subst, sym, ◌∙◌}
use Rattle.bk_lex.specs.Parts.{IsFirstIdentifier}
use Rattle.bk_lex.proofs.Identifiers.{no_word, first_word, nothing, none_in_nothing}
use Rattle.bk_lex.proofs.part.first_identifier.Goals as goal

pub returns-in_err-next : goal.returns-in_err-next
returns-in_err-next c =
    let empty : length c.chars.result.rest.now ≡ 0 = c.in_err-next.ensures.steps.0.0 in
    none_in_nothing _ c.args.text.now c.from_residual.ensures (nothing c.args.text.now (subst (λ t. length t ≡ 0) c.chars.ensures.rest empty))

pub returns-then-not-is_xid_start : goal.returns-then-not-is_xid_start
returns-then-not-is_xid_start c =
    no_word c.args.text.now c.in_ok-next.field-0 c.next.new.self.rest.now (sym c.chars.ensures.rest ∙ c.in_ok-next.ensures.steps.0) (sym c.is_xid_start.ensures.value ∙ c.if-not-is_xid_start.true)

pub returns : goal.returns
returns c =
    let text = c.args.text.now in
    let n = c.identifier_length.result in
    let first : IsFirstIdentifier text (take n text) (drop n text) =
    first_word text n c.in_ok-next.field-0 c.next.new.self.rest.now c.identifier_length.ensures (sym c.is_xid_start.ensures.value ∙ c.if-not-is_xid_start.false) (sym c.chars.ensures.rest ∙ c.in_ok-next.ensures.steps.0) in
    subst (λ w. IsFirstIdentifier text w c.split_at.result.1.now) (sym (c.as_bytes.ensures.value ∙ c.split_at.ensures.front))
    (subst (λ r. IsFirstIdentifier text (take n text) r) (sym c.split_at.ensures.back) first)
