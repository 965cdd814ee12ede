use Rattle.std.proofs.Common.{rules, ◌∙◌, ap, sym, subst, IfOk, MatchOption}
use Rattle.bk_form.specs.declared.token.TokenKind.TheVariants.{Sign, Word}
use Rattle.bk_raw.specs.Grammar.Spelling.{Typed}
use Rattle.bk_p_expr.specs.Fronts.{Longest, Nothing}
use Rattle.bk_p_expr.proofs.Choices.{if_none, if_some}
use Rattle.bk_p_proof.proofs.TypeKinds.{no_type_empty, no_type_other, no_type_word, no_type_sign, integer_found, bool_found, set_found, power_found, power_no_open, power_no_inside, power_no_close, product_found, product_no_left, product_no_times, product_no_right, product_no_close}
use Rattle.bk_p_proof.proofs.typed.+types.Goals as goal

pub type_by_sign-returns-then-op-ne-OPEN_PAREN-clause-found : goal.type_by_sign-returns-then-op-ne-OPEN_PAREN-clause-found
type_by_sign-returns-then-op-ne-OPEN_PAREN-clause-found t c u k = no_type_sign u c.args.tokens.now c.args.op k c.if-op-ne-OPEN_PAREN.true

pub type_by_sign-returns-in_default-clause-found : goal.type_by_sign-returns-in_default-clause-found
type_by_sign-returns-in_default-clause-found t c u k = product_no_left u c.args.tokens.now (k ∙ ap Sign (search rules)) (if_none _ _ _ c.in_ok-left.ensures.found c.in_default.is)

pub type_by_sign-returns-in_default-after_sign-clause-found : goal.type_by_sign-returns-in_default-after_sign-clause-found
type_by_sign-returns-in_default-after_sign-clause-found t c u k = product_no_times u c.args.tokens.now c.in-Some.behind.now _ (k ∙ ap Sign (search rules)) (if_some _ _ _ _ c.in_ok-left.ensures.found c.in-Some.is) c.in_default-after_sign.ensures.found

pub type_by_sign-returns-in_default-2-clause-found : goal.type_by_sign-returns-in_default-2-clause-found
type_by_sign-returns-in_default-2-clause-found t c u k = product_no_right u c.args.tokens.now c.in-Some.behind.now c.in-Some-after_sign.behind.now _ (k ∙ ap Sign (search rules)) (if_some _ _ _ _ c.in_ok-left.ensures.found c.in-Some.is) c.in-Some-after_sign.ensures.found (if_none _ _ _ c.in_ok-right.ensures.found c.in_default-2.is)

pub type_by_sign-returns-in_default-after_sign-2-clause-found : goal.type_by_sign-returns-in_default-after_sign-2-clause-found
type_by_sign-returns-in_default-after_sign-2-clause-found t c u k = product_no_close u c.args.tokens.now c.in-Some.behind.now c.in-Some-after_sign.behind.now c.in-Some-2.behind.now _ _ (k ∙ ap Sign (search rules)) (if_some _ _ _ _ c.in_ok-left.ensures.found c.in-Some.is) c.in-Some-after_sign.ensures.found (if_some _ _ _ _ c.in_ok-right.ensures.found c.in-Some-2.is) c.in_default-after_sign-2.ensures.found

pub type_by_sign-returns-clause-found : goal.type_by_sign-returns-clause-found
type_by_sign-returns-clause-found t c u k = product_found u c.args.tokens.now c.in-Some.behind.now c.in-Some-after_sign.behind.now c.in-Some-2.behind.now c.in-Some-after_sign-2.rest.now c.in-Some.left c.in-Some-2.right _ _ (search rules) (search rules) (k ∙ ap Sign (search rules)) (if_some _ _ _ _ c.in_ok-left.ensures.found c.in-Some.is) c.in-Some-after_sign.ensures.found (if_some _ _ _ _ c.in_ok-right.ensures.found c.in-Some-2.is) c.in-Some-after_sign-2.ensures.found

pub type_by_word-returns-then-op-eq-INTEGER-clause-found : goal.type_by_word-returns-then-op-eq-INTEGER-clause-found
type_by_word-returns-then-op-eq-INTEGER-clause-found t c u k = integer_found u c.args.tokens.now (k ∙ ap Word (search rules))

pub type_by_word-returns-then-op-eq-BOOL-clause-found : goal.type_by_word-returns-then-op-eq-BOOL-clause-found
type_by_word-returns-then-op-eq-BOOL-clause-found t c u k = bool_found u c.args.tokens.now (k ∙ ap Word (search rules))

pub type_by_word-returns-then-op-ne-POW-clause-found : goal.type_by_word-returns-then-op-ne-POW-clause-found
type_by_word-returns-then-op-ne-POW-clause-found t c u k = no_type_word u c.args.tokens.now c.args.op k c.if-op-eq-INTEGER.false c.if-op-eq-BOOL.false c.if-op-ne-POW.true

pub type_by_word-returns-in_default-clause-found : goal.type_by_word-returns-in_default-clause-found
type_by_word-returns-in_default-clause-found t c u k = power_no_open u c.args.tokens.now (k ∙ ap Word (search rules)) c.in_default.ensures.found

pub type_by_word-returns-in_default-2-clause-found : goal.type_by_word-returns-in_default-2-clause-found
type_by_word-returns-in_default-2-clause-found t c u k = power_no_inside u c.args.tokens.now c.in-Some.inside.now (k ∙ ap Word (search rules)) c.in-Some.ensures.found (if_none _ _ _ c.in_ok-elements.ensures.found c.in_default-2.is)

pub type_by_word-returns-in_default-after_sign-clause-found : goal.type_by_word-returns-in_default-after_sign-clause-found
type_by_word-returns-in_default-after_sign-clause-found t c u k = power_no_close u c.args.tokens.now c.in-Some.inside.now c.in-Some-2.behind.now _ (k ∙ ap Word (search rules)) c.in-Some.ensures.found (if_some _ _ _ _ c.in_ok-elements.ensures.found c.in-Some-2.is) c.in_default-after_sign.ensures.found

pub type_by_word-returns-clause-found : goal.type_by_word-returns-clause-found
type_by_word-returns-clause-found t c u k = power_found u c.args.tokens.now c.in-Some.inside.now c.in-Some-2.behind.now c.in-Some-after_sign.rest.now c.in-Some-2.elements _ (search rules) (k ∙ ap Word (search rules)) c.in-Some.ensures.found (if_some _ _ _ _ c.in_ok-elements.ensures.found c.in-Some-2.is) c.in-Some-after_sign.ensures.found

pub written_type-returns-in_default-clause-found : goal.written_type-returns-in_default-clause-found
written_type-returns-in_default-clause-found t c = no_type_empty c.args.tokens.now c.in_default.ensures

pub written_type-returns-in_ok-copy-in-Name-clause-found : goal.written_type-returns-in_ok-copy-in-Name-clause-found
written_type-returns-in_ok-copy-in-Name-clause-found t c = set_found c.args.tokens.now c.in-Some.rest.now c.in-Some.first.now c.in_ok-copy-in-Name.field-0 c.in-Some.ensures (search rules)

pub written_type-returns-in-Word-clause-found : goal.written_type-returns-in-Word-clause-found
written_type-returns-in-Word-clause-found t c = subst (λ us. IfOk c.type_by_word.result (λ r. MatchOption r (Nothing Typed us) (λ p. Longest Typed us p.0 p.1.now))) (sym c.in-Some.ensures) (c.type_by_word.ensures.found c.in-Some.first.now (search rules))

pub written_type-returns-in-Sign-clause-found : goal.written_type-returns-in-Sign-clause-found
written_type-returns-in-Sign-clause-found t c = subst (λ us. IfOk c.type_by_sign.result (λ r. MatchOption r (Nothing Typed us) (λ p. Longest Typed us p.0 p.1.now))) (sym c.in-Some.ensures) (c.type_by_sign.ensures.found c.in-Some.first.now (search rules))

pub written_type-returns-in_default-kind-clause-found : goal.written_type-returns-in_default-kind-clause-found
written_type-returns-in_default-kind-clause-found t c = no_type_other c.args.tokens.now c.in-Some.rest.now c.in-Some.first.now c.in-Some.ensures c.in_default-kind.not-Name c.in_default-kind.not-Word c.in_default-kind.not-Sign
