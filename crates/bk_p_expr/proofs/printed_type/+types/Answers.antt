use Rattle.std.proofs.Common.{rules}
use Rattle.bk_p_expr.specs.PrintedTypes.{power, product}
use Rattle.bk_p_expr.proofs.Types.{pow_is, paren_is, types_same, typed_none_word, typed_none_sign, typed_none_kind, no_type_by}
use Rattle.bk_p_expr.proofs.printed_type.+types.Goals as goal
use Rattle.bk_p_expr.proofs.printed_type.+types.Goals.{written_type-in_default-kind-via-in-Word-3+else-op-eq-POW, written_type-in_default-kind-via-in-Sign+else-op-eq-OPEN_PAREN, written_type-in_default-kind-via-in_default-kind}

pub written_type-returns-in-Word-3-clause-found : goal.written_type-returns-in-Word-3-clause-found
written_type-returns-in-Word-3-clause-found t c = types_same c.args.tokens.now c.in-Some.rest.now (λ k. power k c.in-Some.rest.now) (λ p. p.0) (λ p. p.1.now) c.power.result (λ m l. pow_is m c.args.tokens.now c.in-Some.first.now c.in-Some.rest.now c.in-Word-3.op (search rules) (search rules) (search rules) l) c.power.ensures.found

pub written_type-returns-in-Sign-clause-found : goal.written_type-returns-in-Sign-clause-found
written_type-returns-in-Sign-clause-found t c = types_same c.args.tokens.now c.in-Some.rest.now (λ k. product k c.in-Some.rest.now) (λ p. p.0) (λ p. p.1.now) c.product.result (λ m l. paren_is m c.args.tokens.now c.in-Some.first.now c.in-Some.rest.now c.in-Sign.op (search rules) (search rules) (search rules) l) c.product.ensures.found

pub written_type-returns-in_default-kind-clause-found : goal.written_type-returns-in_default-kind-clause-found
written_type-returns-in_default-kind-clause-found t c = elim c.in_default-kind.branch [
  | written_type-in_default-kind-via-in-Word-3+else-op-eq-POW w ↦ λ m l. typed_none_word m c.args.tokens.now c.in-Some.first.now c.in-Some.rest.now w.in-Word.op (search rules) (search rules) w.if-op-eq-INTEGER.false (search rules) (search rules) l
  | written_type-in_default-kind-via-in-Sign+else-op-eq-OPEN_PAREN w ↦ λ m l. typed_none_sign m c.args.tokens.now c.in-Some.first.now c.in-Some.rest.now w.in-Sign.op (search rules) (search rules) w.if-op-eq-OPEN_PAREN.false l
  | written_type-in_default-kind-via-in_default-kind w ↦ λ m l. typed_none_kind m c.args.tokens.now c.in-Some.first.now c.in-Some.rest.now (search rules) (no_type_by c.in-Some.first.now.kind w.in_default-kind.not-Name w.in_default-kind.not-Word w.in_default-kind.not-Sign) l
]
