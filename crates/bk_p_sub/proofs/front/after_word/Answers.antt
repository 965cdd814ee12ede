use Rattle.std.proofs.Common.{◌∙◌, sym, ap, length, arith}
use Rattle.std.proofs.lemmas.Bool.{false≢true}
use Rattle.bk_form.specs.declared.token.TokenKind.TheVariants.{Word}
use Rattle.bk_p_sub.proofs.Fronts.{none_ahead_of_none, none_ahead}
use Rattle.bk_p_sub.proofs.front.after_word.Goals as goal

pub returns-in_default-clause-found : goal.returns-in_default-clause-found
returns-in_default-clause-found c = none_ahead_of_none (Word c.args.op) c.args.tokens.now c.in_default.ensures

pub returns-then-not-is_word-clause-found : goal.returns-then-not-is_word-clause-found
returns-then-not-is_word-clause-found c = none_ahead (Word c.args.op) c.args.tokens.now c.in-Some.rest.now c.in-Some.first.now c.in-Some.ensures (λ e. false≢true (sym c.if-not-is_word.true ∙ c.is_word.ensures.1 e))

pub returns-clause-found : goal.returns-clause-found
returns-clause-found c = (c.in-Some.first.now, c.in-Some.ensures, c.is_word.ensures.0 c.if-not-is_word.false)

pub returns-clause-shorter : goal.returns-clause-shorter
returns-clause-shorter c = omega (arith, ap length c.in-Some.ensures)
