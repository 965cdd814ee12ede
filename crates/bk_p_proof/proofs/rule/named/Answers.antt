use Rattle.std.proofs.Common.{sym, ◌∙◌}
use Rattle.bk_p_proof.proofs.RuleWords.{named_first, named_second, named_third}
use Rattle.bk_p_proof.proofs.rule.named.Goals as goal

pub returns-in-Some : goal.returns-in-Some
returns-in-Some c = sym (named_first c.args.text.now c.in-Some.word (sym c.of_propositions.ensures ∙ c.in-Some.is))

pub returns-in-Some-of_hypotheses : goal.returns-in-Some-of_hypotheses
returns-in-Some-of_hypotheses c = sym (named_second c.args.text.now c.in-Some-of_hypotheses.word (sym c.of_propositions.ensures ∙ c.in_default.is) (sym c.of_hypotheses.ensures ∙ c.in-Some-of_hypotheses.is))

pub returns-in-Some-of_rewritings : goal.returns-in-Some-of_rewritings
returns-in-Some-of_rewritings c = sym (named_third c.args.text.now c.in-Some-of_rewritings.word (sym c.of_propositions.ensures ∙ c.in_default.is) (sym c.of_hypotheses.ensures ∙ c.in_default-of_hypotheses.is) (sym c.of_rewritings.ensures ∙ c.in-Some-of_rewritings.is))
