use Rattle.std.proofs.Common.{◌∙◌, Some, ap, sym}
use Rattle.bk_p_expr.specs.Conjuncts.{free_names}
use Rattle.bk_p_expr.proofs.free.only_conjunct.Goals as goal

pub returns-in_default : goal.returns-in_default
returns-in_default c = (sym (ap (λ d. d.0) c.in_default.ensures), c.in_ok-free.ensures ∙ sym (ap (λ d. free_names d.1) c.in_default.ensures))

pub returns : goal.returns
returns c = ((λ i. Some (c.in_ok-name.ensures i)) ∙ sym (ap (λ d. d.0) c.in-Some.ensures), c.in_ok-free-2.ensures ∙ sym (ap (λ d. free_names d.1) c.in-Some.ensures))
