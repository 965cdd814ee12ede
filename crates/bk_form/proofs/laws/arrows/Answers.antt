use Rattle.bk_form.proofs.ArrowMembers.{arrows_mean}
use Rattle.bk_form.proofs.Domains.{total-role, onto-role, no-total-function}
use Rattle.bk_form.proofs.laws.arrows.Goals as goal

pub returns-clause-total : goal.returns-clause-total
returns-clause-total c find law e a b f = total-role find law e a b f

pub returns-clause-onto : goal.returns-clause-onto
returns-clause-onto c find law e a b f = onto-role find law e a b f

pub returns-clause-infinite : goal.returns-clause-infinite
returns-clause-infinite c = no-total-function

pub returns-clause-pairs : goal.returns-clause-pairs
returns-clause-pairs c = arrows_mean
