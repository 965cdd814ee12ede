use Rattle.bk_form.proofs.SetMembers.{operator_members}
use Rattle.bk_form.proofs.Domains.{comprehension-has, lambda-has, interval-members, choices-are}
use Rattle.bk_form.proofs.laws.members.Goals as goal

pub returns-clause-comprehension : goal.returns-clause-comprehension
returns-clause-comprehension c = comprehension-has

pub returns-clause-lambda : goal.returns-clause-lambda
returns-clause-lambda c = lambda-has

pub returns-clause-interval : goal.returns-clause-interval
returns-clause-interval c = interval-members

pub returns-clause-choices : goal.returns-clause-choices
returns-clause-choices c = choices-are

pub returns-clause-operators : goal.returns-clause-operators
returns-clause-operators c = operator_members
