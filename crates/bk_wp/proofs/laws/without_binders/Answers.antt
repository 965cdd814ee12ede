use Rattle.bk_wp.proofs.Plain.{box-plain, diamond-plain, conjugate-plain}
use Rattle.bk_wp.proofs.laws.without_binders.Goals as goal

pub returns-clause-boxes : goal.returns-clause-boxes
returns-clause-boxes c = box-plain

pub returns-clause-diamonds : goal.returns-clause-diamonds
returns-clause-diamonds c = diamond-plain

pub returns-clause-conjugates : goal.returns-clause-conjugates
returns-clause-conjugates c = conjugate-plain
