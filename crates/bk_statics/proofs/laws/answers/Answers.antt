use Rattle.bk_statics.proofs.B0Levels.{always-b0}
use Rattle.bk_statics.proofs.Developments.{always-development}
use Rattle.bk_statics.proofs.LowerStands.{refinement-accepted}
use Rattle.bk_statics.proofs.MachineStands.{machine-accepted}
use Rattle.std.proofs.Common.{ap}
use Rattle.bk_raw.proofs.ComponentOne.{one-component}
use Rattle.bk_statics.specs.Verdict.{verdict_of}
use Rattle.bk_statics.proofs.Verdicts.{answer-right, stem-name}
use Rattle.bk_statics.proofs.Locals.{locals-apart}
use Rattle.bk_statics.proofs.laws.answers.Goals as goal

pub returns-clause-one : goal.returns-clause-one
returns-clause-one c = λ int_max above tokens one other h k. ap (verdict_of int_max above) (one-component tokens one other h k)

pub returns-clause-exact : goal.returns-clause-exact
returns-clause-exact c = answer-right

pub returns-clause-stems : goal.returns-clause-stems
returns-clause-stems c = stem-name

pub returns-clause-locals : goal.returns-clause-locals
returns-clause-locals c = locals-apart

pub returns-clause-machine : goal.returns-clause-machine
returns-clause-machine c = machine-accepted

pub returns-clause-refinement : goal.returns-clause-refinement
returns-clause-refinement c = refinement-accepted

pub returns-clause-development : goal.returns-clause-development
returns-clause-development c = always-development

pub returns-clause-executable : goal.returns-clause-executable
returns-clause-executable c = always-b0
