-- Exit codes of the program.
use Rattle.std.specs.Prelude.{ℕ}
use Rattle.bk_verbs.specs.declared.status.Status.{Status}
use Rattle.bk_verbs.specs.declared.status.Status.TheVariants.{Done, Usage, Missing, Refused, Unproved, Incomplete, BadCalls}
use Rattle.bk_verbs.specs.declared.status.Status.TheVariants.{Trapped, OutOfFuel, BadImage, ReadFault, WriteFault, Memory}

-- the exit code of a status
abbrev pub code_of : Status → ℕ
code_of Done = 0
code_of Usage = 1
code_of Missing = 2
code_of Refused = 3
code_of Unproved = 4
code_of Incomplete = 5
code_of BadCalls = 6
code_of Trapped = 7
code_of OutOfFuel = 8
code_of BadImage = 9
code_of ReadFault = 10
code_of WriteFault = 11
code_of Memory = 12
