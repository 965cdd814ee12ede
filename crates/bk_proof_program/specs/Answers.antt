-- How the program ends before anything is written.
use Rattle.std.specs.Prelude.{◌≢◌}
use Rattle.bk_verbs.specs.Causes.{IsOfReading}
use Rattle.bk_verbs.specs.declared.status.Status.{Status}
use Rattle.bk_verbs.specs.declared.status.Status.TheVariants.{Done, Usage, Unproved, ReadFault as ReadFaultStatus, WriteFault, Memory}
use Rattle.bk_verbs.specs.declared.stop.Stop.TheVariants.{ReadFault}
use Rattle.bk_proof_program.specs.declared.answer.Answer.{Answer}
use Rattle.bk_proof_program.specs.declared.answer.Answer.TheVariants.{Whole, Explained}

-- nothing is left, something is, or the words were wrong
abbrev pub IsEnd : Status → Type 0
IsEnd Done = Unit {0}
IsEnd Usage = Unit {0}
IsEnd Unproved = Unit {0}
IsEnd _ = ⊥

-- no device failed, and there was memory
abbrev pub IsSaid : Status → Type 0
IsSaid ReadFaultStatus = ⊥
IsSaid WriteFault = ⊥
IsSaid Memory = ⊥
IsSaid _ = Unit {0}

-- a text with such an end, or a stop of bkit that is no fault of a device
abbrev pub IsAnswer : Answer → Type 0
IsAnswer (Whole text status) = IsEnd status
IsAnswer (Explained stop text) = IsOfReading stop × (stop ≢ ReadFault)
