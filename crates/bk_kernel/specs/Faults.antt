-- The faults of steps.
use Rattle.bk_bind.specs.declared.error.BindFault.{BindFault}
use Rattle.bk_bind.specs.declared.error.BindFault.TheVariants.{TooLarge, Memory as NoRoom}
use Rattle.bk_kernel.specs.declared.error.StepFault.{StepFault}
use Rattle.bk_kernel.specs.declared.error.StepFault.TheVariants.{NoInstance, Memory}

-- a step whose formula would be too large is none
abbrev pub fault_of : BindFault → StepFault
fault_of TooLarge = NoInstance
fault_of NoRoom = Memory
