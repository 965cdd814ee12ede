-- What a call of the program leaves of the devices.
use Rattle.std.proofs.Common.{ℕ, List, refl, arith}
use Rattle.bk_verbs.proofs.Frames.{appends_nothing}
use Rattle.bk_program.specs.Outcome.{Devices, Leaves, HasOutcome}

-- what does nothing leaves all of them
pub leaves_all : (devices : Devices) → Leaves devices devices
leaves_all devices = record {
  files = refl;
  written = appends_nothing devices.written devices.written refl;
  read_faults = omega arith;
  write_faults = omega arith;
  absences = omega arith;
}

pub leaves_of : (words : List (List ℕ)) (old new : Devices) (code : ℕ) → HasOutcome words old new code → Leaves old new
leaves_of words old new code outcome = outcome.outcome.leaves
