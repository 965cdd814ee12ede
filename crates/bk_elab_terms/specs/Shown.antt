-- What the program's faults and outcomes stand for.
use Rattle.std.specs.Prelude.{◌≡◌, List, Option, None, Some}
use Rattle.bk_raw.specs.Meaning.Outcome.{Outcome, partial, ranging, holding, silent, Reading, Asked}
use Rattle.bk_raw.specs.Errors.Blame.{blame}
use Rattle.bk_raw.specs.Errors.Faults.{Fault, told_as}
use Rattle.bk_elab_terms.specs.declared.blame.Fault.{Fault as ToldFault}
use Rattle.bk_elab_terms.specs.declared.error.ElabFault.{ElabFault}
use Rattle.bk_elab_terms.specs.declared.error.ElabFault.TheVariants.{Fault as FaultAt, Limit, Memory}
use Rattle.bk_elab_terms.specs.declared.outcome.Told.{Told}
use Rattle.bk_elab_terms.specs.declared.outcome.Told.TheVariants.{Expressed, Ranging, Holding, Silent}
use Rattle.bk_elab_terms.specs.declared.outcome.Step.{Step}

-- a fault, as its number and its place
abbrev pub fault_of : ToldFault → Fault
fault_of f = (f.kind, f.place)

-- the fault that is told, if one is
abbrev pub told : Option ToldFault → Option Fault
told None = None
told (Some f) = Some (fault_of f)

-- what a term turns out to be
abbrev pub shown_outcome : Told → Outcome
shown_outcome (Expressed e) = partial e
shown_outcome (Ranging f t there) = ranging f t there
shown_outcome (Holding p) = holding p
shown_outcome Silent = silent

-- the program's reading has the outcome, and of all faults the one that is told
pub record IsRead (s : Step) (r : Reading) : Type 0 where
  pub outcome : shown_outcome s.outcome ≡ r.outcome
  pub fault : told s.fault ≡ blame r.faults

-- what an answer other than a formula says of the faults in a term: the first of them; no limit is told of a term
abbrev pub SaysOf : List Fault → ElabFault → Type 0
SaysOf faults (FaultAt number place) = (f : Fault) × (blame faults ≡ Some f) × (told_as f ≡ (number, place))
SaysOf faults (Limit n) = ⊥
SaysOf faults Memory = Unit {0}

-- what a place asks of a part: the answer, and of all faults the one that is told
pub record IsAsked {A : Type 0} (answer : Option A) (fault : Option ToldFault) (a : Asked A) : Type 0 where
  pub same : answer ≡ a.answer
  pub first : told fault ≡ blame a.faults
