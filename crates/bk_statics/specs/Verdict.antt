-- What a component below a development is answered: the development with one more level, or the one fault or limit that is told.
use Rattle.std.specs.Prelude.{◌≡◌, ℕ, ℤ, Bool, true, false, List, [], ◌∷◌, ◌++◌, Option, None, Some}
use Rattle.bk_dev.specs.Development.{Development}
use Rattle.bk_raw.specs.Errors.Blame.{blame}
use Rattle.bk_raw.specs.Trees.ComponentTree.{RawComponent}
use Rattle.bk_raw.specs.Errors.Faults.{Fault, told_as}
use Rattle.bk_statics.specs.Components.{Component, component_of}
use Rattle.bk_statics.specs.Above.{above_of}
use Rattle.bk_statics.specs.Plan.{plan}
use Rattle.bk_statics.specs.LevelOf.{made}
use Rattle.bk_statics.specs.StaticFaults.{static_faults}
use Rattle.bk_statics.specs.Executable.{executable_faults}
use Rattle.bk_statics.specs.DeclaredNames.{declares_too_many}

-- the levels above, with the component as one level more
abbrev pub level_below : ℤ → Development → Component → Development
level_below int_max dev c = made int_max dev c (plan dev c)

-- all faults of the component there
abbrev pub all_faults : ℤ → Development → Component → List Fault
all_faults int_max dev c = static_faults int_max dev c ++ executable_faults int_max dev c

-- the answer
pub data Verdict : Type 0 where
  -- the component is right, and these are all levels
  accepted : Development → Verdict
  -- the fault that is asked first, and of one kind that at the least byte
  at_fault : Fault → Verdict
  -- the limit of this number is passed
  past_limit : ℕ → Verdict

-- a fault is answered that is told by this number and at this byte
abbrev pub AnswersFault : Verdict → ℕ → ℕ → Type 0
AnswersFault v number place = (f : Fault) × (v ≡ at_fault f) × (told_as f ≡ (number, place))

-- by the fault that is told, if there is one
abbrev pub judged : Development → Option Fault → Verdict
judged dev None = accepted dev
judged dev (Some f) = at_fault f

-- limit 5 is asked first
abbrev pub limited : Bool → Verdict → Verdict
limited true v = past_limit 5
limited false v = v

-- of a component below these levels
abbrev pub verdict_below : ℤ → Development → Component → Verdict
verdict_below int_max dev c = limited (declares_too_many c) (judged (level_below int_max dev c) (blame (all_faults int_max dev c)))

-- of a component as it is written, below a development, or below none if it is a machine; MAXINT is int_max
abbrev pub verdict_of : ℤ → Option Development → RawComponent → Verdict
verdict_of int_max above raw = verdict_below int_max (above_of above) (component_of raw)
