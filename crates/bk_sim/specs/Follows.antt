-- Code that follows its abstract machine.
use Rattle.std.specs.Prelude.{◌≡◌, ◌<◌, ℕ, ℤ, List, [], ◌∷◌, ◌++◌, map, length, slice_get, Some}
use Rattle.bk_val.specs.Value.{MathValue}
use Rattle.bk_form.specs.Search.{Finder}
use Rattle.bk_gsl.specs.State.{declared_type}
use Rattle.bk_dev.specs.Development.{Development, body_at, inputs_of}
use Rattle.bk_dev.specs.Machine.{Abstract, Opens, Call, IsCall, AreCalls, Pre, Steps, Reach, Legal}
use Rattle.bk_code.specs.declared.image.Image.{Image}
use Rattle.bk_code.specs.declared.image.OpEntry.{OpEntry}
use Rattle.bk_code.specs.declared.image.Parameter.{Parameter}
use Rattle.bk_code.specs.Step.{Config}
use Rattle.bk_code.specs.Run.{End, Done, Trapped, OutOfFuel, Ends}
use Rattle.bk_code.specs.Session.{call_start, first_start, outputs_of}
use Rattle.bk_b0.specs.Kinds.{number_as, as_number}
use Rattle.bk_sim.specs.Shows.{Linked}

-- the image's operation of this number
abbrev pub IsEntry : Image → ℕ → OpEntry → Type 0
IsEntry image o entry = slice_get image.ops o ≡ Some entry

-- the values that output numbers stand for
abbrev pub as_values : Development → List ℕ → List ℤ → List MathValue
as_values dev (x ∷ xs) (z ∷ zs) = number_as (declared_type dev.table x) z ∷ as_values dev xs zs
as_values dev _ _ = []

-- the values that an operation's output cells hold
abbrev pub replies : Development → ℕ → List Parameter → List ℤ → List MathValue
replies dev o outputs m = as_values dev (body_at dev 0 o).outputs (outputs_of outputs m)

-- where an operation's call starts on these cells
abbrev pub started : OpEntry → Call → List ℤ → Config
started entry c m = call_start entry (map as_number c.args) m

-- P of the cells of a call that is done, no trap, and where it is out of fuel it is done with some larger fuel
abbrev pub IsGood : Image → ℕ → Config → (List ℤ → Type 0) → End → Config → Type 0
IsGood image fuel start P (Done n) d = P d.cells
IsGood image fuel start P (Trapped kind place n) d = ⊥
IsGood image fuel start P OutOfFuel d = (more : ℕ) × (n : ℕ) × (f : Config) × (fuel < more) × Ends image more start (Done n) f

-- each end of the call with this fuel is good
abbrev pub GoesWell : Image → ℕ → Config → (List ℤ → Type 0) → Type 0
GoesWell image fuel start P = (end : End) (d : Config) → Ends image fuel start end d → IsGood image fuel start P end d

-- the calls from these cells are done one after another, with these replies and cells in the end
abbrev pub AreDone : Development → Image → ℕ → List ℤ → List Call → List (List MathValue) → List ℤ → Type 0
AreDone dev image fuel l [] [] m = l ≡ m
AreDone dev image fuel l (c ∷ cs) (us ∷ more) m = (entry : OpEntry) × (n : ℕ) × (d : Config) × IsEntry image c.op entry × Ends image
    fuel (started entry c l) (Done n) d × (us ≡ replies dev c.op entry.outputs d.cells) × AreDone dev image fuel d.cells cs more m
AreDone dev image fuel l _ _ m = ⊥

-- with this fuel the initialisation is done and leaves these cells
abbrev pub IsBegun : Image → ℕ → List ℤ → Type 0
IsBegun image fuel l = (n : ℕ) × (d : Config) × Ends image fuel (first_start image) (Done n) d × (d.cells ≡ l)

-- the operations of the image are those of the development, with as many inputs and outputs
abbrev pub HasOperations : Development → Image → Type 0
HasOperations dev image = (o : ℕ) → o < length dev.heads → (entry : OpEntry) × IsEntry image o entry
    × (length entry.inputs ≡ length (inputs_of dev o)) × (length entry.outputs ≡ length (body_at dev 0 o).outputs)

-- the initialisation does not trap, ends with some fuel (since with none it is out of fuel, and so done with more), and leaves cells that
-- are linked to a state in which the machine opens
abbrev pub OpensWell : Finder → Development → Image → Type 0
OpensWell find dev image = (fuel : ℕ) →
    GoesWell image fuel (first_start image) (λ m. (a : Abstract) × Opens find dev a × Linked find dev a m)

-- with some fuel a call is done
abbrev pub IsDone : Image → Config → Type 0
IsDone image start = (fuel : ℕ) × (n : ℕ) × (d : Config) × Ends image fuel start (Done n) d

-- the machine has a step with the call's replies to a state that is linked to the cells
abbrev pub IsStep : Finder → Development → Call → OpEntry → Abstract → List ℤ → Type 0
IsStep find dev c entry a k = (b : Abstract) × Steps find dev c a (replies dev c.op entry.outputs k) b × Linked find dev b k

-- the call of the image's operation is one of the machine, whose precondition is true in the state that the cells are linked to
pub record IsAllowedCall (find : Finder) (dev : Development) (image : Image) (a : Abstract) (m : List ℤ) (c : Call)
    (entry : OpEntry) : Type 0 where
  pub linked : Linked find dev a m
  pub call : IsCall dev c
  pub pre : Pre find dev c a
  pub named : IsEntry image c.op entry

-- each call that is allowed is done with some fuel, traps with none, and is a step
abbrev pub CallsGoWell : Finder → Development → Image → Type 0
CallsGoWell find dev image = (a : Abstract) (m : List ℤ) (c : Call) (entry : OpEntry) → IsAllowedCall find dev image a m c entry →
    IsDone image (started entry c m) × ((fuel : ℕ) → GoesWell image fuel (started entry c m) (IsStep find dev c entry a))

-- the machine reaches a state by these calls, with these replies and then the call's, that is linked to the cells
abbrev pub IsReached : Finder → Development → List Call → Call → List (List MathValue) → OpEntry → List ℤ → Type 0
IsReached find dev cs c outs entry k = (a : Abstract)
    × Reach find dev (cs ++ c ∷ []) (outs ++ replies dev c.op entry.outputs k ∷ []) a × Linked find dev a k

-- after the initialisation, which leaves cells l, the calls cs are done with these replies and leave cells m; the call c of the image's
-- operation is next, and all calls up to it and with it are legal
pub record IsLegalNext (find : Finder) (dev : Development) (image : Image) (fuel : ℕ) (l m : List ℤ) (cs : List Call) (c : Call)
    (outs : List (List MathValue)) (entry : OpEntry) : Type 0 where
  pub begun : IsBegun image fuel l
  pub calls : AreCalls dev cs
  pub call : IsCall dev c
  pub done : AreDone dev image fuel l cs outs m
  pub legal : Legal find dev (cs ++ c ∷ []) outs
  pub named : IsEntry image c.op entry

-- such a call does not trap, ends with some fuel, and leaves cells that are linked to a state which the machine reaches with these replies
abbrev pub SessionsGoWell : Finder → Development → Image → Type 0
SessionsGoWell find dev image = (fuel : ℕ) (l m : List ℤ) (cs : List Call) (c : Call) (outs : List (List MathValue)) (entry : OpEntry) →
    IsLegalNext find dev image fuel l m cs c outs entry →
    GoesWell image fuel (started entry c m) (IsReached find dev cs c outs entry)

-- the code follows the machine: with every fuel and for every list of calls, up to the first whose precondition may be false,
-- and call by call
pub record Follows (find : Finder) (dev : Development) (image : Image) : Type 0 where
  pub operations : HasOperations dev image
  pub opening : OpensWell find dev image
  pub session : SessionsGoWell find dev image
  pub local : CallsGoWell find dev image
