-- What holds of steps, ends and sessions.
use Rattle.std.specs.Prelude.{◌≡◌, ◌≢◌, ◌↔◌, ℕ, suc, ◌+◌, ◌<◌, ◌≤◌, ℤ, pos, List, [], ◌∷◌, length, All, Some, slice_get, slice_set}
use Rattle.bk_code.specs.declared.image.Image.{Image}
use Rattle.bk_code.specs.declared.image.OpEntry.{OpEntry}
use Rattle.bk_code.specs.declared.instruction.Inst.TheVariants.{Push, Store, Ret}
use Rattle.bk_code.specs.declared.instruction.Trap.{Trap}
use Rattle.bk_code.specs.Numbers.{int_max, IsWithin}
use Rattle.bk_code.specs.Step.{Config, GoesOn, Traps, Stuck, step}
use Rattle.bk_code.specs.Run.{End, Done, Trapped, OutOfFuel, Leads, ReturnsAfter, Ends}
use Rattle.bk_code.specs.Session.{Request, Told, call_start, first_start, Session}
use Rattle.bk_code.specs.Checks.{IsNumbered, IsDepths, IsChecked, IsLoadable, IsFitting}

-- a number that is pushed and then stored goes to its cell, and the stack is as before
abbrev pub StoresPushed : Type 0
StoresPushed =
    (image : Image) (c : Config) (n : ℤ) (slot : ℕ) → slice_get image.code c.place ≡ Some (Push n) →
    slice_get image.code (c.place + 1) ≡ Some (Store slot) → slot < length c.cells →
    Leads image 2 c (record { place = c.place + 1 + 1; stack = c.stack; cells = slice_set c.cells slot n })

-- a Ret that is met after n steps ends the call with the step after them, where the fuel reaches so far
abbrev pub EndsAtReturn : Type 0
EndsAtReturn =
    (image : Image) (fuel n : ℕ) (c d : Config) → Leads image n c d → slice_get image.code d.place ≡ Some Ret →
    n < fuel → Ends image fuel c (Done (suc n)) d

-- a call that returns with its n-th step is out of fuel exactly where the fuel is below n
abbrev pub IsOutOfFuelBelow : Type 0
IsOutOfFuelBelow =
    (image : Image) (fuel n : ℕ) (c d : Config) → ReturnsAfter image n c d →
    ((last : Config) × Ends image fuel c OutOfFuel last) ↔ (fuel < n)

-- a trap that is due after exactly as many steps as there is fuel is out of fuel
abbrev pub IsTrapOutOfFuel : Type 0
IsTrapOutOfFuel =
    (image : Image) (fuel : ℕ) (c d : Config) (kind : Trap) → Leads image fuel c d → step image d ≡ Traps kind →
    Ends image fuel c OutOfFuel d ×
    ((other : Trap) (place n : ℕ) (last : Config) → Ends image fuel c (Trapped other place n) last → ⊥)

-- with more fuel a call that is done ends alike
abbrev pub StaysDone : Type 0
StaysDone =
    (image : Image) (fuel more n : ℕ) (c d : Config) → fuel ≤ more → Ends image fuel c (Done n) d →
    Ends image more c (Done n) d

-- with more fuel a call that traps ends alike
abbrev pub StaysTrapped : Type 0
StaysTrapped =
    (image : Image) (fuel more : ℕ) (kind : Trap) (place n : ℕ) (c d : Config) → fuel ≤ more →
    Ends image fuel c (Trapped kind place n) d → Ends image more c (Trapped kind place n) d

-- a call has one end at most
abbrev pub HasOneEnd : Type 0
HasOneEnd =
    (image : Image) (fuel : ℕ) (c : Config) (e f : End) (d g : Config) → Ends image fuel c e d →
    Ends image fuel c f g → (e ≡ f) × (d ≡ g)

-- a checked image is never stuck
abbrev pub IsNeverStuck : Type 0
IsNeverStuck =
    (image : Image) (depths : List ℕ) (c : Config) → IsNumbered image → IsDepths image depths →
    IsFitting image depths c → step image c ≢ Stuck

-- a step of a checked image leads to a configuration that fits again
abbrev pub KeepsFitting : Type 0
KeepsFitting =
    (image : Image) (depths : List ℕ) (c d : Config) → IsNumbered image → IsDepths image depths →
    IsFitting image depths c → step image c ≡ GoesOn d → IsFitting image depths d

-- a call of a checked image ends in some way with each fuel, at a configuration that fits
abbrev pub HasSomeEnd : Type 0
HasSomeEnd =
    (image : Image) (depths : List ℕ) (fuel : ℕ) (c : Config) → IsNumbered image → IsDepths image depths →
    IsFitting image depths c →
    (end : End) × (last : Config) × Ends image fuel c end last × IsFitting image depths last

-- the initialisation of a checked image starts at a configuration that fits
abbrev pub IsFirstFitting : Type 0
IsFirstFitting =
    (image : Image) (depths : List ℕ) → IsNumbered image → IsDepths image depths →
    IsFitting image depths (first_start image)

-- the arguments are as many as the operation's inputs, and lie within the range
pub record IsCallable (image : Image) (entry : OpEntry) (args : List ℤ) : Type 0 where
  pub counted : length args ≡ length entry.inputs
  pub range : All (IsWithin (int_max image)) args

-- the cells are those of the image, with numbers within the range
pub record AreCells (image : Image) (cells : List ℤ) : Type 0 where
  pub many : length cells ≡ image.cells
  pub range : All (IsWithin (int_max image)) cells

-- the request is for an operation of the image, with arguments that it takes
pub record IsRequest (image : Image) (request : Request) : Type 0 where
  pub entry : OpEntry
  pub named : slice_get image.ops request.op ≡ Some entry
  pub callable : IsCallable image entry request.args

-- a call of a checked image starts at a configuration that fits
abbrev pub IsCallFitting : Type 0
IsCallFitting =
    (image : Image) (depths : List ℕ) (request : Request) (cells : List ℤ) → IsNumbered image → IsDepths image depths →
    (r : IsRequest image request) → AreCells image cells → IsFitting image depths (call_start r.entry request.args cells)

-- a session tells one thing at most
abbrev pub HasOneSession : Type 0
HasOneSession =
    (image : Image) (fuel : ℕ) (requests : List Request) (tolds others : List Told) →
    Session image fuel requests tolds → Session image fuel requests others → tolds ≡ others

-- a session of a checked image over requests that it takes tells something
abbrev pub HasSomeSession : Type 0
HasSomeSession =
    (image : Image) (depths : List ℕ) (fuel : ℕ) (requests : List Request) → IsNumbered image → IsDepths image depths →
    All (IsRequest image) requests → (tolds : List Told) × Session image fuel requests tolds

-- what the loader accepts is never stuck
abbrev pub LoadableIsChecked : Type 0
LoadableIsChecked = (image : Image) → IsLoadable image → IsChecked image

-- an instruction that nothing reaches, and that would pop a number which is not there
abbrev pub dead_store : Image
dead_store = record { max = pos 1; cells = 1; sets = []; ops = []; code = Ret ∷ Store 0 ∷ Ret ∷ [] }

-- the loader refuses this image, although no run can come to that instruction
abbrev pub RefusesDeadStore : Type 0
RefusesDeadStore = IsLoadable dead_store → ⊥
