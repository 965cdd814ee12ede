-- Which calls of a session are legal, by the replies of the calls before them, which run no loop, and how legal calls end.
use Rattle.std.specs.Prelude.{◌≡◌, ◌<◌, ◌≤◌, ℕ, ℤ, List, [], ◌∷◌, length, map, All}
use Rattle.bk_val.specs.Value.{MathValue}
use Rattle.bk_form.specs.Search.{Finder}
use Rattle.bk_code.specs.declared.image.Image.{Image}
use Rattle.bk_code.specs.declared.image.OpEntry.{OpEntry}
use Rattle.bk_code.specs.Step.{Config}
use Rattle.bk_code.specs.Run.{End, Done, Trapped, OutOfFuel, Ends}
use Rattle.bk_code.specs.Session.{Request, Told, call_start, first_start}
use Rattle.bk_dev.specs.Development.{Development, level_at, body_at, inputs_of, last}
use Rattle.bk_dev.specs.Machine.{Abstract, Opens, Call, Pre, After, Legal}
use Rattle.bk_b0.specs.Translation.{init_code, operation_code, translation}
use Rattle.bk_sim.specs.Ending.{HasNoLoop}
use Rattle.bk_sim.specs.Follows.{IsEntry, as_values}
use Rattle.bk_sim.specs.Shows.{Linked}

-- the machine's call that a request asks for
abbrev pub call_of : Development → Request → Call
call_of dev request = record { op = request.op; args = as_values dev (inputs_of dev request.op) request.args }

-- of a call that is done this one, and else the other
abbrev pub done_or : {A : Type 0} → End → A → A → A
done_or (Done n) this other = this
done_or (Trapped kind place n) this other = other
done_or OutOfFuel this other = other

-- the values that a call replies
abbrev pub reply_of : Development → Request → Told → List MathValue
reply_of dev request told = as_values dev (body_at dev 0 request.op).outputs told.outputs

-- the replies of the calls that are done
abbrev pub replied : Development → List Request → List Told → List (List MathValue)
replied dev (request ∷ requests) (told ∷ tolds) = done_or told.end (reply_of dev request told ∷ replied dev requests tolds) []
replied dev _ _ = []

-- what is told of the calls, after the initialisation
abbrev pub of_calls : List Told → List Told
of_calls [] = []
of_calls (told ∷ tolds) = tolds

-- each call that is asked for is legal after those before it, with the replies that are told, up to the first that is not done
abbrev pub AreLegal : Finder → Development → List Request → List Told → Type 0
AreLegal find dev requests tolds = Legal find dev (map (call_of dev) requests) (replied dev requests (of_calls tolds))

-- ---- loops
-- in the implementation neither the initialisation nor an operation that is asked for has a WHILE
pub record RunNoLoop (dev : Development) (requests : List Request) : Type 0 where
  pub init : HasNoLoop (level_at dev (last dev)).init
  pub calls : All (λ r. HasNoLoop (body_at dev (last dev) r.op).sub) requests

-- ---- how legal calls end
-- no trap
abbrev pub IsUntrapped : End → Type 0
IsUntrapped (Trapped kind place n) = ⊥
IsUntrapped _ = Unit {0}

-- where the call that starts there is out of fuel, it is done with some larger fuel
abbrev pub WouldEnd : Image → ℕ → Config → End → Type 0
WouldEnd image fuel start OutOfFuel = (more : ℕ) × (n : ℕ) × (d : Config) × (fuel < more) × Ends image more start (Done n) d
WouldEnd image fuel start _ = Unit {0}

-- a call of an operation of the image that is out of fuel would end
abbrev pub CallWouldEnd : Image → ℕ → Request → List ℤ → Told → Type 0
CallWouldEnd image fuel request cells told = (entry : OpEntry) → IsEntry image request.op entry →
    WouldEnd image fuel (call_start entry request.args cells) told.end

-- what ends so is done, where the fuel is at least so many steps
abbrev pub IsDoneWithin : ℕ → ℕ → End → Type 0
IsDoneWithin size fuel end = size ≤ fuel → (n : ℕ) × (end ≡ Done n)

-- a call of an operation that has no WHILE is done with a fuel of at least the length of its code, Ret included
abbrev pub CallEndsInTime : Development → ℕ → Request → List ℤ → Told → Type 0
CallEndsInTime dev fuel request cells told =
    HasNoLoop (body_at dev (last dev) request.op).sub →
    IsDoneWithin (length (operation_code dev (body_at dev (last dev) request.op))) fuel told.end

-- what is done leaves cells that are linked to one of these states of the machine
abbrev pub LeavesLinked : Finder → Development → (Abstract → Type 0) → Told → Type 0
LeavesLinked find dev states told = (n : ℕ) → told.end ≡ Done n → (a : Abstract) × states a × Linked find dev a told.cells

-- a call on these cells, before which the machine may be in these states: where it is done, the machine steps from one of them, with the
-- replies that are told, to a state that is linked to the cells; it does not trap, out of fuel it would be done with more, and without
-- WHILE it is done with a fuel of at least the length of its code
pub record CallEndsWell (find : Finder) (dev : Development) (fuel : ℕ) (before : Abstract → Type 0)
    (request : Request) (cells : List ℤ) (told : Told) : Type 0 where
  pub answers : LeavesLinked find dev (After find dev before (call_of dev request) (reply_of dev request told)) told
  pub untrapped : IsUntrapped told.end
  pub more : CallWouldEnd (translation dev) fuel request cells told
  pub in_time : CallEndsInTime dev fuel request cells told

-- so is it of the initialisation, in which the machine opens
pub record InitialisationEndsWell (find : Finder) (dev : Development) (fuel : ℕ) (told : Told) : Type 0 where
  pub opens : LeavesLinked find dev (Opens find dev) told
  pub untrapped : IsUntrapped told.end
  pub more : WouldEnd (translation dev) fuel (first_start (translation dev)) told.end
  pub in_time : HasNoLoop (level_at dev (last dev)).init → IsDoneWithin (length (init_code dev)) fuel told.end

-- call by call: where a call's precondition is true in every state of before, Holds is so of it, from these states and on the cells that
-- the one before it left, and so on from the states that it steps to with its replies; after a call that is not legal nothing is said, and
-- after one that is not done nothing is told
abbrev pub EachLegalCall : Finder → Development → ((Abstract → Type 0) → Request → List ℤ → Told → Type 0) →
    (Abstract → Type 0) → List ℤ → List Request → List Told → Type 0
EachLegalCall find dev Holds before cells (request ∷ requests) (told ∷ tolds) =
    ((a : Abstract) → before a → Pre find dev (call_of dev request) a) →
    Holds before request cells told
    × EachLegalCall find dev Holds (After find dev before (call_of dev request) (reply_of dev request told)) told.cells requests tolds
EachLegalCall find dev Holds before cells _ _ = Unit {0}

-- the initialisation ends well, and so does each call that is legal after those before it, whatever comes after it: up to the first call
-- whose precondition may be false the replies are those of a run of the machine
abbrev pub LegalCallsEndWell : Finder → Development → ℕ → List Request → List Told → Type 0
LegalCallsEndWell find dev fuel requests [] = Unit {0}
LegalCallsEndWell find dev fuel requests (told ∷ tolds) = InitialisationEndsWell find dev fuel told
    × EachLegalCall find dev (CallEndsWell find dev fuel) (Opens find dev) told.cells requests tolds
