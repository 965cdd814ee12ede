-- The abstract machine: its states, its steps, what is reached by calls and replies, and which calls are legal (B-Book, Abstract Machines).
use Rattle.std.specs.Prelude.{◌≡◌, ◌<◌, ℕ, pos, ◌-ℤ◌, Bool, true, ◌&&◌, int_le, List, [], ◌∷◌, map, length}
use Rattle.bk_val.specs.Value.{MathValue, int}
use Rattle.bk_form.specs.Search.{Finder}
use Rattle.bk_form.specs.Environment.{State, IsTypedState, at_state}
use Rattle.bk_gsl.specs.State.{holds, are_values_for}
use Rattle.bk_gsl.specs.Run.{Runs}
use Rattle.bk_dev.specs.Development.{Development, int_max, level_at, body_at, inputs_of}
use Rattle.bk_dev.specs.Hypotheses.{value_equation}
use Rattle.bk_form.specs.Predicates.{AllHold}

-- the values of the machine's variables, in their order
abbrev pub Abstract : Type 0
Abstract = List MathValue

-- the constants have their values
abbrev pub HasValues : Finder → Development → State → Type 0
HasValues find dev e = AllHold find (at_state dev.table e) (map value_equation dev.values)

-- the state gives the machine's variables these values
abbrev pub ShowsAbstract : Development → State → Abstract → Type 0
ShowsAbstract dev e a = map e (level_at dev 0).vars ≡ a

-- some typed state with the constants at their values runs the machine's initialisation to one that shows a
abbrev pub Opens : Finder → Development → Abstract → Type 0
Opens find dev a =
    (e f : State) × IsTypedState dev.table e × HasValues find dev e × Runs find dev.table (level_at dev 0).init e f × ShowsAbstract dev f a

-- an operation's number, and its arguments
pub record Call : Type 0 where
  pub op : ℕ
  pub args : List MathValue

-- the state shows a, gives the inputs their arguments and the constants their values
pub record Gives (find : Finder) (dev : Development) (c : Call) (a : Abstract) (e : State) : Type 0 where
  pub typed : IsTypedState dev.table e
  pub values : HasValues find dev e
  pub shown : ShowsAbstract dev e a
  pub args : map e (inputs_of dev c.op) ≡ c.args

-- the outermost precondition is true there
abbrev pub Pre : Finder → Development → Call → Abstract → Type 0
Pre find dev c a = (e : State) → Gives find dev c a e → holds find dev.table e (body_at dev 0 c.op).condition ≡ true

-- the body without that precondition can go from a to b with these outputs
abbrev pub Steps : Finder → Development → Call → Abstract → List MathValue → Abstract → Type 0
Steps find dev c a us b =
    (e f : State) × Gives find dev c a e × Runs find dev.table (body_at dev 0 c.op).sub e f
    × (map f (body_at dev 0 c.op).outputs ≡ us) × ShowsAbstract dev f b

-- some state of before steps to it
abbrev pub After : Finder → Development → (Abstract → Type 0) → Call → List MathValue → Abstract → Type 0
After find dev before c us b = (a : Abstract) × before a × Steps find dev c a us b

-- the states in which steps through these calls with these outputs end that start in a state of before
abbrev pub ReachFrom : Finder → Development → (Abstract → Type 0) → List Call → List (List MathValue) → Abstract → Type 0
ReachFrom find dev before [] [] a = before a
ReachFrom find dev before (c ∷ cs) (us ∷ more) a = ReachFrom find dev (After find dev before c us) cs more a
ReachFrom find dev before _ _ a = ⊥

-- the states in which a run ends that opens and then steps through these calls with these outputs
abbrev pub Reach : Finder → Development → List Call → List (List MathValue) → Abstract → Type 0
Reach find dev cs us a = ReachFrom find dev (Opens find dev) cs us a

-- as far as outputs are given, each call's precondition is true in every state that the calls before it reach from before
abbrev pub LegalFrom : Finder → Development → (Abstract → Type 0) → List Call → List (List MathValue) → Type 0
LegalFrom find dev before [] us = Unit {0}
LegalFrom find dev before (c ∷ cs) [] = (a : Abstract) → before a → Pre find dev c a
LegalFrom find dev before (c ∷ cs) (us ∷ more) =
    ((a : Abstract) → before a → Pre find dev c a) × LegalFrom find dev (After find dev before c us) cs more

-- each call's precondition is true in every state that the calls before it reach with these outputs; calls after the first without
-- outputs are not asked
abbrev pub Legal : Finder → Development → List Call → List (List MathValue) → Type 0
Legal find dev cs us = LegalFrom find dev (Opens find dev) cs us

-- ---- arguments
-- a number lies in MININT .. MAXINT, and any other value passes
abbrev pub is_in_int : Development → MathValue → Bool
is_in_int dev (int z) = int_le (pos 0 -ℤ int_max dev) z && int_le z (int_max dev)
is_in_int dev _ = true

-- each of the arguments passes that
abbrev pub are_in_int : Development → List MathValue → Bool
are_in_int dev [] = true
are_in_int dev (v ∷ vs) = is_in_int dev v && are_in_int dev vs

-- an operation of the development, with arguments of their inputs' types, numbers within INT
pub record IsCall (dev : Development) (c : Call) : Type 0 where
  pub op : c.op < length dev.heads
  pub types : are_values_for dev.table (inputs_of dev c.op) c.args ≡ true
  pub range : are_in_int dev c.args ≡ true

-- each is a call of an operation of the development
abbrev pub AreCalls : Development → List Call → Type 0
AreCalls dev [] = Unit {0}
AreCalls dev (c ∷ cs) = IsCall dev c × AreCalls dev cs
