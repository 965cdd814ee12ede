-- What is shown of levels, step by step.
use Rattle.std.specs.Prelude.{◌≡◌, ◌⊎◌, ◌<◌, ◌≤◌, ℕ, ℤ, ◌+◌, true, false, List, [], ◌∷◌, ◌++◌, length}
use Rattle.std.specs.List.{flat_map}
use Rattle.bk_form.specs.Each.{Each}
use Rattle.bk_form.specs.Table.{IsWellFormed}
use Rattle.bk_form.specs.Predicates.{IsPredicate}
use Rattle.bk_gsl.specs.State.{among}
use Rattle.bk_gsl.specs.Typed.{Types}
use Rattle.bk_dev.specs.Development.{Head, Body, Level, Development, level_at}
use Rattle.bk_dev.specs.Facts.{AllAre, Names, IsStated, binders, AreDistinct, all_outputs, all_binders, is_variable_of, names_constants}
use Rattle.bk_dev.specs.Facts.{StaysIn, names_own, names_joined, writes_own, is_variable_above, home_of, IsLevelOf, IsLawful, IsKindAt}
use Rattle.bk_dev.specs.Facts.{IsLink, IsSubOf, MayStandIn, IsHeadOf, AllAlike, IsBodyOf, EachBody, HomesAreThere}
use Rattle.bk_raw.specs.Meaning.Speaking.{AreTyped}
use Rattle.bk_statics.specs.Components.{Component, is_machine, initialisation}
use Rattle.bk_statics.specs.Typings.{Typing, interval, typed}
use Rattle.bk_statics.specs.Binders.{binder_count}
use Rattle.bk_statics.specs.Elaborated.{elaborated}
use Rattle.bk_statics.specs.Above.{known, upper_of}
use Rattle.bk_statics.specs.Plan.{Headed, Placed, Plan, plan, output_count, body_scope}
use Rattle.bk_statics.specs.LevelOf.{types_at, body_made, level_made, made}
use Rattle.bk_statics.specs.ClauseFaults.{clause_faults}
use Rattle.bk_statics.specs.OperationFaults.{shape_faults}
use Rattle.bk_statics.specs.StaticFaults.{outputs_of, body_faults, static_faults}
use Rattle.bk_statics.specs.Settled.{AreOf, AreSeen, IsBelow}
use Rattle.bk_statics.specs.Verdict.{level_below}

-- ---- what is bound
-- how much the bodies bind
abbrev pub body_count : List Headed → ℕ
body_count [] = 0
body_count (h ∷ hs) = binder_count h.operation.body + body_count hs

-- the outputs of a level are an interval of numbers, and so is what its initialisation and its bodies bind
abbrev pub LevelsBindIntervals : Type 0
LevelsBindIntervals = (int_max : ℤ) (typing : Typing) (p : Plan) (c : Component)
    → (flat_map (λ b. b.outputs) (level_made int_max typing p c).bodies ≡ interval p.outputs_at (output_count p.headed))
    × (binders (level_made int_max typing p c).init ++ flat_map (λ b. binders b.sub) (level_made int_max typing p c).bodies ≡
    interval p.binders_at (binder_count (initialisation c) + body_count p.headed))

-- no variable is bound twice in a development, none that is bound is an output, and all have an entry
pub record StandApart (dev : Development) : Type 0 where
  pub differ : AreDistinct (all_outputs dev ++ all_binders dev)
  pub below : (n : ℕ) → among (all_outputs dev ++ all_binders dev) n ≡ true → n < length dev.table.variables

-- with each component, faults or not, this stays so
abbrev pub BindersStandApart : Type 0
BindersStandApart = (int_max : ℤ) (dev : Development) (c : Component) → StandApart dev → StandApart (level_below int_max dev c)

-- ---- homes
-- each variable has a home
abbrev pub HomesAreAll : Type 0
HomesAreAll = (int_max : ℤ) (dev : Development) (c : Component) → length dev.homes ≡ length dev.table.variables →
    length (level_below int_max dev c).homes ≡ length (level_below int_max dev c).table.variables

-- what is asked of the levels above: each is so of a development
pub record IsReady (dev : Development) : Type 0 where
  pub table : IsWellFormed dev.table
  pub homes : length dev.homes ≡ length dev.table.variables
  -- the last level's variables are at home there
  pub upper : AreSeen (λ n. is_variable_above (length dev.levels) (home_of dev n)) (upper_of dev)

-- ---- clauses
-- properties, invariant and assertions are predicates, and name what they may
pub record StatesRight (int_max : ℤ) (dev : Development) (c : Component) : Type 0 where
  pub properties : IsPredicate (level_below int_max dev c).table
      (level_made int_max (types_at int_max dev c (plan dev c)) (plan dev c) c).properties
  pub properties_names : Names (names_constants (level_below int_max dev c))
      (level_made int_max (types_at int_max dev c (plan dev c)) (plan dev c) c).properties
  pub invariant : IsStated (level_below int_max dev c) (plan dev c).level
      (level_made int_max (types_at int_max dev c (plan dev c)) (plan dev c) c).invariant
  pub assertions : Each (IsStated (level_below int_max dev c) (plan dev c).level)
      (level_made int_max (types_at int_max dev c (plan dev c)) (plan dev c) c).assertions

-- faults or not
abbrev pub ClausesAreRight : Type 0
ClausesAreRight = (int_max : ℤ) (dev : Development) (c : Component) → IsReady dev → StatesRight int_max dev c

-- ---- the initialisation
-- without faults it types, and names and writes what it may
pub record StartsRight (int_max : ℤ) (dev : Development) (c : Component) : Type 0 where
  pub types : Types (level_below int_max dev c).table (level_made int_max (types_at int_max dev c (plan dev c)) (plan dev c) c).init
  pub stays : StaysIn (names_own (level_below int_max dev c) (plan dev c).level [] [])
      (names_joined (level_below int_max dev c) (plan dev c).level) (writes_own (level_below int_max dev c) (plan dev c).level [])
      (level_made int_max (types_at int_max dev c (plan dev c)) (plan dev c) c).init

-- where a component has no fault, its initialisation may stand there
abbrev pub InitialisationsAreRight : Type 0
InitialisationsAreRight = (int_max : ℤ) (dev : Development) (c : Component) →
    IsReady dev → static_faults int_max dev c ≡ [] → StartsRight int_max dev c

-- ---- bodies
-- an operation whose numbers stand after the level's, and whose inputs have types and are these
pub record IsPlaced (int_max : ℤ) (dev : Development) (c : Component) (inputs : List ℕ) (o : Placed) : Type 0 where
  pub outputs : (plan dev c).inputs_at ≤ o.outputs_at
  pub binders : o.outputs_at + length o.headed.operation.outputs ≤ o.binders_at
  pub of : AreOf (level_below int_max dev c).table o.headed.inputs
  pub typed_inputs : AreTyped (typed (types_at int_max dev c (plan dev c)) o.headed.inputs)
  pub seen : AreSeen (among inputs) o.headed.inputs
  pub below : IsBelow o.binders_at (among inputs)

-- without faults its body, with the precondition, types, and names, writes and binds what it may
pub record BodyRight (int_max : ℤ) (dev : Development) (c : Component) (inputs : List ℕ) (o : Placed) : Type 0 where
  pub types : Types (level_below int_max dev c).table (elaborated int_max (types_at int_max dev c (plan dev c))
      (plan dev c).upper (body_scope (plan dev c) o) o.binders_at o.headed.operation.body)
  pub stays : StaysIn (names_own (level_below int_max dev c) (plan dev c).level inputs (outputs_of o)) (names_joined
      (level_below int_max dev c) (plan dev c).level) (writes_own (level_below int_max dev c) (plan dev c).level (outputs_of o)) (elaborated
      int_max (types_at int_max dev c (plan dev c)) (plan dev c).upper (body_scope (plan dev c) o) o.binders_at o.headed.operation.body)

-- where a component has no fault, the bodies of its operations may stand there
abbrev pub BodiesAreRight : Type 0
BodiesAreRight = (int_max : ℤ) (dev : Development) (c : Component) → IsReady dev → clause_faults int_max
    (types_at int_max dev c (plan dev c)) (plan dev c) c ≡ [] → (inputs : List ℕ) (o : Placed) → IsPlaced int_max dev c inputs o →
    body_faults int_max dev c (types_at int_max dev c (plan dev c)) (plan dev c) o ≡ [] → BodyRight int_max dev c inputs o

-- ---- links
-- it is one of them
abbrev pub IsIn : {A : Type 0} → A → List A → Type 0
IsIn x [] = ⊥
IsIn x (y ∷ ys) = (x ≡ y) ⊎ IsIn x ys

-- a link's variable is at home at the level, and has the type of the one above
abbrev pub LinksAreRight : Type 0
LinksAreRight = (int_max : ℤ) (dev : Development) (c : Component) → IsReady dev → (n m : ℕ) →
    IsIn (n, m) (level_made int_max (types_at int_max dev c (plan dev c)) (plan dev c) c).links
    → (is_variable_of (plan dev c).level (home_of (level_below int_max dev c) n) ≡ true)
    × (types_at int_max dev c (plan dev c) n ≡ known dev m)

-- ---- the level
-- what a component at level k is, but for its bodies
pub record HasClauses (dev : Development) (k : ℕ) (l : Level) : Type 0 where
  pub kind : IsKindAt k l.kind
  pub vars : AllAre (λ n. is_variable_of k (home_of dev n)) l.vars
  pub all : (n : ℕ) → is_variable_of k (home_of dev n) ≡ true → among l.vars n ≡ true
  pub distinct : AreDistinct l.vars
  pub properties : IsPredicate dev.table l.properties
  pub properties_names : Names (names_constants dev) l.properties
  pub invariant : IsStated dev k l.invariant
  pub assertions : Each (IsStated dev k) l.assertions
  pub links : Each (IsLink dev k) l.links
  pub init : IsSubOf dev k [] [] l.init
  -- and where the initialisation's parts may stand
  pub shape : MayStandIn l.kind l.init

-- without faults a component of its kind is so
abbrev pub NewLevelHasClauses : Type 0
NewLevelHasClauses = (int_max : ℤ) (dev : Development) (c : Component) → IsReady dev →
    HomesAreThere dev → IsKindAt (length dev.levels) c.kind → static_faults int_max dev c ≡ []
    → HasClauses (level_below int_max dev c) (length dev.levels) (level_made int_max (types_at int_max dev c (plan dev c)) (plan dev c) c)

-- ---- operations
-- an operation whose outputs are among the level's, and whose binders are among those of the level's bodies
pub record IsWithin (dev : Development) (c : Component) (o : Placed) : Type 0 where
  pub outputs : (plan dev c).outputs_at ≤ o.outputs_at
  pub all_outputs : o.outputs_at + length o.headed.operation.outputs ≤ (plan dev c).binders_at
  pub binders : (plan dev c).binders_at ≤ o.binders_at
  pub all_binders : o.binders_at + binder_count o.headed.operation.body
      ≤ (plan dev c).binders_at + (binder_count (initialisation c) + body_count (plan dev c).headed)

-- it stands within the level, with the machine's inputs, and with outputs that are as many as its header's and have the types of the
-- machine's, and is without faults
pub record IsNewBody (int_max : ℤ) (dev : Development) (c : Component) (head : Head) (machine : Body) (o : Placed) : Type 0 where
  pub within : IsWithin dev c o
  pub placed : IsPlaced int_max dev c head.inputs o
  pub counted : length o.headed.operation.outputs ≡ head.outputs
  pub alike : AllAlike (level_below int_max dev c).table (outputs_of o) machine.outputs
  pub no_faults : body_faults int_max dev c (types_at int_max dev c (plan dev c)) (plan dev c) o ≡ []
  pub no_shapes : shape_faults c.kind false o.headed.operation.body ≡ []

-- without faults it has the machine's header, where its outputs have the types of the machine's
abbrev pub NewBodiesAreBodies : Type 0
NewBodiesAreBodies = (int_max : ℤ) (dev : Development) (c : Component) → IsReady dev → static_faults int_max dev c ≡ [] →
    (head : Head) (machine : Body) (o : Placed) → IsNewBody int_max dev c head machine o →
    IsBodyOf (level_below int_max dev c) (plan dev c).level head machine
    (body_made int_max (types_at int_max dev c (plan dev c)) (plan dev c) o)

-- the operations of a machine without faults are those of its headers, whose inputs are inputs and differ
pub record MachineRight (int_max : ℤ) (dev : Development) (c : Component) : Type 0 where
  pub heads : Each (IsHeadOf (level_below int_max dev c)) (plan dev c).heads
  pub own_inputs : AreDistinct (flat_map (λ h. h.inputs) (plan dev c).heads)
  pub bodies : EachBody (level_below int_max dev c) (plan dev c).level (plan dev c).heads (level_made int_max (types_at int_max
      dev c (plan dev c)) (plan dev c) c).bodies (level_made int_max (types_at int_max dev c (plan dev c)) (plan dev c) c).bodies

-- what a machine without a fault makes is the first level of a development
abbrev pub MachinesAreRight : Type 0
MachinesAreRight = (int_max : ℤ) (dev : Development) (c : Component) → IsReady dev →
    is_machine c.kind ≡ true → static_faults int_max dev c ≡ [] → MachineRight int_max dev c

-- the operations of a component below without faults are those of the machine's headers
pub record LowerRight (int_max : ℤ) (dev : Development) (c : Component) : Type 0 where
  pub heads : (level_below int_max dev c).heads ≡ dev.heads
  pub bodies : EachBody (level_below int_max dev c) (plan dev c).level dev.heads (level_at dev 0).bodies
      (level_made int_max (types_at int_max dev c (plan dev c)) (plan dev c) c).bodies
  pub shapes : Each (λ (b : Body). MayStandIn c.kind b.sub) (level_made int_max (types_at int_max dev c (plan dev c)) (plan dev c) c).bodies

-- what another component without a fault makes is one more level of a development
abbrev pub LowersAreRight : Type 0
LowersAreRight = (int_max : ℤ) (dev : Development) (c : Component) → IsReady dev → IsLawful dev →
    is_machine c.kind ≡ false → static_faults int_max dev c ≡ [] → LowerRight int_max dev c

-- ---- the levels above
-- the levels of a lawful development are levels below it too, whatever component is put below, faults or not
abbrev pub OldLevelsStay : Type 0
OldLevelsStay = (int_max : ℤ) (dev : Development) (c : Component) → IsLawful dev → is_machine c.kind ≡ false →
    (k : ℕ) → k < length dev.levels → IsLevelOf (level_below int_max dev c) k (level_at dev k)

-- with each component, faults or not, this stays so
abbrev pub HomesStay : Type 0
HomesStay = (int_max : ℤ) (dev : Development) (c : Component) → length dev.homes ≡ length dev.table.variables →
    HomesAreThere dev → HomesAreThere (level_below int_max dev c)
