-- What holds of every development: its numbers name entries, its formulas type, and names stay where they may stand.
-- Source: B-Book; B Language Reference Manual; what numbers are asked is this project's.
use Rattle.std.specs.Prelude.{◌≡◌, ◌⊎◌, ◌<◌, ◌≤◌, ℕ, suc, nat_eq, pos, ◌-ℤ◌, ◌≤ℤ◌, Bool, true}
use Rattle.std.specs.Prelude.{false, not, ◌||◌, List, [], ◌∷◌, ◌++◌, length, Option, Some, ◌^◌}
use Rattle.std.specs.List.{slice_get, flat_map}
use Rattle.bk_val.specs.ValueType.{ValueType}
use Rattle.bk_form.specs.Table.{Table, variable_type, IsWellFormed}
use Rattle.bk_form.specs.Sized.{HasSizes}
use Rattle.bk_form.specs.Formula.{Formula, literal, truth_value, element}
use Rattle.bk_form.specs.Replacement.{occurs, IsClosed}
use Rattle.bk_gsl.specs.Substitution.{Substitution, skip, assign, pre, guard, choice, if_else, any, seq, par, assert, becomes_such, loop}
use Rattle.bk_gsl.specs.State.{among, firsts}
use Rattle.bk_gsl.specs.Writes.{written}
use Rattle.bk_gsl.specs.Typed.{IsTerm, Types}
use Rattle.bk_form.specs.Predicates.{IsPredicate}
use Rattle.bk_dev.specs.declared.kind.Kind.{Kind}
use Rattle.bk_dev.specs.declared.kind.Kind.TheVariants.{Machine, Refinement, Implementation}
use Rattle.bk_dev.specs.declared.kind.Home.{Home}
use Rattle.bk_dev.specs.declared.kind.Home.TheVariants.{Constant, Input, Abstract, Inner, Concrete}
use Rattle.bk_dev.specs.Development.{Head, Body, Level, Development, int_max, IsRange, level_at}
use Rattle.bk_dev.specs.Development.{last, is_complete, is_implementation, body_at}
use Rattle.bk_form.specs.Each.{Each}
use Rattle.bk_gsl.specs.Flat.{IsFlat}
use Rattle.bk_dev.specs.Flattened.{flattened}
use Rattle.bk_dev.specs.Extents.{HasItsExtents}

-- ---- homes
-- the home of a constant
abbrev pub is_constant : Option Home → Bool
is_constant (Some Constant) = true
is_constant _ = false

-- the home of an operation's input
abbrev pub is_input : Option Home → Bool
is_input (Some Input) = true
is_input _ = false

-- the home of a variable of level k, abstract or concrete
abbrev pub is_variable_of : ℕ → Option Home → Bool
is_variable_of k (Some (Abstract j)) = nat_eq j k
is_variable_of k (Some (Concrete j)) = nat_eq j k
is_variable_of k _ = false

-- the home of an output, a local or a bound variable of level k
abbrev pub is_inner_of : ℕ → Option Home → Bool
is_inner_of k (Some (Inner j)) = nat_eq j k
is_inner_of k _ = false

-- a home's level is one of the first k
abbrev pub StandsBelow : ℕ → Option Home → Type 0
StandsBelow k (Some (Abstract j)) = j < k
StandsBelow k (Some (Concrete j)) = j < k
StandsBelow k (Some (Inner j)) = j < k
StandsBelow k _ = Unit {0}

-- where variable n of the table is at home
abbrev pub home_of : Development → ℕ → Option Home
home_of dev n = slice_get dev.homes n

-- each variable that is at home at a level is at home at one that is there
abbrev pub HomesAreThere : Development → Type 0
HomesAreThere dev = (n : ℕ) → StandsBelow (length dev.levels) (home_of dev n)

-- each of these variables passes the test
abbrev pub AllAre : (ℕ → Bool) → List ℕ → Type 0
AllAre p [] = Unit {0}
AllAre p (n ∷ ns) = (p n ≡ true) × AllAre p ns

-- no number stands twice
abbrev pub AreDistinct : List ℕ → Type 0
AreDistinct [] = Unit {0}
AreDistinct (n ∷ ns) = (among ns n ≡ false) × AreDistinct ns

-- ---- what a formula and a substitution may name
-- the formula has no loose bound number and names only variables that the test admits
pub record Names (visible : ℕ → Bool) (f : Formula) : Type 0 where
  pub closed : IsClosed 0 f
  pub visible_only : (n : ℕ) → occurs n f ≡ true → visible n ≡ true

-- different variables that may be written, each with a term that may stand there
abbrev pub AssignsIn : (ℕ → Bool) → (ℕ → Bool) → List (ℕ × Formula) → Type 0
AssignsIn visible writable [] = Unit {0}
AssignsIn visible writable (p ∷ ps) =
    (writable p.0 ≡ true) × Names visible p.1 × (among (firsts ps) p.0 ≡ false) × AssignsIn visible writable ps

-- the second of each pair: the numbers that stand for old values in x :(P)
abbrev pub seconds : List (ℕ × ℕ) → List ℕ
seconds [] = []
seconds (p ∷ ps) = p.1 ∷ seconds ps

-- none is visible yet
abbrev pub AreNew : (ℕ → Bool) → List ℕ → Type 0
AreNew visible [] = Unit {0}
AreNew visible (n ∷ ns) = (visible n ≡ false) × AreNew visible ns

-- its formulas name what they may, it writes what it may, nothing is written twice at once, and what it binds is new and
-- visible inside its binder alone; the invariant and the variant of a loop see what above admits too
abbrev pub StaysIn : (ℕ → Bool) → (ℕ → Bool) → (ℕ → Bool) → Substitution → Type 0
StaysIn visible above writable skip = Unit {0}
StaysIn visible above writable (assign ps) = AssignsIn visible writable ps
StaysIn visible above writable (pre p s) = Names visible p × StaysIn visible above writable s
StaysIn visible above writable (guard p s) = Names visible p × StaysIn visible above writable s
StaysIn visible above writable (choice s t) = StaysIn visible above writable s × StaysIn visible above writable t
StaysIn visible above writable (if_else p s t) = Names visible p × StaysIn visible above writable s × StaysIn visible above writable t
StaysIn visible above writable (any zs s) =
    AreNew visible zs × AreDistinct zs × StaysIn (λ n. among zs n || visible n) above (λ n. among zs n || writable n) s
StaysIn visible above writable (seq s t) = StaysIn visible above writable s × StaysIn visible above writable t
StaysIn visible above writable (par s t) =
    StaysIn visible above writable s × StaysIn visible above writable t × AllAre (λ n. not (among (written t) n)) (written s)
StaysIn visible above writable (assert p s) = Names visible p × StaysIn visible above writable s
StaysIn visible above writable (becomes_such xs p) =
    AllAre writable (firsts xs) × AreDistinct (firsts xs) × AreNew visible (seconds xs) × AreDistinct (seconds xs)
    × Names (λ n. among (seconds xs) n || visible n) p
StaysIn visible above writable (loop p s i v) =
    Names visible p × StaysIn visible above writable s × Names (λ n. above n || visible n) i × Names (λ n. above n || visible n) v

-- the variables that it binds
abbrev pub binders : Substitution → List ℕ
binders (pre p s) = binders s
binders (guard p s) = binders s
binders (choice s t) = binders s ++ binders t
binders (if_else p s t) = binders s ++ binders t
binders (any zs s) = zs ++ binders s
binders (seq s t) = binders s ++ binders t
binders (par s t) = binders s ++ binders t
binders (assert p s) = binders s
binders (becomes_such xs p) = seconds xs
binders (loop p s i v) = binders s
binders _ = []

-- ---- which substitutions a component may have
-- P ==> S: a binder over it is an ANY, and over anything else a VAR
abbrev pub IsGuard : Substitution → Type 0
IsGuard (guard p s) = Unit {0}
IsGuard _ = ⊥

-- a component of this kind may have sequencing and VAR, locals whose body is no guard: any but the machine
abbrev pub MaySequence : Kind → Type 0
MaySequence Machine = ⊥
MaySequence _ = Unit {0}

-- a component of this kind may have a WHILE: an implementation alone
abbrev pub MayLoop : Kind → Type 0
MayLoop Implementation = Unit {0}
MayLoop _ = ⊥

-- loops stand in implementations alone
abbrev pub LoopsStandIn : Kind → Substitution → Type 0
LoopsStandIn kind (pre p s) = LoopsStandIn kind s
LoopsStandIn kind (guard p s) = LoopsStandIn kind s
LoopsStandIn kind (choice s t) = LoopsStandIn kind s × LoopsStandIn kind t
LoopsStandIn kind (if_else p s t) = LoopsStandIn kind s × LoopsStandIn kind t
LoopsStandIn kind (any zs s) = LoopsStandIn kind s
LoopsStandIn kind (seq s t) = LoopsStandIn kind s × LoopsStandIn kind t
LoopsStandIn kind (par s t) = LoopsStandIn kind s × LoopsStandIn kind t
LoopsStandIn kind (assert p s) = LoopsStandIn kind s
LoopsStandIn kind (loop p s i v) = MayLoop kind × LoopsStandIn kind s
LoopsStandIn kind _ = Unit {0}

-- inside || there is no sequencing, no VAR and no loop
abbrev pub IsUnordered : Substitution → Type 0
IsUnordered (pre p s) = IsUnordered s
IsUnordered (guard p s) = IsUnordered s
IsUnordered (choice s t) = IsUnordered s × IsUnordered t
IsUnordered (if_else p s t) = IsUnordered s × IsUnordered t
IsUnordered (any zs s) = IsGuard s × IsUnordered s
IsUnordered (seq s t) = ⊥
IsUnordered (par s t) = IsUnordered s × IsUnordered t
IsUnordered (assert p s) = IsUnordered s
IsUnordered (loop p s i v) = ⊥
IsUnordered _ = Unit {0}

-- what is in sequence, local or under || is such as a component of this kind may have
abbrev pub MayStandIn : Kind → Substitution → Type 0
MayStandIn kind (pre p s) = MayStandIn kind s
MayStandIn kind (guard p s) = MayStandIn kind s
MayStandIn kind (choice s t) = MayStandIn kind s × MayStandIn kind t
MayStandIn kind (if_else p s t) = MayStandIn kind s × MayStandIn kind t
MayStandIn kind (any zs s) = (IsGuard s ⊎ MaySequence kind) × MayStandIn kind s
MayStandIn kind (seq s t) = MaySequence kind × MayStandIn kind s × MayStandIn kind t
MayStandIn kind (par s t) = IsUnordered s × IsUnordered t × MayStandIn kind s × MayStandIn kind t
MayStandIn kind (assert p s) = MayStandIn kind s
MayStandIn kind (loop p s i v) = MayStandIn kind s
MayStandIn kind _ = Unit {0}

-- ---- levels
-- what the properties may name: constants
abbrev pub names_constants : Development → ℕ → Bool
names_constants dev n = is_constant (home_of dev n)

-- the home of a variable of the level above level k; the machine has none above it
abbrev pub is_variable_above : ℕ → Option Home → Bool
is_variable_above (suc j) h = is_variable_of j h
is_variable_above _ h = false

-- what the invariant and the assertions of level k may name: constants, and the variables of the level and of the one above
abbrev pub names_joined : Development → ℕ → ℕ → Bool
names_joined dev k n = is_constant (home_of dev n) || is_variable_of k (home_of dev n) || is_variable_above k (home_of dev n)

-- what a body of level k may name: constants, inputs, the level's variables, and its own outputs
abbrev pub names_own : Development → ℕ → List ℕ → List ℕ → ℕ → Bool
names_own dev k inputs outputs n = is_constant (home_of dev n) || among inputs n || is_variable_of k (home_of dev n) || among outputs n

-- what it may write: the level's variables and its outputs
abbrev pub writes_own : Development → ℕ → List ℕ → ℕ → Bool
writes_own dev k outputs n = is_variable_of k (home_of dev n) || among outputs n

-- the initialisation of level k, or the body of an operation with these inputs and outputs
pub record IsSubOf (dev : Development) (k : ℕ) (inputs outputs : List ℕ) (s : Substitution) : Type 0 where
  pub types : Types dev.table s
  pub stays : StaysIn (names_own dev k inputs outputs) (names_joined dev k) (writes_own dev k outputs) s
  pub loops : LoopsStandIn (level_at dev k).kind s
  pub binds_inner : AllAre (λ n. is_inner_of k (home_of dev n)) (binders s)

-- two variables of one type
abbrev pub AreAlike : Table → ℕ → ℕ → Type 0
AreAlike table x y = (t : ValueType) × (variable_type table x ≡ Some t) × (variable_type table y ≡ Some t)

-- as many, each with one of its type
abbrev pub AllAlike : Table → List ℕ → List ℕ → Type 0
AllAlike table [] [] = Unit {0}
AllAlike table (x ∷ xs) (y ∷ ys) = AreAlike table x y × AllAlike table xs ys
AllAlike table _ _ = ⊥

-- an operation's body at level k, whose outputs have the types of those of the machine's body
pub record IsBodyOf (dev : Development) (k : ℕ) (head : Head) (machine b : Body) : Type 0 where
  pub condition : IsPredicate dev.table b.condition
  pub condition_names : Names (names_own dev k head.inputs b.outputs) b.condition
  pub sub : IsSubOf dev k head.inputs b.outputs b.sub
  pub outputs : AllAre (λ n. is_inner_of k (home_of dev n)) b.outputs
  pub distinct_outputs : AreDistinct b.outputs
  pub as_many_outputs : length b.outputs ≡ head.outputs
  pub output_types : AllAlike dev.table b.outputs machine.outputs

-- a predicate of level k that names what its invariant may
pub record IsStated (dev : Development) (k : ℕ) (p : Formula) : Type 0 where
  pub is_predicate : IsPredicate dev.table p
  pub names : Names (names_joined dev k) p

-- a link: a variable of the level, and one of the level above, of one type
pub record IsLink (dev : Development) (k : ℕ) (p : ℕ × ℕ) : Type 0 where
  pub below : is_variable_of k (home_of dev p.0) ≡ true
  pub above : (j : ℕ) × (k ≡ suc j) × (is_variable_of j (home_of dev p.1) ≡ true)
  pub alike : AreAlike dev.table p.0 p.1

-- each header with the machine's body and the level's
abbrev pub EachBody : Development → ℕ → List Head → List Body → List Body → Type 0
EachBody dev k [] [] [] = Unit {0}
EachBody dev k (h ∷ hs) (m ∷ ms) (b ∷ bs) = IsBodyOf dev k h m b × EachBody dev k hs ms bs
EachBody dev k _ _ _ = ⊥

-- the machine comes first, and what stands below it is none
abbrev pub IsKindAt : ℕ → Kind → Type 0
IsKindAt k Machine = k ≡ 0
IsKindAt k Refinement = 0 < k
IsKindAt k Implementation = 0 < k

-- a component as it must be to stand at level k
pub record IsLevelOf (dev : Development) (k : ℕ) (l : Level) : Type 0 where
  pub kind : IsKindAt k l.kind
  pub vars : AllAre (λ n. is_variable_of k (home_of dev n)) l.vars
  -- and no other variable is at home there
  pub all : (n : ℕ) → is_variable_of k (home_of dev n) ≡ true → among l.vars n ≡ true
  pub distinct : AreDistinct l.vars
  pub properties : IsPredicate dev.table l.properties
  pub properties_names : Names (names_constants dev) l.properties
  pub invariant : IsStated dev k l.invariant
  pub assertions : Each (IsStated dev k) l.assertions
  pub links : Each (IsLink dev k) l.links
  pub init : IsSubOf dev k [] [] l.init
  pub bodies : EachBody dev k dev.heads (level_at dev 0).bodies l.bodies

-- these components may stand one below the other, the first at level k
abbrev pub EachLevel : Development → ℕ → List Level → Type 0
EachLevel dev k [] = Unit {0}
EachLevel dev k (l ∷ ls) = IsLevelOf dev k l × EachLevel dev (suc k) ls

-- an operation's inputs are inputs, and differ
pub record IsHeadOf (dev : Development) (h : Head) : Type 0 where
  pub inputs : AllAre (λ n. is_input (home_of dev n)) h.inputs
  pub distinct : AreDistinct h.inputs

-- a literal within INT, TRUE, FALSE or an element
abbrev pub IsLiteral : Development → Formula → Type 0
IsLiteral dev (literal z) = ((pos 0 -ℤ int_max dev) ≤ℤ z) × (z ≤ℤ int_max dev)
IsLiteral dev (truth_value b) = Unit {0}
IsLiteral dev (element s i) = Unit {0}
IsLiteral dev _ = ⊥

-- a value of a constant, of its type
pub record IsValue (dev : Development) (p : ℕ × Formula) : Type 0 where
  pub constant : is_constant (home_of dev p.0) ≡ true
  pub is_literal : IsLiteral dev p.1
  pub of_type : (t : ValueType) × (variable_type dev.table p.0 ≡ Some t) × IsTerm dev.table t p.1

-- where there is an implementation each constant has one value, and else none
abbrev pub HasItsValues : Development → Bool → Type 0
HasItsValues dev true =
    AreDistinct (firsts dev.values) × ((n : ℕ) → is_constant (home_of dev n) ≡ true → among (firsts dev.values) n ≡ true)
HasItsValues dev false = dev.values ≡ []

-- every variable that is bound, everywhere in the development
abbrev pub all_binders : Development → List ℕ
all_binders dev = flat_map (λ l. binders l.init ++ flat_map (λ b. binders b.sub) l.bodies) dev.levels

-- every output
abbrev pub all_outputs : Development → List ℕ
all_outputs dev = flat_map (λ l. flat_map (λ b. b.outputs) l.bodies) dev.levels

-- what flattening keeps: it is well typed, and each name is visible where it is used; implementations may stand one below the other
pub record IsLawful (dev : Development) : Type 0 where
  pub range : IsRange (int_max dev)
  pub some_level : 0 < length dev.levels
  pub table : IsWellFormed dev.table
  pub sets : dev.sets ≡ dev.table.sets
  pub homes : length dev.homes ≡ length dev.table.variables
  pub heads : Each (IsHeadOf dev) dev.heads
  -- no input belongs to two operations
  pub own_inputs : AreDistinct (flat_map (λ h. h.inputs) dev.heads)
  pub levels : EachLevel dev 0 dev.levels
  pub values : Each (IsValue dev) dev.values
  pub complete : HasItsValues dev (is_complete dev)

-- the parts of its substitutions are such as its kind may have, loops aside
pub record HasItsShape (l : Level) : Type 0 where
  pub init : MayStandIn l.kind l.init
  pub bodies : Each (λ b. MayStandIn l.kind b.sub) l.bodies

-- no || stands in it
pub record IsFlatDevelopment (dev : Development) : Type 0 where
  pub init : (k : ℕ) → k < length dev.levels → IsFlat (level_at dev k).init
  pub bodies : (k : ℕ) → k < length dev.levels → (o : ℕ) → o < length dev.heads → IsFlat (body_at dev k o).sub

-- no || stands in the last level
pub record LastIsFlat (dev : Development) : Type 0 where
  pub init : IsFlat (level_at dev (last dev)).init
  pub bodies : Each (λ b. IsFlat b.sub) (level_at dev (last dev)).bodies

-- no level above the last is an implementation
abbrev pub OnlyLastIsImplementation : Development → Type 0
OnlyLastIsImplementation dev = (k : ℕ) → suc k < length dev.levels → is_implementation (level_at dev k) ≡ false

-- what every development that the program builds is
pub record IsDevelopment (dev : Development) : Type 0 where
  pub lawful : IsLawful dev
  pub only_last : OnlyLastIsImplementation dev
  -- where there is an implementation each set has a size
  pub sizes : is_complete dev ≡ true → HasSizes dev.sets
  pub shapes : Each HasItsShape dev.levels
  -- no variable is bound twice, and none that is bound is an output
  pub binders_differ : AreDistinct (all_outputs dev ++ all_binders dev)
  -- 32 bits number all its variables and all copies that flattening makes, and leave a number for the variant of a loop
  pub room : length (flattened dev).table.variables < 2 ^ 32
  -- and all its sets
  pub few_sets : length dev.table.sets ≤ 2 ^ 32
  pub homes_there : HomesAreThere dev
  pub extents : HasItsExtents dev
