-- What is shown of substitutions whose names are resolved.
use Rattle.std.specs.Prelude.{◌≡◌, ◌⊎◌, ◌≤◌, ℕ, ◌+◌, ℤ, Bool, true, false, List, [], ◌∷◌, length, map, Option, None, Some}
use Rattle.std.specs.List.{flat_map, slice_get}
use Rattle.bk_val.specs.ValueType.{ValueType}
use Rattle.bk_form.specs.Each.{Each}
use Rattle.bk_form.specs.Table.{Table, lists_type}
use Rattle.bk_dev.specs.declared.kind.Kind.{Kind}
use Rattle.bk_dev.specs.Development.{Head, Development}
use Rattle.bk_dev.specs.Facts.{binders, LoopsStandIn, MayStandIn, HomesAreThere}
use Rattle.bk_raw.specs.declared.fault.FaultKind.{FaultKind}
use Rattle.bk_raw.specs.Trees.SubTree.{SubTree}
use Rattle.bk_raw.specs.Trees.ComponentTree.{RawComponent}
use Rattle.bk_statics.specs.Components.{Component, component_of, operation_names}
use Rattle.bk_statics.specs.Above.{above_of, known}
use Rattle.bk_statics.specs.Settled.{IsSettled, AreOf}
use Rattle.bk_statics.specs.Sources.{AreTold}
use Rattle.bk_statics.specs.Verdict.{accepted, at_fault, past_limit}
use Rattle.bk_phases.specs.Scope.{numbers}
use Rattle.bk_phases.specs.Statement.{Statement, within, locals_of}
use Rattle.bk_phases.specs.Resolve.{Scope, resolved}
use Rattle.bk_phases.specs.Symbols.{Source, from_value, from_domain, from_conjunct, Symbol, symbols_of}
use Rattle.bk_phases.specs.Resolved.{Operation, in_order, resolved_operations, Resolved, resolved_component}
use Rattle.bk_phases.specs.TwiceNamed.{twice_among}
use Rattle.bk_phases.specs.Types.{Types, given, round, repeated, types_of}
use Rattle.bk_phases.specs.Operations.{misplaced, other_headers}
use Rattle.bk_phases.specs.LevelOf.{numbers_from, elaborated, table_with, with_level}
use Rattle.bk_phases.specs.DeclaredNames.{declares_too_many}
use Rattle.bk_phases.specs.Verdict.{Phase, phases, verdict, verdict_of}

-- a substitution of a development binds the names that the statement binds
abbrev pub NamesAreBound : Type 0
NamesAreBound = (types : Types) (s : Statement) → binders (elaborated types s) ≡ numbers (locals_of s)

-- each of them has a symbol
abbrev pub NamesHaveSymbols : Type 0
NamesHaveSymbols = (s : Statement) → length (symbols_of s) ≡ length (locals_of s)

-- they have the next free numbers, in the order of the text
abbrev pub NamesHaveNextNumbers : Type 0
NamesHaveNextNumbers = (c : Scope) (s : SubTree) → numbers (locals_of (resolved c s)) ≡ numbers_from c.next (locals_of (resolved c s))

-- what stands where it may in a component of this kind
pub record StandsRight (kind : Kind) (types : Types) (s : Statement) : Type 0 where
  pub may : MayStandIn kind (elaborated types s)
  pub loops : LoopsStandIn kind (elaborated types s)

-- a substitution in which nothing is misplaced
abbrev pub StatementsStandRight : Type 0
StatementsStandRight = (kind : Kind) (types : Types) (s : Statement) →
    flat_map (misplaced kind) (within s) ≡ [] → StandsRight kind types s

-- ---- types
-- a name that has no type in the end could get none from the types that there are: it waits for itself, or nothing types it
abbrev pub TypesAreSettled : Type 0
TypesAreSettled = (max : ℤ) (r : Resolved) (i : ℕ) (s : Symbol) → slice_get r.symbols i ≡ Some s
    → (types_of max r).of (length r.above.table.variables + i) ≡ None → given (types_of max r) s.source ≡ None

-- the sets and elements in a source's scope are those of the table
abbrev pub IsSourceOf : Table → Source → Type 0
IsSourceOf table (from_value e) = AreOf table e.names
IsSourceOf table (from_domain e) = AreOf table e.names
IsSourceOf table (from_conjunct xs x p) = AreOf table p.names
IsSourceOf table _ = Unit {0}

-- numbers with types are below a bound, and the types have only sets of the table: this stays so in all rounds
abbrev pub RoundsAreListed : Type 0
RoundsAreListed = (table : Table) (top n c : ℕ) (ss : List Symbol) (types : Types) → Each (λ (s : Symbol). IsSourceOf table s.source) ss →
    n + length ss ≤ top → AreTold table top types.of → AreTold table top (repeated c (round n ss) types).of

-- the types that names have come to are those of the table with the level, where the types above and the scopes of all sources have only
-- sets of that table
abbrev pub TypesStand : Type 0
TypesStand = (max : ℤ) (r : Resolved) →
    ((n : ℕ) (t : ValueType) → known r.above n ≡ Some t → lists_type (table_with (types_of max r) r) t ≡ true) →
    Each (λ (s : Symbol). IsSourceOf (table_with (types_of max r) r) s.source) r.symbols →
    IsSettled (table_with (types_of max r) r) (types_of max r).of

-- ---- operations
-- below the machine, where operations have different names and headers are the machine's, the operations are the machine's in its order
abbrev pub OperationsAreHeaded : Type 0
OperationsAreHeaded = (dev : Development) (at_machine : Bool) (s : Scope) (c : Component) →
    twice_among [] (operation_names c.operations) ≡ [] → other_headers false dev c ≡ [] →
    map (λ (o : Operation). o.written.name.text) (resolved_operations dev at_machine s (in_order dev.heads c.operations))
    ≡ map (λ (h : Head). h.name) dev.heads

-- ---- the development
-- with the level the table has an entry for each symbol, each variable has a home, and each home is at a level that is there
pub record LevelGrows (types : Types) (r : Resolved) : Type 0 where
  pub entries : length (with_level types r).table.variables ≡ length r.above.table.variables + length r.symbols
  pub homes : length r.above.homes ≡ length r.above.table.variables →
      length (with_level types r).homes ≡ length (with_level types r).table.variables
  pub stay : HomesAreThere r.above → HomesAreThere (with_level types r)

-- faults or not
abbrev pub LevelsGrow : Type 0
LevelsGrow = (types : Types) (r : Resolved) → LevelGrows types r

-- ---- the answer
-- no phase has a fault
abbrev pub HaveNoFault : List Phase → Type 0
HaveNoFault [] = Unit {0}
HaveNoFault ((kind, places) ∷ rest) = (places ≡ []) × HaveNoFault rest

-- it is one of them
abbrev pub IsOneOf : ℕ → List ℕ → Type 0
IsOneOf p [] = ⊥
IsOneOf p (q ∷ qs) = (p ≡ q) ⊎ IsOneOf p qs

-- none of them is smaller
abbrev pub NoneIsSmaller : ℕ → List ℕ → Type 0
NoneIsSmaller p [] = Unit {0}
NoneIsSmaller p (q ∷ qs) = (p ≤ q) × NoneIsSmaller p qs

-- the fault is of the first phase that has one, and none of that phase's stands before it
abbrev pub IsFirstFault : FaultKind → ℕ → List Phase → Type 0
IsFirstFault kind p [] = ⊥
IsFirstFault kind p ((k, []) ∷ rest) = IsFirstFault kind p rest
IsFirstFault kind p ((k, q ∷ qs) ∷ rest) = (kind ≡ k) × IsOneOf p (q ∷ qs) × NoneIsSmaller p (q ∷ qs)

-- what is answered of a component whose names are resolved
pub record VerdictsAreRight : Type 0 where
  pub right : (max : ℤ) (r : Resolved) (dev : Development) → verdict max r ≡ accepted dev →
      HaveNoFault (phases (types_of max r) r) × (dev ≡ with_level (types_of max r) r)
  pub without_fault : (max : ℤ) (r : Resolved) → HaveNoFault (phases (types_of max r) r) →
      verdict max r ≡ accepted (with_level (types_of max r) r)
  pub fault : (max : ℤ) (r : Resolved) (kind : FaultKind) (p : ℕ) → verdict max r ≡ at_fault (kind, p) →
      IsFirstFault kind p (phases (types_of max r) r)
  -- no limit is passed where names are resolved
  pub limit : (max : ℤ) (r : Resolved) (n : ℕ) → verdict max r ≡ past_limit n → ⊥

-- the limit of names is asked first, and is the only one that is told
pub record LimitsAreRight : Type 0 where
  pub past : (max : ℤ) (above : Option Development) (written : RawComponent) → declares_too_many (component_of written) ≡ true →
      verdict_of max above written ≡ past_limit 5
  pub within : (max : ℤ) (above : Option Development) (written : RawComponent) → declares_too_many (component_of written) ≡ false →
      verdict_of max above written ≡ verdict max (resolved_component (above_of above) (component_of written))
