-- The names that a component declares, with their numbers: what each is, and where its type comes from.
-- Source: B Language Reference Manual, typing.
use Rattle.std.specs.Prelude.{ℕ, Bool, cond, List, [], ◌∷◌, map, Option}
use Rattle.std.specs.List.{flat_map}
use Rattle.bk_raw.specs.declared.term.RawName.{RawName}
use Rattle.bk_statics.specs.Typings.{Target, is_variable}
use Rattle.bk_phases.specs.Scope.{Local, Written}
use Rattle.bk_phases.specs.Term.{Term}
use Rattle.bk_phases.specs.Statement.{Statement, assign_at, update_at, member_at, such_at, any_at, var_at, within}

-- where the type of a name comes from
pub data Source : Type 0 where
  no_source : Source
  -- x := E: from the type of E
  from_value : Term → Source
  -- x :: E: from the type over which E ranges
  from_domain : Term → Source
  -- from the first conjunct of a predicate that types it; these names are typed by its conjuncts together, from left to right
  from_conjunct : List RawName → RawName → Term → Source
  -- from another name
  from_name : Target → Source

-- what a name is
pub data Role : Type 0 where
  a_constant : Role
  -- of the level: whether it is concrete, and the variable of its name at the level above
  a_level_variable : Bool → Option ℕ → Role
  an_input : Role
  an_output : Role
  -- bound by a substitution
  a_local : Role
  -- the element that x :: E takes, or the x$0 of x :( P ): it has the type of x
  an_inner_value : Role

-- a declared name; its number is its place among all symbols, counted from the first number that is free
pub record Symbol : Type 0 where
  pub name : RawName
  pub role : Role
  pub source : Source

-- the name where it is declared
abbrev pub symbol : Role → RawName → Source → Symbol
symbol role x source = record { name = x; role = role; source = source }

-- names that the conjuncts of a predicate type together
abbrev pub by_conjuncts : Role → List RawName → Term → List Symbol
by_conjuncts role xs p = map (λ (x : RawName). symbol role x (from_conjunct xs x p)) xs

-- ---- the first assignment in the text
-- the written names with the terms that are assigned to them; without a term there is no type
abbrev pub assigned_values : List Written → List Term → List (Written × Source)
assigned_values [] es = []
assigned_values (x ∷ xs) [] = (x, no_source) ∷ assigned_values xs []
assigned_values (x ∷ xs) (e ∷ es) = (x, from_value e) ∷ assigned_values xs es

-- x, y :( P ): each name is typed by itself
abbrev pub assigned_such : List (Written × Local) → Term → List (Written × Source)
assigned_such xs p = map (λ (x : Written × Local). (x.0, from_conjunct (x.0.name ∷ []) x.0.name p)) xs

-- what a substitution itself assigns
abbrev pub assigned : Statement → List (Written × Source)
assigned (assign_at at xs es) = assigned_values xs es
assigned (update_at at f e v) = (f, no_source) ∷ []
assigned (member_at at x z e) = (x, from_domain e) ∷ []
assigned (such_at at xs p) = assigned_such xs p
assigned _ = []

-- what the first of these assigns to the variable n
abbrev pub first_for : ℕ → List (Written × Source) → Source
first_for n [] = no_source
first_for n (a ∷ rest) = cond (is_variable n a.0.target) a.1 (first_for n rest)

-- the source of a variable in a substitution
abbrev pub first_assignment : ℕ → Statement → Source
first_assignment n s = first_for n (flat_map assigned (within s))

-- ---- what a substitution binds
-- what stands for a value of x has the type of x
abbrev pub inner_symbol : Written → Local → Symbol
inner_symbol x z = symbol an_inner_value z.name (from_name x.target)

-- the names of ANY and LET are typed in their predicate, those of VAR by their first assignments
abbrev pub symbols_here : Statement → List Symbol
symbols_here (member_at at x z e) = inner_symbol x z ∷ []
symbols_here (such_at at xs p) = map (λ (x : Written × Local). inner_symbol x.0 x.1) xs
symbols_here (any_at at xs p s) = by_conjuncts a_local (map (λ (x : Local). x.name) xs) p
symbols_here (var_at at xs s) = map (λ (x : Local). symbol a_local x.name (first_assignment x.number s)) xs
symbols_here _ = []

-- all that it binds, in the order of the numbers
abbrev pub symbols_of : Statement → List Symbol
symbols_of s = flat_map symbols_here (within s)
