-- What the program's names in scope stand for.
use Rattle.std.specs.Prelude.{◌≡◌, ◌<◌, ℕ, ℤ, zero, suc, length, Bool, true, false, ◌&&◌, ◌||◌, List}
use Rattle.std.specs.Prelude.{[], ◌∷◌, ◌++◌, map, take, drop, slice_get, Option, None, Some}
use Rattle.std.specs.Str.{bytes_eq}
use Rattle.bk_val.specs.ValueType.{ValueType, pair_type}
use Rattle.bk_form.specs.Formula.{Formula, formulas_of, for_all, for_some}
use Rattle.bk_form.specs.Role.{bind, tuple_type}
use Rattle.bk_form.specs.Table.{SetEntry}
use Rattle.bk_raw.specs.declared.operator.InfixOp.{InfixOp}
use Rattle.bk_raw.specs.declared.operator.InfixOp.TheVariants.{Member, Subset, StrictSubset, Equal}
use Rattle.bk_raw.specs.declared.term.RawBound.{RawBound}
use Rattle.bk_raw.specs.declared.term.RawName.{RawName}
use Rattle.bk_raw.specs.declared.term.RawRange.{RawRange}
use Rattle.bk_raw.specs.Trees.RawTree.{RawTree, RawTreeNode, tree_size, raw_for_all, raw_exists, raw_comprehension, raw_lambda}
use Rattle.bk_raw.specs.Trees.RawTree.{raw_typed_for_all, raw_typed_exists, raw_ranged_comprehension, raw_ranged_lambda}
use Rattle.bk_raw.specs.Codes.RawView.{ranges_of as ranges_written}
use Rattle.bk_raw.specs.Meaning.Names.{Names, set_name, Sight, unseen, untyped_name, seen}
use Rattle.bk_raw.specs.Meaning.Outcome.{Outcome, Reading, ask_domain, ask_set, ask_value}
use Rattle.bk_raw.specs.Meaning.Binders.{Bound, Ranged, inside, locals, all_typed, types_of, as_bound, is_some_name}
use Rattle.bk_raw.specs.Meaning.Binders.{ranges_of, second, set_over, as_single, typed_as, ranged_as}
use Rattle.bk_raw.specs.Meaning.TermReading.{reading, node_reading, part, place_of, names_one, clues, premise_clues, ranges}
use Rattle.bk_raw.specs.Meaning.Printed.{RangeRead, printed_ranges, wrong_ranges}
use Rattle.bk_elab_terms.specs.declared.blame.Fault.{Fault as ToldFault}
use Rattle.bk_raw.specs.Meaning.ScopeReading.{element_names, names_in}
use Rattle.bk_elab_terms.specs.declared.binder.Ranged.{Ranged as RangedName}
use Rattle.bk_elab_terms.specs.declared.outcome.Step.{Step}
use Rattle.bk_elab_terms.specs.declared.sight.Local.{Local}
use Rattle.bk_elab_terms.specs.declared.sight.Outer.{Outer}
use Rattle.bk_elab_terms.specs.declared.sight.Outer.TheVariants.{OverTable, InSight}
use Rattle.bk_elab_terms.specs.declared.sight.Reader.{Reader}
use Rattle.bk_elab_terms.specs.declared.sight.Seen.{Seen}
use Rattle.bk_elab_terms.specs.declared.sight.Seen.TheVariants.{Unseen, Untyped, Typed}
use Rattle.bk_elab_terms.specs.declared.visible.Sight.{Sight as TermsSight}
use Rattle.bk_raw.specs.Errors.Blame.{blame}
use Rattle.bk_elab_terms.specs.Conjuncts.{IsRight}
use Rattle.bk_elab_terms.specs.Shown.{told, IsRead}
use Rattle.bk_elab_terms.specs.Visible.{seen_names}

-- what is found of a name
abbrev pub shown_sight : Seen → Sight
shown_sight Unseen = unseen
shown_sight Untyped = untyped_name
shown_sight (Typed f t) = seen f t

-- what is found of a name, or else this
abbrev pub seen_or : Option Seen → Sight → Sight
seen_or None other = other
seen_or (Some s) other = shown_sight s

-- a set and its elements in front of other names
abbrev pub set_in_front : ℕ → SetEntry → Names → Names
set_in_front s e rest = record { text = e.name; meaning = set_name s } ∷ (element_names s 0 e.elements ++ rest)

-- ---- the names in scope of a reader
-- bound names, in the order in which they are declared
abbrev pub bounds_of : List Local → List Bound
bounds_of ls = map (λ l. record { text = l.text.now; at = l.at; of_type = l.ty }) ls

-- those of a reader from a place on
abbrev pub bounds_from : ℕ → Reader → List Bound
bounds_from first r = bounds_of (drop first r.locals.items)

-- MAXINT, and the names that no binder around binds
pub record Around : Type 0 where
  pub max : ℤ
  pub names : Names

-- those of a reader's scope
abbrev pub outer_around : Outer → Around
outer_around (OverTable s t) = record { max = s.now.max; names = names_in t.now s.now }
outer_around (InSight m ns ts) = record { max = m; names = seen_names ts.now ns.now }

-- what lies around the term: the scope of its reader
abbrev pub around_of : Reader → Around
around_of r = outer_around r.scope

-- those under which a caller's term is read
abbrev pub around_by : TermsSight → Around
around_by s = record { max = s.max; names = seen_names s.types.now s.names.now }

-- the names that no binder around binds
abbrev pub outer_names : Reader → Names
outer_names r = (around_of r).names

-- all names in scope
abbrev pub names_of : Reader → Names
names_of r = bind (locals (bounds_of r.locals.items)) (outer_names r)

-- those without the bound names from a place on
abbrev pub names_below : ℕ → Reader → Names
names_below first r = bind (locals (bounds_of (take first r.locals.items))) (outer_names r)

-- the same bound names below a place, in the same scope
pub record StandsBelow (first : ℕ) (old new : Reader) : Type 0 where
  pub locals : take first new.locals.items ≡ take first old.locals.items
  pub scope : around_of new ≡ around_of old

-- and no others
pub record StandsCut (first : ℕ) (old new : Reader) : Type 0 where
  pub locals : new.locals.items ≡ take first old.locals.items
  pub scope : around_of new ≡ around_of old

-- and all of them
pub record Stands (old new : Reader) : Type 0 where
  pub locals : new.locals.items ≡ old.locals.items
  pub scope : around_of new ≡ around_of old

-- what a term reads as under them
abbrev pub read_by : Reader → RawTree → Reading
read_by r t = reading (around_of r).max (names_of r) t

-- the same by its form, at a byte
abbrev pub node_by : Reader → ℕ → RawTreeNode → Reading
node_by r at node = node_reading (around_of r).max (names_of r) at node

-- names with ranges
abbrev pub ranges_as : List RangedName → List Ranged
ranges_as rs = map (λ r. record { text = r.text.now; at = r.at; range = r.range }) rs

-- ---- elements of sets
-- whether the text is one of these names
abbrev pub among : List ℕ → List (List ℕ) → Bool
among text [] = false
among text (x ∷ xs) = bytes_eq x text || among text xs

-- the first of these names that is the text has the number
abbrev pub IsFirstAt : List ℕ → List (List ℕ) → ℕ → Type 0
IsFirstAt text names i = (slice_get names i ≡ Some text) × (among text (take i names) ≡ false)

-- ---- binders
-- the type that the conjunct `x op D` tells of x
abbrev pub clue_type : InfixOp → Outcome → Option ValueType
clue_type Member d = second (ask_domain 0 d).answer
clue_type Subset d = set_over (second (ask_domain 0 d).answer)
clue_type StrictSubset d = set_over (second (ask_domain 0 d).answer)
clue_type Equal d = second (ask_value 0 d).answer
clue_type _ d = None

-- whether it may tell one, by its operator alone
abbrev pub tells_type : InfixOp → Bool
tells_type Member = true
tells_type Subset = true
tells_type StrictSubset = true
tells_type Equal = true
tells_type _ = false

-- the range that it gives x, where D names no bound name
abbrev pub range_told : InfixOp → Outcome → Option (Formula × ValueType)
range_told Member d = (ask_set 0 d).answer
range_told Equal d = as_single (ask_value 0 d).answer
range_told _ d = None

-- whether it may give one, by its operator alone
abbrev pub tells_range : InfixOp → Bool
tells_range Member = true
tells_range Equal = true
tells_range _ = false

-- the type of the name at a place is this
abbrev pub typed_at : ℕ → ValueType → List Bound → List Bound
typed_at n t [] = []
typed_at zero t (b ∷ bs) = record { text = b.text; at = b.at; of_type = Some t } ∷ bs
typed_at (suc n) t (b ∷ bs) = b ∷ typed_at n t bs

-- the same, where there is a type
abbrev pub given_at : ℕ → Option ValueType → List Bound → List Bound
given_at n None bs = bs
given_at n (Some t) bs = typed_at n t bs

-- no name with this text has to be given a type
abbrev pub AwaitsNone : List ℕ → List Bound → Type 0
AwaitsNone text bs = (t : ValueType) → typed_as text t bs ≡ bs

-- the name with this text at a place has to be given its type
abbrev pub AwaitsAt : List ℕ → List Bound → ℕ → Type 0
AwaitsAt text bs n = (n < length bs) × ((t : ValueType) → typed_as text t bs ≡ typed_at n t bs)

-- the range of the name at a place is this
abbrev pub ranged_at : ℕ → Formula × ValueType × ℕ → List Ranged → List Ranged
ranged_at n r [] = []
ranged_at zero r (b ∷ bs) = record { text = b.text; at = b.at; range = Some r } ∷ bs
ranged_at (suc n) r (b ∷ bs) = b ∷ ranged_at n r bs

-- the same of what was found, from the i-th conjunct
abbrev pub taken_at : ℕ → ℕ → Option (Formula × ValueType) → List Ranged → List Ranged
taken_at n i None bs = bs
taken_at n i (Some d) bs = ranged_at n (d.0, d.1, i) bs

-- no name with this text has to be given a range
abbrev pub LacksNone : List ℕ → List Ranged → Type 0
LacksNone text bs = (r : Formula × ValueType × ℕ) → ranged_as text r bs ≡ bs

-- the name with this text at a place has to be given its range
abbrev pub LacksAt : List ℕ → List Ranged → ℕ → Type 0
LacksAt text bs n = (n < length bs) × ((r : Formula × ValueType × ℕ) → ranged_as text r bs ≡ ranged_at n r bs)

-- what is left of a predicate so far
abbrev pub IsRest : Option Step → Option Reading → Type 0
IsRest None None = Unit {0}
IsRest (Some s) (Some r) = IsRead s r
IsRest _ _ = ⊥

-- the types, where each name has one
abbrev pub TypesOf : Option (List ValueType) → List Bound → Type 0
TypesOf None bs = all_typed bs ≡ false
TypesOf (Some ts) bs = (all_typed bs ≡ true) × (ts ≡ types_of bs)

-- the type of a tuple with one part more
abbrev pub with_last : Option ValueType → ValueType → ValueType
with_last None t = t
with_last (Some u) t = pair_type u t

-- the ranges and the type of a tuple of their elements, where there is a name and each name has a range
abbrev pub AreTaken : Option (List Formula × ValueType) → List Ranged → Type 0
AreTaken None rs = (is_some_name rs && all_typed (as_bound rs)) ≡ false
AreTaken (Some p) rs = ((is_some_name rs && all_typed (as_bound rs)) ≡ true)
    × (formulas_of p.0 ≡ ranges_of rs) × (p.1 ≡ tuple_type (types_of (as_bound rs)))

-- which quantifier it is
abbrev pub quantifier : Bool → List ValueType → Formula → Formula
quantifier true ts p = for_all ts p
quantifier false ts p = for_some ts p

-- which quantifier it is, written with names
abbrev pub named_node : Bool → List RawName → RawTree → RawTreeNode
named_node true xs p = raw_for_all xs p
named_node false xs p = raw_exists xs p

-- which quantifier it is, written with numbers
abbrev pub numbered_node : Bool → List RawBound → RawTree → RawTreeNode
numbered_node true bs p = raw_typed_for_all bs p
numbered_node false bs p = raw_typed_exists bs p

-- the types that a quantifier's body gives to its names
abbrev pub clues_by : Bool → ℤ → Names → List Bound → RawTree → List Bound
clues_by true int_max names bs p = premise_clues int_max names bs p
clues_by false int_max names bs p = clues int_max names bs p

-- the term tells no type of a bound name
pub record TellsNoType (bs : List Bound) (t : RawTree) : Type 0 where
  pub same : (m : ℤ) (names : Names) → clues m names bs t ≡ bs

-- the term is a conjunct `x op d`, which tells the type of the name at a place
pub record TellsType (bs : List Bound) (t : RawTree) (op : InfixOp) (d : RawTree) (place : ℕ) : Type 0 where
  pub within : place < length bs
  pub small : tree_size d < tree_size t
  pub side : IsRight t op d
  pub same : (m : ℤ) (names : Names) → clues m names bs t ≡ given_at place (clue_type op (reading m (inside bs names) d).outcome) bs

-- the term gives no bound name a range
pub record TellsNoRange (all : List RawName) (bs : List Ranged) (t : RawTree) : Type 0 where
  pub same : (m : ℤ) (names : Names) (i : ℕ) → ranges m names all i bs t ≡ bs

-- the term is a conjunct `x op d`, which gives a range to the name at a place
pub record TellsRange (all : List RawName) (bs : List Ranged) (t : RawTree) (op : InfixOp) (d : RawTree) (place : ℕ) : Type 0 where
  pub within : place < length bs
  pub small : tree_size d < tree_size t
  pub side : IsRight t op d
  pub outside : names_one all d ≡ false
  pub same : (m : ℤ) (names : Names) (i : ℕ) →
      ranges m names all i bs t ≡ taken_at place i (range_told op (part false d (reading m names d)).outcome) bs

-- {x | P}, or %x.(P | E) where there is an E
abbrev pub named_abstraction : List RawName → RawTree → Option RawTree → RawTreeNode
named_abstraction xs p None = raw_comprehension xs p
named_abstraction xs p (Some e) = raw_lambda xs p e

-- the same with printed ranges
abbrev pub numbered_abstraction : List RawRange → RawTree → Option RawTree → RawTreeNode
numbered_abstraction rs p None = raw_ranged_comprehension (ranges_written rs) p
numbered_abstraction rs p (Some e) = raw_ranged_lambda (ranges_written rs) p e

-- a printed bound variable with its range, which reads as r
abbrev pub range_as : RawRange → Reading → RangeRead
range_as d r = record { at = d.at; number = d.number; place = place_of d.range; reading = part false d.range r }

-- the program's bound variable with its range, and the first of its faults where its number has to be the k-th
pub record IsRangeOf (ranged : RangedName) (first : Option ToldFault) (k : ℕ) (q : RangeRead) : Type 0 where
  pub name : ranges_as (ranged ∷ []) ≡ printed_ranges (q ∷ [])
  pub fault : told first ≡ blame (wrong_ranges k (q ∷ []))
