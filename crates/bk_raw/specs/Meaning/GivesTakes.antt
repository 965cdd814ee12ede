-- What each form of a term gives and takes: a line a form, each saying exactly where. The rules are those of type checking in the
-- B-Book, with `{}` for a set of any type.
use Rattle.std.specs.Prelude.{◌≡◌, ◌↔◌, ◌⊎◌, ℕ, ℤ, true, false, List, [], Option, None, Some}
use Rattle.bk_val.specs.ValueType.{ValueType, int_type, bool_type, pair_type, set_type}
use Rattle.bk_form.specs.Formula.{Formula, literal, truth_value, named, empty_set, unary, binary, for_all, for_some, comprehension, lambda}
use Rattle.bk_form.specs.Role.{tuple_type}
use Rattle.bk_form.specs.declared.operator.UnOp.{UnOp}
use Rattle.bk_form.specs.declared.operator.UnOp.TheVariants.{Not as Negation, BoolOf as TruthOf, Neg, Card as CardOf, Min as MinOf}
use Rattle.bk_form.specs.declared.operator.UnOp.TheVariants.{Max as MaxOf, Dom as DomainOf, Ran as RangeOf, Id as IdOf}
use Rattle.bk_form.specs.declared.operator.UnOp.TheVariants.{Inverse as InverseOf, Single, Pow as PowerOf, Pow1 as Power1Of}
use Rattle.bk_form.specs.declared.operator.BinOp.{BinOp}
use Rattle.bk_form.specs.declared.operator.BinOp.TheVariants.{And as Conjunction, Or as Disjunction, Imp, Iff, Eq, Lt, Le, In}
use Rattle.bk_form.specs.declared.operator.BinOp.TheVariants.{Union as Joining, Inter, Minus as Without, Over, Times as Product, DomRes}
use Rattle.bk_form.specs.declared.operator.BinOp.TheVariants.{RanRes, DomSub, RanSub, Maps, Range, Add, Sub, Mul, Div, Mod as Remainder}
use Rattle.bk_form.specs.declared.operator.BinOp.TheVariants.{Power as PowerTo, Image as ImageOf, Apply as ApplyTo, Comp}
use Rattle.bk_form.specs.declared.operator.BinOp.TheVariants.{Relations as RelationsOf, PartialFunctions as PartialOf}
use Rattle.bk_form.specs.declared.operator.BinOp.TheVariants.{TotalFunctions as TotalOf, PartialInjections as PartialInjectionsOf}
use Rattle.bk_form.specs.declared.operator.BinOp.TheVariants.{TotalInjections as TotalInjectionsOf}
use Rattle.bk_form.specs.declared.operator.BinOp.TheVariants.{PartialSurjections as PartialSurjectionsOf}
use Rattle.bk_form.specs.declared.operator.BinOp.TheVariants.{TotalSurjections as TotalSurjectionsOf, Bijections as BijectionsOf}
use Rattle.bk_form.specs.declared.operator.Domain.TheVariants.{Integer as WholeNumbers, Natural as NaturalNumbers}
use Rattle.bk_form.specs.declared.operator.Domain.TheVariants.{Natural1 as PositiveNumbers, Bool as Booleans}
use Rattle.bk_raw.specs.declared.operator.Constant.TheVariants.{Bool as BoolWord, True, False, Integer, Natural, Natural1}
use Rattle.bk_raw.specs.declared.operator.InfixOp.{InfixOp}
use Rattle.bk_raw.specs.declared.operator.InfixOp.TheVariants.{Equivalent, Implies, And, Or, Equal, Less, AtMost, Member, Relations}
use Rattle.bk_raw.specs.declared.operator.InfixOp.TheVariants.{PartialFunctions, TotalFunctions, PartialInjections, TotalInjections}
use Rattle.bk_raw.specs.declared.operator.InfixOp.TheVariants.{PartialSurjections, TotalSurjections, Bijections, Union, Intersection}
use Rattle.bk_raw.specs.declared.operator.InfixOp.TheVariants.{DomainRestriction, RangeRestriction, DomainSubtraction, RangeSubtraction}
use Rattle.bk_raw.specs.declared.operator.InfixOp.TheVariants.{Override, Maplet, Interval, Plus, Minus, Times, Divide, Mod, Power}
use Rattle.bk_raw.specs.declared.operator.WordOp.{WordOp}
use Rattle.bk_raw.specs.declared.operator.WordOp.TheVariants.{Not, BoolOf, Card, Min, Max, Dom, Ran, Id, Pow, Pow1}
use Rattle.bk_raw.specs.Trees.RawTree.{RawTree, raw, raw_name, raw_number, raw_constant, raw_word, raw_negative, raw_infix}
use Rattle.bk_raw.specs.Trees.RawTree.{raw_inverse, raw_image, raw_apply, raw_composition, raw_empty_set, raw_extension}
use Rattle.bk_raw.specs.Trees.RawTree.{raw_comprehension, raw_lambda, raw_for_all, raw_exists, no_trees, tree_and}
use Rattle.bk_raw.specs.Meaning.Names.{Names, seen, found}
use Rattle.bk_raw.specs.Meaning.Outcome.{whole, filled, Outcome, partial, ranging, holding}
use Rattle.bk_raw.specs.Meaning.Binders.{Bound, bound_names, inside, types_of, all_typed, twice, Ranged}
use Rattle.bk_raw.specs.Meaning.Binders.{unranged, as_bound, ranges_of, is_some_name, body_of}
use Rattle.bk_raw.specs.Meaning.TermReading.{part, reading, clues, premise_clues, ranges, rest}
use Rattle.bk_raw.specs.declared.term.RawName.{RawName}

-- ---- the words
-- what a term is in a place for an expression, and in one for a predicate
abbrev pub expression : ℤ → Names → RawTree → Outcome
expression max names t = (part false t (reading max names t)).outcome

-- what a predicate reads as
abbrev pub statement : ℤ → Names → RawTree → Outcome
statement max names t = (part true t (reading max names t)).outcome

-- the formula of an outcome whose place asks the type, if it takes the type
abbrev pub taken : Outcome → ValueType → Option Formula
taken (partial p) u = filled p u
taken _ u = None

-- the term gives the type, and this is its formula
abbrev pub Gives : ℤ → Names → RawTree → ValueType → Formula → Type 0
Gives max names t u f = expression max names t ≡ partial (whole f u)

-- the term takes the type that its place asks, and this is its formula there
abbrev pub Takes : ℤ → Names → RawTree → ValueType → Formula → Type 0
Takes max names t u f = taken (expression max names t) u ≡ Some f

-- the term is a domain that is no value, over the type
abbrev pub IsOtherDomain : ℤ → Names → RawTree → ValueType → Formula → Type 0
IsOtherDomain max names t u f = (there : ℕ) × (expression max names t ≡ ranging f u there)

-- the term is a domain over the type: a set value, or another domain
abbrev pub RangesOver : ℤ → Names → RawTree → ValueType → Formula → Type 0
RangesOver max names t u f = Gives max names t (set_type u) f ⊎ IsOtherDomain max names t u f

-- the term is a predicate, and this is its formula
abbrev pub Says : ℤ → Names → RawTree → Formula → Type 0
Says max names t f = statement max names t ≡ holding f

-- the term gives a relation between the types
abbrev pub GivesRelation : ℤ → Names → RawTree → ValueType → ValueType → Formula → Type 0
GivesRelation max names t u v f = Gives max names t (set_type (pair_type u v)) f

-- ---- two sides
-- the sides take these types
abbrev pub Both : ℤ → Names → RawTree → ValueType → RawTree → ValueType → (Formula → Formula → Type 0) → Type 0
Both max names a t b u Made = (f g : Formula) × Takes max names a t f × Takes max names b u g × Made f g

-- two sides of one type: the left gives it and the right takes it, or the right gives it and the left takes it
abbrev pub OneType : ℤ → Names → RawTree → RawTree → ValueType → (Formula → Formula → Type 0) → Type 0
OneType max names a b t Made = (f g : Formula)
    × ((Gives max names a t f × Takes max names b t g) ⊎ (Takes max names a t f × Gives max names b t g)) × Made f g

-- the type is one of sets
abbrev pub IsOfSets : ValueType → Type 0
IsOfSets u = (t : ValueType) × (u ≡ set_type t)

-- the type is one of relations
abbrev pub IsOfRelations : ValueType → Type 0
IsOfRelations u = (t v : ValueType) × (u ≡ set_type (pair_type t v))

-- ---- shapes of rules
-- the operator asks numbers and gives this type
abbrev pub OnNumbers : ℤ → Names → InfixOp → BinOp → ValueType → Type 0
OnNumbers max names o p v = (at : ℕ) (a b : RawTree) (u : ValueType) (h : Formula) → Gives max names (raw at (raw_infix o a b)) u h
    ↔ ((u ≡ v) × Both max names a int_type b int_type (λ f g. h ≡ binary p f g))

-- the operator compares numbers
abbrev pub Compares : ℤ → Names → InfixOp → BinOp → Type 0
Compares max names o p = (at : ℕ) (a b : RawTree) (h : Formula) → Says max names (raw at (raw_infix o a b)) h
    ↔ Both max names a int_type b int_type (λ f g. h ≡ binary p f g)

-- the operator connects predicates
abbrev pub Connects : ℤ → Names → InfixOp → BinOp → Type 0
Connects max names o p = (at : ℕ) (a b : RawTree) (h : Formula) → Says max names (raw at (raw_infix o a b)) h
    ↔ ((f g : Formula) × Says max names a f × Says max names b g × (h ≡ binary p f g))

-- the operator asks two values of one type, of those that it is there for, and gives that type
abbrev pub Joins : ℤ → Names → InfixOp → BinOp → (ValueType → Type 0) → Type 0
Joins max names o p IsThere = (at : ℕ) (a b : RawTree) (u : ValueType) (h : Formula) → Gives max names (raw at (raw_infix o a b)) u h
    ↔ (IsThere u × OneType max names a b u (λ f g. h ≡ binary p f g))

-- and takes a type of those part by part
abbrev pub JoinsTaking : ℤ → Names → InfixOp → BinOp → (ValueType → Type 0) → Type 0
JoinsTaking max names o p IsThere = (at : ℕ) (a b : RawTree) (u : ValueType) (h : Formula) → Takes max names (raw at (raw_infix o a b)) u h
    ↔ (IsThere u × Both max names a u b u (λ f g. h ≡ binary p f g))

-- the operator stands between two domains: the whole is a domain over relations, and no value
abbrev pub Relates : ℤ → Names → InfixOp → BinOp → Type 0
Relates max names o p = (at : ℕ) (a b : RawTree) (u : ValueType) (h : Formula) → RangesOver max names (raw at (raw_infix o a b)) u h
    ↔ ((t v : ValueType) × (f g : Formula) × RangesOver max names a t f
    × RangesOver max names b v g × (u ≡ set_type (pair_type t v)) × (h ≡ binary p f g))

-- the word stands before a domain: the whole is a domain over its sets, and no value
abbrev pub Powers : ℤ → Names → WordOp → UnOp → Type 0
Powers max names w o = (at : ℕ) (a : RawTree) (u : ValueType) (h : Formula) → RangesOver max names (raw at (raw_word w a)) u h
    ↔ ((t : ValueType) × (f : Formula) × RangesOver max names a t f × (u ≡ set_type t) × (h ≡ unary o f))

-- the word asks a set of numbers and gives a number
abbrev pub Least : ℤ → Names → WordOp → UnOp → Type 0
Least max names w o = (at : ℕ) (a : RawTree) (u : ValueType) (h : Formula) → Gives max names (raw at (raw_word w a)) u h
    ↔ ((f : Formula) × Takes max names a (set_type int_type) f × (u ≡ int_type) × (h ≡ unary o f))

-- the word asks a relation, and what it gives depends on the relation's types
abbrev pub OfRelation : ℤ → Names → (RawTree → RawTree) → UnOp → (ValueType → ValueType → ValueType) → Type 0
OfRelation max names made o given = (a : RawTree) (u : ValueType) (h : Formula) → Gives max names (made a) u h
    ↔ ((t v : ValueType) × (f : Formula) × GivesRelation max names a t v f × (u ≡ given t v) × (h ≡ unary o f))

-- a relation on the left, and on the right what takes a type that the relation's types tell
abbrev pub AfterRelation : ℤ → Names → (RawTree → RawTree → RawTree) → BinOp →
    (ValueType → ValueType → ValueType) → (ValueType → ValueType → ValueType) → Type 0
AfterRelation max names made o asked given = (a b : RawTree) (u : ValueType) (h : Formula) → Gives max names (made a b) u h
    ↔ ((t v : ValueType) × (f g : Formula) × GivesRelation max names a t v f
    × Takes max names b (asked t v) g × (u ≡ given t v) × (h ≡ binary o f g))

-- the same with the relation on the right
abbrev pub BeforeRelation : ℤ → Names → (RawTree → RawTree → RawTree) → BinOp →
    (ValueType → ValueType → ValueType) → (ValueType → ValueType → ValueType) → Type 0
BeforeRelation max names made o asked given = (a b : RawTree) (u : ValueType) (h : Formula) → Gives max names (made a b) u h
    ↔ ((t v : ValueType) × (f g : Formula) × GivesRelation max names b t v f
    × Takes max names a (asked t v) g × (u ≡ given t v) × (h ≡ binary o g f))

-- ---- the rules
-- names and literals
pub record LeavesType (max : ℤ) (names : Names) : Type 0 where
  -- a name gives its type
  pub name : (at : ℕ) (x : List ℕ) (u : ValueType) (h : Formula) → Gives max names (raw at (raw_name x)) u h ↔ (found 0 names x ≡ seen h u)
  -- a number gives Int
  pub number : (at : ℕ) (z : ℤ) (u : ValueType) (h : Formula) →
      Gives max names (raw at (raw_number z)) u h ↔ ((u ≡ int_type) × (h ≡ literal z))
  -- TRUE and FALSE give Bool, and BOOL is the set of the truth values
  pub true_word : (at : ℕ) (u : ValueType) (h : Formula) →
      Gives max names (raw at (raw_constant True)) u h ↔ ((u ≡ bool_type) × (h ≡ truth_value true))
  pub false_word : (at : ℕ) (u : ValueType) (h : Formula) →
      Gives max names (raw at (raw_constant False)) u h ↔ ((u ≡ bool_type) × (h ≡ truth_value false))
  pub truth_values : (at : ℕ) (u : ValueType) (h : Formula) →
      Gives max names (raw at (raw_constant BoolWord)) u h ↔ ((u ≡ set_type bool_type) × (h ≡ named Booleans))
  -- INTEGER, NATURAL and NATURAL1 range over Int, and are no values
  pub integers : (at : ℕ) (u : ValueType) (h : Formula) →
      IsOtherDomain max names (raw at (raw_constant Integer)) u h ↔ ((u ≡ int_type) × (h ≡ named WholeNumbers))
  pub naturals : (at : ℕ) (u : ValueType) (h : Formula) →
      IsOtherDomain max names (raw at (raw_constant Natural)) u h ↔ ((u ≡ int_type) × (h ≡ named NaturalNumbers))
  pub positives : (at : ℕ) (u : ValueType) (h : Formula) →
      IsOtherDomain max names (raw at (raw_constant Natural1)) u h ↔ ((u ≡ int_type) × (h ≡ named PositiveNumbers))
  -- {} takes every type of sets
  pub empty : (at : ℕ) (u : ValueType) (h : Formula) → Takes max names (raw at raw_empty_set) u h ↔ (IsOfSets u × (h ≡ empty_set u))

-- numbers
pub record NumbersType (max : ℤ) (names : Names) : Type 0 where
  -- + / mod and ** ask Int and give Int, and a .. b gives Set(Int)
  pub sum : OnNumbers max names Plus Add int_type
  pub quotient : OnNumbers max names Divide Div int_type
  pub remainder : OnNumbers max names Mod Remainder int_type
  pub power : OnNumbers max names Power PowerTo int_type
  pub interval : OnNumbers max names Interval Range (set_type int_type)
  -- -a asks Int and gives Int
  pub negative : (at : ℕ) (a : RawTree) (u : ValueType) (h : Formula) → Gives max names (raw at (raw_negative a)) u h
      ↔ ((f : Formula) × Takes max names a int_type f × (u ≡ int_type) × (h ≡ unary Neg f))
  -- card gives Int from a set; min and max from a set of Int
  pub size : (at : ℕ) (a : RawTree) (u : ValueType) (h : Formula) → Gives max names (raw at (raw_word Card a)) u h
      ↔ ((t : ValueType) × (f : Formula) × Gives max names a (set_type t) f × (u ≡ int_type) × (h ≡ unary CardOf f))
  pub least : Least max names Min MinOf
  pub greatest : Least max names Max MaxOf
  -- bool(P) gives Bool
  pub truth : (at : ℕ) (a : RawTree) (u : ValueType) (h : Formula) → Gives max names (raw at (raw_word BoolOf a)) u h
      ↔ ((f : Formula) × Says max names a f × (u ≡ bool_type) × (h ≡ unary TruthOf f))

-- sets
pub record SetsType (max : ℤ) (names : Names) : Type 0 where
  -- \/ and /\ ask two sets of one type and give it; they take types part by part
  pub union : Joins max names Union Joining IsOfSets
  pub union_takes : JoinsTaking max names Union Joining IsOfSets
  pub intersection : Joins max names Intersection Inter IsOfSets
  pub intersection_takes : JoinsTaking max names Intersection Inter IsOfSets
  -- r <+ s does so with relations
  pub override : Joins max names Override Over IsOfRelations
  pub override_takes : JoinsTaking max names Override Over IsOfRelations
  -- - is of numbers, or does so with sets
  pub difference : (at : ℕ) (a b : RawTree) (u : ValueType) (h : Formula) → Gives max names (raw at (raw_infix Minus a b)) u h
      ↔ (((u ≡ int_type) × Both max names a int_type b int_type (λ f g. h ≡ binary Sub f g))
      ⊎ (IsOfSets u × OneType max names a b u (λ f g. h ≡ binary Without f g)))
  pub difference_takes : (at : ℕ) (a b : RawTree) (u : ValueType) (h : Formula) → Takes max names (raw at (raw_infix Minus a b)) u h
      ↔ (((u ≡ int_type) × Both max names a int_type b int_type (λ f g. h ≡ binary Sub f g))
      ⊎ (IsOfSets u × Both max names a u b u (λ f g. h ≡ binary Without f g)))
  -- * is of numbers, or of two sets and gives a set of pairs
  pub product : (at : ℕ) (a b : RawTree) (u : ValueType) (h : Formula) → Gives max names (raw at (raw_infix Times a b)) u h
      ↔ (((u ≡ int_type) × Both max names a int_type b int_type (λ f g. h ≡ binary Mul f g)) ⊎ ((t v : ValueType) × (f g : Formula)
      × Gives max names a (set_type t) f × Gives max names b (set_type v) g × (u ≡ set_type (pair_type t v)) × (h ≡ binary Product f g)))
  -- {E} gives the set type of what E gives, and takes part by part
  pub single : (at : ℕ) (a : RawTree) (u : ValueType) (h : Formula) → Gives max names (raw at (raw_extension (tree_and a no_trees))) u h
      ↔ ((t : ValueType) × (f : Formula) × Gives max names a t f × (u ≡ set_type t) × (h ≡ unary Single f))
  pub single_takes : (at : ℕ) (a : RawTree) (u : ValueType) (h : Formula) →
      Takes max names (raw at (raw_extension (tree_and a no_trees))) u h
      ↔ ((t : ValueType) × (f : Formula) × Takes max names a t f × (u ≡ set_type t) × (h ≡ unary Single f))
  -- a |-> b gives the pair type of what its parts give, and takes part by part; (a, b) is the same
  pub pair : (at : ℕ) (a b : RawTree) (u : ValueType) (h : Formula) → Gives max names (raw at (raw_infix Maplet a b)) u h
      ↔ ((t v : ValueType) × (f g : Formula) × Gives max names a t f × Gives max names b v g × (u ≡ pair_type t v) × (h ≡ binary Maps f g))
  pub pair_takes : (at : ℕ) (a b : RawTree) (u : ValueType) (h : Formula) → Takes max names (raw at (raw_infix Maplet a b)) u h
      ↔ ((t v : ValueType) × (u ≡ pair_type t v) × Both max names a t b v (λ f g. h ≡ binary Maps f g))

-- relations: r of Set(Pair(T, U)), T being t and U being v
pub record RelationsType (max : ℤ) (names : Names) : Type 0 where
  -- dom gives Set(T), ran Set(U), r~ Set(Pair(U, T))
  pub domain : (at : ℕ) → OfRelation max names (λ a. raw at (raw_word Dom a)) DomainOf (λ t v. set_type t)
  pub range : (at : ℕ) → OfRelation max names (λ a. raw at (raw_word Ran a)) RangeOf (λ t v. set_type v)
  pub inverse : (at : ℕ) → OfRelation max names (λ a. raw at (raw_inverse a)) InverseOf (λ t v. set_type (pair_type v t))
  -- r[S] gives Set(U) where S takes Set(T), and f(x) U where x takes T
  pub image : (at : ℕ) → AfterRelation max names (λ a b. raw at (raw_image a b)) ImageOf (λ t v. set_type t) (λ t v. set_type v)
  pub application : (at : ℕ) → AfterRelation max names (λ a b. raw at (raw_apply a b)) ApplyTo (λ t v. t) (λ t v. v)
  -- the restrictions give r's type, where the set takes that of r's first or second parts
  pub domain_restriction : (at : ℕ) → BeforeRelation max names (λ a b. raw at (raw_infix DomainRestriction a b))
      DomRes (λ t v. set_type t) (λ t v. set_type (pair_type t v))
  pub domain_subtraction : (at : ℕ) → BeforeRelation max names (λ a b. raw at (raw_infix DomainSubtraction a b))
      DomSub (λ t v. set_type t) (λ t v. set_type (pair_type t v))
  pub range_restriction : (at : ℕ) →
      AfterRelation max names (λ a b. raw at (raw_infix RangeRestriction a b)) RanRes (λ t v. set_type v) (λ t v. set_type (pair_type t v))
  pub range_subtraction : (at : ℕ) →
      AfterRelation max names (λ a b. raw at (raw_infix RangeSubtraction a b)) RanSub (λ t v. set_type v) (λ t v. set_type (pair_type t v))
  -- (r ; s) gives Set(Pair(T, V)) where s is of Set(Pair(U, V))
  pub composition : (at : ℕ) (a b : RawTree) (u : ValueType) (h : Formula) → Gives max names (raw at (raw_composition a b)) u h
      ↔ ((t v w : ValueType) × (f g : Formula) × GivesRelation max names a t v f
      × GivesRelation max names b v w g × (u ≡ set_type (pair_type t w)) × (h ≡ binary Comp f g))
  -- id(S) gives Set(Pair(T, T)) for S of Set(T)
  pub identity : (at : ℕ) (a : RawTree) (u : ValueType) (h : Formula) → Gives max names (raw at (raw_word Id a)) u h
      ↔ ((t : ValueType) × (f : Formula) × Gives max names a (set_type t) f × (u ≡ set_type (pair_type t t)) × (h ≡ unary IdOf f))

-- domains
pub record DomainsType (max : ℤ) (names : Names) : Type 0 where
  -- POW(D) and POW1(D) range over Set(T), where D ranges over T
  pub power : Powers max names Pow PowerOf
  pub nonempty_power : Powers max names Pow1 Power1Of
  -- D * E ranges over Pair(T, U), where D ranges over T and E over U
  pub product : (at : ℕ) (a b : RawTree) (u : ValueType) (h : Formula) → RangesOver max names (raw at (raw_infix Times a b)) u h
      ↔ ((t v : ValueType) × (f g : Formula) × RangesOver max names a t f
      × RangesOver max names b v g × (u ≡ pair_type t v) × (h ≡ binary Product f g))
  -- relations and functions between D and E range over Set(Pair(T, U))
  pub relations : Relates max names Relations RelationsOf
  pub partial_functions : Relates max names PartialFunctions PartialOf
  pub total_functions : Relates max names TotalFunctions TotalOf
  pub partial_injections : Relates max names PartialInjections PartialInjectionsOf
  pub total_injections : Relates max names TotalInjections TotalInjectionsOf
  pub partial_surjections : Relates max names PartialSurjections PartialSurjectionsOf
  pub total_surjections : Relates max names TotalSurjections TotalSurjectionsOf
  pub bijections : Relates max names Bijections BijectionsOf

-- predicates
pub record PredicatesType (max : ℤ) (names : Names) : Type 0 where
  -- E : D, where D ranges over T and E takes T
  pub member : (at : ℕ) (a b : RawTree) (h : Formula) → Says max names (raw at (raw_infix Member a b)) h
      ↔ ((t : ValueType) × (f g : Formula) × RangesOver max names b t g × Takes max names a t f × (h ≡ binary In f g))
  -- = asks one type
  pub equality : (at : ℕ) (a b : RawTree) (h : Formula) → Says max names (raw at (raw_infix Equal a b)) h
      ↔ ((t : ValueType) × OneType max names a b t (λ f g. h ≡ binary Eq f g))
  -- < and <= ask Int
  pub less : Compares max names Less Lt
  pub at_most : Compares max names AtMost Le
  -- connectives ask predicates
  pub conjunction : Connects max names And Conjunction
  pub disjunction : Connects max names Or Disjunction
  pub implication : Connects max names Implies Imp
  pub equivalence : Connects max names Equivalent Iff
  pub negation : (at : ℕ) (a : RawTree) (h : Formula) →
      Says max names (raw at (raw_word Not a)) h ↔ ((f : Formula) × Says max names a f × (h ≡ unary Negation f))

-- the names xs of a binder, typed as bs tells, and a predicate P under them: none stands twice, each has a type, and P says f
abbrev pub Quantifies : ℤ → Names → List RawName → List Bound → RawTree → (Formula → Type 0) → Type 0
Quantifies max names xs bs p Made = (twice [] xs ≡ []) × (all_typed bs ≡ true) × ((f : Formula) × Says max (inside bs names) p f × Made f)

-- the names xs of a comprehension or a lambda with their ranges, and what is left of P under them: there is a name, none stands twice,
-- each has a range, and what is left says f
abbrev pub Collects : ℤ → Names → List RawName → List Ranged → RawTree → (Formula → Type 0) → Type 0
Collects max names xs rs p Made =
    (twice [] xs ≡ []) × (is_some_name rs ≡ true) × (all_typed (as_bound rs) ≡ true)
    × ((f : Formula) × ((body_of (rest max (inside (as_bound rs) names) rs 0 None p)).outcome ≡ holding f) × Made f)

-- quantifiers, comprehensions and lambdas
pub record BindersType (max : ℤ) (names : Names) : Type 0 where
  -- #x.(P), where the conjuncts of P type the names, and !x.(P), where those left of => do
  pub exists : (at : ℕ) (xs : List RawName) (p : RawTree) (h : Formula) → Says max names (raw at (raw_exists xs p)) h
      ↔ Quantifies max names xs (clues max names (bound_names xs) p) p (λ f. h ≡ for_some (types_of (clues max names (bound_names xs) p)) f)
  pub all : (at : ℕ) (xs : List RawName) (p : RawTree) (h : Formula) → Says max names (raw at (raw_for_all xs p)) h
      ↔ Quantifies max names xs (premise_clues max names (bound_names xs) p) p
      (λ f. h ≡ for_all (types_of (premise_clues max names (bound_names xs) p)) f)
  -- {x | P} gives the set of its ranges' elements, as pairs to the left
  pub comprehension_set : (at : ℕ) (xs : List RawName) (p : RawTree) (rs : List Ranged) → rs ≡ ranges max names xs 0 (unranged xs) p →
      (u : ValueType) (h : Formula) → Gives max names (raw at (raw_comprehension xs p)) u h
      ↔ Collects max names xs rs p (λ f. (u ≡ set_type (tuple_type (types_of (as_bound rs)))) × (h ≡ comprehension (ranges_of rs) f))
  -- %x.(P | E) gives the set of pairs of these with what E gives
  pub function : (at : ℕ) (xs : List RawName) (p e : RawTree) (rs : List Ranged) → rs ≡ ranges max names xs 0 (unranged xs) p →
      (u : ValueType) (h : Formula) → Gives max names (raw at (raw_lambda xs p e)) u h
      ↔ Collects max names xs rs p (λ f. (v : ValueType) × (g : Formula) × Gives max (inside (as_bound rs) names) e v g
      × (u ≡ set_type (pair_type (tuple_type (types_of (as_bound rs))) v)) × (h ≡ lambda (ranges_of rs) f g))

-- all of them, under all names and for each MAXINT
pub record GivesAndTakes : Type 0 where
  pub leaves : (max : ℤ) (names : Names) → LeavesType max names
  pub numbers : (max : ℤ) (names : Names) → NumbersType max names
  pub sets : (max : ℤ) (names : Names) → SetsType max names
  pub relations : (max : ℤ) (names : Names) → RelationsType max names
  pub domains : (max : ℤ) (names : Names) → DomainsType max names
  pub predicates : (max : ℤ) (names : Names) → PredicatesType max names
  pub binders : (max : ℤ) (names : Names) → BindersType max names
