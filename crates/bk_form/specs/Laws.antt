-- Laws of the meaning of formulas, as statements. Each is the contract of a public function.
-- Source: B-Book.
use Rattle.std.specs.Prelude.{◌≡◌, ◌↔◌, ◌⊎◌, ℕ, ℤ, pos, negsuc, int_le, Bool, true, false, ◌&&◌, List, [], ◌∷◌, map, Some}
use Rattle.bk_val.specs.Value.{MathValue, int, bool, pair, set, none, more}
use Rattle.bk_val.specs.ValueType.{ValueType, int_type, set_type, base_of, is_value_of, are_of_types}
use Rattle.bk_val.specs.Sets.{has, second_of}
use Rattle.bk_form.specs.Table.{Table, set_size, lists_type, IsWellFormed, variable_type}
use Rattle.bk_form.specs.Formula.{Formula, variable, bound, literal, truth_value, empty_set, named, btrue, unary, binary}
use Rattle.bk_form.specs.Formula.{for_all, for_some, comprehension, lambda, Formulas, no_formulas, formula_and}
use Rattle.bk_form.specs.Search.{Finder, IsSearch}
use Rattle.bk_form.specs.Environment.{Environment, bound_types, under, IsTyped, Binding, State}
use Rattle.bk_form.specs.Role.{role, gives, element_type}
use Rattle.bk_form.specs.Operators.{elements, first_part, tuple_of, choices, number_in}
use Rattle.bk_form.specs.Meaning.{meaning, meanings, value, truth, within, range_types}
use Rattle.bk_form.specs.Defined.{IsChoice, InRanges, Defined, Fits}
use Rattle.bk_form.specs.Replacement.{replaced, IsReplacement, after_replacement}
use Rattle.bk_form.specs.declared.operator.UnOp.TheVariants.{Not, Card, Max, Single, Pow, Pow1}
use Rattle.bk_form.specs.declared.operator.BinOp.TheVariants.{And, Or, Imp, Eq, Lt, In, PartialFunctions, TotalFunctions}
use Rattle.bk_form.specs.declared.operator.BinOp.TheVariants.{PartialInjections, PartialSurjections, Union, Times, DomRes, DomSub}
use Rattle.bk_form.specs.declared.operator.BinOp.TheVariants.{Over, Maps, Range, Add, Mul, Div, Mod, Power, Image, Apply, Comp}
use Rattle.bk_form.specs.declared.operator.Domain.TheVariants.{Integer, Natural, Bool as Booleans}
use Rattle.bk_form.specs.ArrayTable.{ArrayTable}
use Rattle.bk_form.specs.Wider.{IsTypedRole, IsWider}

-- ---- quantifiers
-- a universal predicate is true exactly where its body is for every choice of values of the types
abbrev pub AllMeans : Type 0
AllMeans = (find : Finder) → IsSearch find → (e : Environment) (ts : List ValueType) (p : Formula) → (truth find e (for_all ts p) ≡ true)
    ↔ ((vs : List MathValue) → are_of_types (set_size e.table) ts vs ≡ true → truth find (under e ts vs) p ≡ true)

-- an existential predicate is true exactly where there is such a choice
abbrev pub SomeMeans : Type 0
SomeMeans = (find : Finder) → IsSearch find → (e : Environment) (ts : List ValueType) (p : Formula) → (truth find e (for_some ts p) ≡ true)
    ↔ ((vs : List MathValue) × (are_of_types (set_size e.table) ts vs ≡ true) × (truth find (under e ts vs) p ≡ true))

-- two searches give a formula one value, one truth and one set of values within it
pub record IsIndependent : Type 0 where
  pub values : (f g : Finder) → IsSearch f → IsSearch g → (e : Environment) (p : Formula) → value f e p ≡ value g e p
  pub truths : (f g : Finder) → IsSearch f → IsSearch g → (e : Environment) (p : Formula) → truth f e p ≡ truth g e p
  pub domains : (f g : Finder) → IsSearch f → IsSearch g → (e : Environment) (v : MathValue) (p : Formula) → within f e v p ≡ within g e v p

-- where each test on lists of values is passed by some list or by none, as in classical mathematics, there is a search
abbrev pub SearchExists : Type 0
SearchExists = ((test : List MathValue → Bool) → ((vs : List MathValue) × (test vs ≡ true)) ⊎ ((vs : List MathValue) → test vs ≡ false)) →
    (find : Finder) × IsSearch find

-- the laws of classical logic
pub record IsClassical : Type 0 where
  pub excluded_middle : (find : Finder) (e : Environment) (p : Formula) → truth find e (binary Or p (unary Not p)) ≡ true
  pub not_not : (find : Finder) (e : Environment) (p : Formula) → truth find e (unary Not (unary Not p)) ≡ truth find e p
  pub not_and : (find : Finder) (e : Environment) (p q : Formula) →
      truth find e (unary Not (binary And p q)) ≡ truth find e (binary Or (unary Not p) (unary Not q))
  pub not_or : (find : Finder) (e : Environment) (p q : Formula) →
      truth find e (unary Not (binary Or p q)) ≡ truth find e (binary And (unary Not p) (unary Not q))
  pub implies_or : (find : Finder) (e : Environment) (p q : Formula) →
      truth find e (binary Imp p q) ≡ truth find e (binary Or (unary Not p) q)
  pub not_all : (find : Finder) (e : Environment) (ts : List ValueType) (p : Formula) →
      truth find e (unary Not (for_all ts p)) ≡ truth find e (for_some ts (unary Not p))
  pub not_some : (find : Finder) → IsSearch find → (e : Environment) (ts : List ValueType) (p : Formula) →
      truth find e (unary Not (for_some ts p)) ≡ truth find e (for_all ts (unary Not p))

-- ---- types and replacement
-- the base value of a listed type is a value of it; in a typed environment a formula that gives a type has a value of it, and
-- the values within it are the elements of that value
pub record IsSoundTyping : Type 0 where
  pub base : (table : Table) → IsWellFormed table → (t : ValueType) →
      lists_type table t ≡ true → is_value_of (set_size table) t (base_of t) ≡ true
  pub typed : (find : Finder) (e : Environment) → IsWellFormed e.table → IsTyped e → (f : Formula) (t : ValueType) →
      role e.table (bound_types e) f ≡ gives t → is_value_of (set_size e.table) t (value find e f) ≡ true
  pub members : (find : Finder) (e : Environment) (f : Formula) (t : ValueType) →
      role e.table (bound_types e) f ≡ gives t → (v : MathValue) → within find e v f ≡ has (elements (value find e f)) v

-- where each term gives its variable's type, a formula with the terms in place of the variables means what it means where
-- the variables have the terms' values
abbrev pub ReplacementMeans : Type 0
ReplacementMeans = (find : Finder) (by : ℕ → Formula) (e : Environment) → IsReplacement e.table by →
    (f : Formula) → meaning find e (replaced by f) ≡ meaning find (after_replacement find by e) f

-- ---- members
-- a comprehension has exactly the choices from its ranges for which the body is true, as pairs to the left
abbrev pub ComprehensionHas : Type 0
ComprehensionHas = (find : Finder) (e : Environment) (rs : Formulas) (p : Formula) (v : MathValue) →
    (within find e v (comprehension rs p) ≡ true) ↔ ((vs : List MathValue) × InRanges find e rs vs
    × (truth find (under e (range_types (meanings find e rs)) vs) p ≡ true) × (v ≡ tuple_of vs))

-- a lambda pairs each of them with its value
abbrev pub LambdaHas : Type 0
LambdaHas = (find : Finder) (e : Environment) (rs : Formulas) (p q : Formula) (v : MathValue) → (within find e v (lambda rs p q) ≡ true)
    ↔ ((vs : List MathValue) × InRanges find e rs vs × (truth find (under e (range_types (meanings find e rs)) vs) p ≡ true)
    × (v ≡ pair (tuple_of vs) (value find (under e (range_types (meanings find e rs)) vs) q)))

-- an interval has exactly the numbers between its ends
pub record IntervalHas : Type 0 where
  pub numbers : (find : Finder) (e : Environment) (a b : Formula) (z : ℤ) →
      within find e (int z) (binary Range a b) ≡ (int_le (number_in (value find e a)) z && int_le z (number_in (value find e b)))
  pub others : (find : Finder) (e : Environment) (a b : Formula) (v : MathValue) →
      within find e v (binary Range a b) ≡ true → (z : ℤ) × (v ≡ int z)

-- a total function is a partial one in whose domain every value of the type is that is within A
abbrev pub TotalMeans : Type 0
TotalMeans = (find : Finder) → IsSearch find → (e : Environment) (a b : Formula) (f : MathValue) →
    (within find e f (binary TotalFunctions a b) ≡ true) ↔ ((within find e f (binary PartialFunctions a b) ≡ true)
    × ((v : MathValue) → is_value_of (set_size e.table) (element_type (role e.table (bound_types e) a)) v ≡ true →
    within find e v a ≡ true → has (map first_part (elements f)) v ≡ true))

-- a partial surjection is a partial function in whose range every value of the type is that is within B
abbrev pub OntoMeans : Type 0
OntoMeans = (find : Finder) → IsSearch find → (e : Environment) (a b : Formula) (f : MathValue) →
    (within find e f (binary PartialSurjections a b) ≡ true) ↔ ((within find e f (binary PartialFunctions a b) ≡ true)
    × ((v : MathValue) → is_value_of (set_size e.table) (element_type (role e.table (bound_types e) b)) v ≡ true →
    within find e v b ≡ true → has (map second_of (elements f)) v ≡ true))

-- nothing is in NATURAL --> B, the empty set neither
abbrev pub NoTotalFunction : Type 0
NoTotalFunction = (find : Finder) → IsSearch find → (e : Environment) (b : Formula) (f : MathValue) →
    within find e f (binary TotalFunctions (named Natural) b) ≡ false

-- the list takes one element of each of the sets, in order
abbrev pub TakesOneOfEach : List MathValue → List MathValue → Type 0
TakesOneOfEach [] [] = Unit {0}
TakesOneOfEach (w ∷ ws) (v ∷ vs) = (has (elements w) v ≡ true) × TakesOneOfEach ws vs
TakesOneOfEach _ _ = ⊥

-- the choices from some sets are exactly the lists that take one element of each
abbrev pub ChoicesAre : Type 0
ChoicesAre = (ws vs : List MathValue) → IsChoice (choices ws) vs ↔ TakesOneOfEach ws vs

-- ---- small cases, to be checked by hand
-- a number, written down as a literal
abbrev pub number : ℤ → Formula
number z = literal z

-- {a |-> b}
abbrev pub single_pair : ℤ → ℤ → Formula
single_pair a b = unary Single (binary Maps (number a) (number b))

-- a .. b
abbrev pub from_to : ℤ → ℤ → Formula
from_to a b = binary Range (number a) (number b)

-- {1 |-> 2, 3 |-> 2}
abbrev pub two_pairs : Formula
two_pairs = binary Union (single_pair (pos 1) (pos 2)) (single_pair (pos 3) (pos 2))

-- the value of a |-> b
abbrev pub int_pair : ℕ → ℕ → MathValue
int_pair a b = pair (int (pos a)) (int (pos b))

-- the set of one or two values
abbrev pub one : MathValue → MathValue
one v = set (more v none)

-- the set of two values, of which the smaller is given first
abbrev pub two : MathValue → MathValue → MathValue
two v w = set (more v (more w none))

-- the expression has this value in every environment, whatever finder is taken
abbrev pub HasValue : Formula → MathValue → Type 0
HasValue f v = (find : Finder) (e : Environment) → value find e f ≡ v

-- the predicate has this truth in every environment, whatever finder is taken
abbrev pub HasTruth : Formula → Bool → Type 0
HasTruth f b = (find : Finder) (e : Environment) → truth find e f ≡ b

-- small expressions and predicates, each with the value or the truth that one finds by hand
pub record Examples : Type 0 where
  -- 0 .. -1 is empty
  pub empty_interval : HasValue (from_to (pos 0) (negsuc 0)) (set none)
  -- {3 |-> 7}(3) is 7
  pub applied : HasValue (binary Apply (single_pair (pos 3) (pos 7)) (number (pos 3))) (int (pos 7))
  -- {3 |-> 7}(4) is the base value 0
  pub applied_outside : HasValue (binary Apply (single_pair (pos 3) (pos 7)) (number (pos 4))) (int (pos 0))
  -- ({3 |-> 7} \/ {3 |-> 8})(3) is 0: two pairs begin with 3
  pub applied_twice : HasValue
      (binary Apply (binary Union (single_pair (pos 3) (pos 7)) (single_pair (pos 3) (pos 8))) (number (pos 3))) (int (pos 0))
  -- {x | x : 1 .. 4 & 2 < x} is {3, 4}
  pub chosen : HasValue (comprehension (formula_and (from_to (pos 1) (pos 4)) no_formulas) (binary Lt (number (pos 2)) (bound 0)))
      (two (int (pos 3)) (int (pos 4)))
  -- {x, y | x : 1 .. 2 & y : BOOL & x = 2} is {2 |-> FALSE, 2 |-> TRUE}: x is the outer one
  pub chosen_pairs : HasValue (comprehension (formula_and (from_to (pos 1) (pos 2)) (formula_and (named Booleans) no_formulas))
      (binary Eq (bound 1) (number (pos 2)))) (two (pair (int (pos 2)) (bool false)) (pair (int (pos 2)) (bool true)))
  -- %x.(x : 1 .. 2 | x * x) is {1 |-> 1, 2 |-> 4}
  pub squares : HasValue (lambda (formula_and (from_to (pos 1) (pos 2)) no_formulas) btrue (binary Mul (bound 0) (bound 0)))
      (two (int_pair 1 1) (int_pair 2 4))
  -- -7 / 2 is -3
  pub divided : HasValue (binary Div (number (negsuc 6)) (number (pos 2))) (int (negsuc 2))
  -- 7 / 0 is 0
  pub divided_by_zero : HasValue (binary Div (number (pos 7)) (number (pos 0))) (int (pos 0))
  -- -1 mod 3 is 0
  pub remainder_outside : HasValue (binary Mod (number (negsuc 0)) (number (pos 3))) (int (pos 0))
  -- 2 ** -1 is 0
  pub power_outside : HasValue (binary Power (number (pos 2)) (number (negsuc 0))) (int (pos 0))
  -- max of the empty set is 0
  pub greatest_of_none : HasValue (unary Max (empty_set (set_type int_type))) (int (pos 0))
  -- card(1 .. 3) is 3
  pub counted : HasValue (unary Card (from_to (pos 1) (pos 3))) (int (pos 3))
  -- {1 |-> 2, 3 |-> 2}[{3}] is {2}
  pub image : HasValue (binary Image two_pairs (unary Single (number (pos 3)))) (one (int (pos 2)))
  -- ({1 |-> 2} ; {2 |-> 5}) is {1 |-> 5}
  pub composed : HasValue (binary Comp (single_pair (pos 1) (pos 2)) (single_pair (pos 2) (pos 5))) (one (int_pair 1 5))
  -- {1 |-> 2} <+ {1 |-> 5} is {1 |-> 5}
  pub overridden : HasValue (binary Over (single_pair (pos 1) (pos 2)) (single_pair (pos 1) (pos 5))) (one (int_pair 1 5))
  -- {3} <| {1 |-> 2, 3 |-> 2} is {3 |-> 2}, and {3} <<| takes it away
  pub restricted : HasValue (binary DomRes (unary Single (number (pos 3))) two_pairs) (one (int_pair 3 2))
  pub subtracted : HasValue (binary DomSub (unary Single (number (pos 3))) two_pairs) (one (int_pair 1 2))
  -- BOOL * (1 .. 1) is {FALSE |-> 1, TRUE |-> 1}
  pub product : HasValue (binary Times (named Booleans) (from_to (pos 1) (pos 1)))
      (two (pair (bool false) (int (pos 1))) (pair (bool true) (int (pos 1))))
  -- 5 |-> TRUE : NATURAL * BOOL
  pub product_of_domains : HasTruth
      (binary In (binary Maps (number (pos 5)) (truth_value true)) (binary Times (named Natural) (named Booleans))) true
  -- {} : POW(INTEGER) and not {} : POW1(INTEGER)
  pub power_set : HasTruth (binary In (empty_set (set_type int_type)) (unary Pow (named Integer))) true
  pub power_set_without_empty : HasTruth (binary In (empty_set (set_type int_type)) (unary Pow1 (named Integer))) false
  -- {1 |-> 2, 3 |-> 2} is a partial function, but no injection
  pub partial : HasTruth (binary In two_pairs (binary PartialFunctions (named Natural) (named Natural))) true
  pub not_injective : HasTruth (binary In two_pairs (binary PartialInjections (named Natural) (named Natural))) false

-- x = 0 or 1 / x = 1, with x the variable 0
abbrev pub zero_or_quotient : Formula
zero_or_quotient =
    binary Or (binary Eq (variable 0) (number (pos 0))) (binary Eq (binary Div (number (pos 1)) (variable 0)) (number (pos 1)))

-- 1 / x = 1 or x = 0
abbrev pub quotient_or_zero : Formula
quotient_or_zero =
    binary Or (binary Eq (binary Div (number (pos 1)) (variable 0)) (number (pos 1))) (binary Eq (variable 0) (number (pos 0)))

-- definedness goes from left to right, and a sum past MAXINT does not fit
pub record DefinedExamples : Type 0 where
  pub left_first : (find : Finder) (e : Environment) → e.state 0 ≡ int (pos 0) → Defined find e zero_or_quotient
  pub left_undefined : (find : Finder) (e : Environment) → e.state 0 ≡ int (pos 0) → Defined find e quotient_or_zero → ⊥
  pub fits : (find : Finder) (e : Environment) →
      Fits find e (record { max = pos 10; rows = [] }) (binary Add (number (pos 9)) (number (pos 1)))
  pub too_large : (find : Finder) (e : Environment) →
      Fits find e (record { max = pos 10; rows = [] }) (binary Add (number (pos 9)) (number (pos 2))) → ⊥

-- ---- wider tables
-- a formula that types means the same over a wider table, in a state with the same values for the listed variables
abbrev pub WideningMeans : Type 0
WideningMeans = (find : Finder) (e : Environment) (large : Table) (d : State) → IsWellFormed e.table → IsWider e.table large →
    ((n : ℕ) (t : ValueType) → variable_type e.table n ≡ Some t → d n ≡ e.state n) →
    (f : Formula) → IsTypedRole (role e.table (bound_types e) f) → meaning find (record e { table = large; state = d }) f ≡ meaning find e f

-- and has the same role
abbrev pub WideningKeepsRoles : Type 0
WideningKeepsRoles = (small large : Table) → IsWellFormed small → IsWider small large →
    (around : List ValueType) (f : Formula) → IsTypedRole (role small around f) → role large around f ≡ role small around f

-- it is defined, and fits the machine, over the one table exactly where it does over the other
pub record WideningKeepsDefined : Type 0 where
  pub defined : (small large : Table) → IsWellFormed small → IsWider small large →
      (find : Finder) (e : State) (b : List Binding) (f : Formula) → IsTypedRole (role small (map (λ x. x.0) b) f) →
      Defined find (record { table = large; state = e; bound = b }) f ↔ Defined find (record { table = small; state = e; bound = b }) f
  pub fits : (small large : Table) → IsWellFormed small → IsWider small large →
      (find : Finder) (e : State) (b : List Binding) (arrays : ArrayTable) (f : Formula) → IsTypedRole (role small (map (λ x. x.0) b) f) →
      Fits find (record { table = large; state = e; bound = b }) arrays f
      ↔ Fits find (record { table = small; state = e; bound = b }) arrays f
