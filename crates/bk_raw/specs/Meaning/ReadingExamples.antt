-- Small cases of what terms read as, to be checked by hand.
use Rattle.std.specs.Prelude.{◌≡◌, ℕ, ℤ, pos, neg_ℤ, [], ◌∷◌, None, Some}
use Rattle.bk_limits.specs.declared.TheConstants.{MAXINT}
use Rattle.bk_val.specs.ValueType.{int_type, pair_type, set_type}
use Rattle.bk_form.specs.Formula.{variable, bound, literal, empty_set, named, btrue, unary, binary}
use Rattle.bk_form.specs.Formula.{for_all, comprehension, lambda, no_formulas, formula_and}
use Rattle.bk_form.specs.declared.operator.UnOp.TheVariants.{Not as Negation, Single, Pow as PowerOf}
use Rattle.bk_form.specs.declared.operator.BinOp.TheVariants.{And as Conjunction, Union as Joining, Minus as Without}
use Rattle.bk_form.specs.declared.operator.BinOp.TheVariants.{Times as Product, Eq, In, Range, Imp, Lt, Le, Add, DomRes}
use Rattle.bk_form.specs.declared.operator.BinOp.TheVariants.{Comp, Maps, Image as ImageOf, Apply as ApplyTo}
use Rattle.bk_form.specs.declared.operator.Domain.TheVariants.{Natural as NaturalNumbers, Enum}
use Rattle.bk_form.specs.Table.{Table}
use Rattle.bk_raw.specs.declared.operator.InfixOp.{InfixOp}
use Rattle.bk_raw.specs.declared.operator.InfixOp.TheVariants.{Equal, NotEqual, Greater, AtMost, Member, Subset, StrictSubset, Plus}
use Rattle.bk_raw.specs.declared.operator.InfixOp.TheVariants.{Minus, Times, Implies, And, Interval, DomainRestriction, Maplet}
use Rattle.bk_raw.specs.declared.operator.WordOp.TheVariants.{Succ, Card, Min, Fin, BoolOf}
use Rattle.bk_raw.specs.declared.operator.Constant.{Constant}
use Rattle.bk_raw.specs.declared.operator.Constant.TheVariants.{True, Natural, Nat, MaxInt, MinInt}
use Rattle.bk_raw.specs.declared.term.RawName.{RawName}
use Rattle.bk_raw.specs.Trees.WrittenType.{written_integer, written_power}
use Rattle.bk_raw.specs.Trees.RawTree.{RawTree, raw, raw_name, raw_number, raw_constant, raw_word, raw_infix, raw_empty_set}
use Rattle.bk_raw.specs.Trees.RawTree.{raw_extension, raw_apply, raw_image, raw_composition, raw_pair, raw_for_all, raw_exists}
use Rattle.bk_raw.specs.Trees.RawTree.{raw_comprehension, raw_lambda, raw_bound_name, raw_typed_empty, raw_typed_for_all}
use Rattle.bk_raw.specs.Trees.RawTree.{raw_ranged_comprehension, no_trees, tree_and, no_ranges, range_and}
use Rattle.bk_raw.specs.Meaning.Names.{Names, global}
use Rattle.bk_raw.specs.Meaning.Outcome.{Reading, whole, partial, ranging, holding}
use Rattle.bk_raw.specs.Meaning.TermReading.{reading}
use Rattle.bk_raw.specs.Meaning.ScopeReading.{ScopeNames, formula_in}
use Rattle.bk_raw.specs.Errors.Faults.{twice_named, unknown_name, without_type, not_predicate}

-- MAXINT
abbrev pub maxint : ℤ
maxint = MAXINT

-- the name x, whose variable 4 is a set of numbers
abbrev pub x_is_set : Names
x_is_set = record { text = 120 ∷ []; meaning = global 4 (Some (set_type int_type)) } ∷ []

-- the same, and the name f, whose variable 5 is a relation between numbers
abbrev pub x_and_relation : Names
x_and_relation = record { text = 102 ∷ []; meaning = global 5 (Some (set_type (pair_type int_type int_type))) } ∷ x_is_set

-- the name x, whose variable 4 has no type
abbrev pub x_has_no_type : Names
x_has_no_type = record { text = 120 ∷ []; meaning = global 4 None } ∷ []

-- the number 1 at a byte
abbrev pub one_at : ℕ → RawTree
one_at at = raw at (raw_number (pos 1))

-- the name x at a byte
abbrev pub x_at : ℕ → RawTree
x_at at = raw at (raw_name (120 ∷ []))

-- the name f at a byte
abbrev pub f_at : ℕ → RawTree
f_at at = raw at (raw_name (102 ∷ []))

-- {t} at a byte
abbrev pub single_at : ℕ → RawTree → RawTree
single_at at t = raw at (raw_extension (tree_and t no_trees))

-- {} at a byte
abbrev pub empty_at : ℕ → RawTree
empty_at at = raw at raw_empty_set

-- a constant word at a byte
abbrev pub word_at : ℕ → Constant → RawTree
word_at at c = raw at (raw_constant c)

-- an operator between two terms, the first of which stands at a byte
abbrev pub infix_at : ℕ → InfixOp → RawTree → RawTree → RawTree
infix_at at o a b = raw at (raw_infix o a b)

-- x where it is declared
abbrev pub x_declared : ℕ → RawName
x_declared at = record { at = at; text = 120 ∷ [] }

-- what a term reads as under no names
abbrev pub alone : RawTree → Reading
alone t = reading maxint [] t

-- the same, where x is a set
abbrev pub with_set : RawTree → Reading
with_set t = reading maxint x_is_set t

-- the same, where f is a relation too
abbrev pub with_relation : RawTree → Reading
with_relation t = reading maxint x_and_relation t

-- a table with one set s = {a}, and one variable n
abbrev pub small_table : Table
small_table = record {
  sets = record { name = 115 ∷ []; elements = (97 ∷ []) ∷ []; size = 1 } ∷ [];
  variables = record { text = 110 ∷ []; of_type = int_type } ∷ [];
}

-- a scope with the name n of that variable, the name a of it too, and a name m of none
abbrev pub small_scope : ScopeNames
small_scope = record { max = maxint; names = (110 ∷ [], 0) ∷ (97 ∷ [], 0) ∷ (109 ∷ [], 7) ∷ [] }

-- a scope whose last entries for n and a have a number of no variable
abbrev pub hiding_scope : ScopeNames
hiding_scope = record { max = maxint; names = (110 ∷ [], 0) ∷ (110 ∷ [], 9) ∷ (97 ∷ [], 9) ∷ [] }

-- a name at the first byte
abbrev pub name_first : ℕ → RawTree
name_first letter = raw 0 (raw_name (letter ∷ []))

-- small terms with what they read as, and with their faults
pub record ReadingExamples : Type 0 where
  -- ---- operators
  -- 1 + TRUE is at fault at TRUE
  pub sum : (alone (infix_at 0 Plus (one_at 0) (word_at 4 True))).faults ≡ without_type 4 ∷ []
  -- {} = x: the empty set takes the type of x
  pub equal : (with_set (infix_at 0 Equal (empty_at 0) (x_at 5))).outcome ≡ holding (binary Eq (empty_set (set_type int_type)) (variable 4))
  -- {} = {} has no type, at the whole
  pub neither : (alone (infix_at 0 Equal (empty_at 0) (empty_at 5))).faults ≡ without_type 0 ∷ []
  -- x /= {} is not(x = {})
  pub unequal : (with_set (infix_at 0 NotEqual (x_at 0) (empty_at 5))).outcome ≡
      holding (unary Negation (binary Eq (variable 4) (empty_set (set_type int_type))))
  -- 1 > 2 is 2 < 1
  pub greater : (alone (infix_at 0 Greater (one_at 0) (raw 4 (raw_number (pos 2))))).outcome ≡
      holding (binary Lt (literal (pos 2)) (literal (pos 1)))
  -- x - {} is a difference of sets
  pub difference : (with_set (infix_at 0 Minus (x_at 0) (empty_at 4))).outcome
      ≡ partial (whole (binary Without (variable 4) (empty_set (set_type int_type))) (set_type int_type))
  -- {} * x has no type, at {}
  pub product : (with_set (infix_at 0 Times (empty_at 0) (x_at 5))).faults ≡ without_type 0 ∷ []
  -- x * NATURAL is a domain, and 1 * NATURAL is at fault at NATURAL
  pub domains : (with_set (infix_at 0 Times (x_at 0) (word_at 4 Natural))).outcome
      ≡ ranging (binary Product (variable 4) (named NaturalNumbers)) (pair_type int_type int_type) 4
  pub number_of_domains : (alone (infix_at 0 Times (one_at 0) (word_at 4 Natural))).faults ≡ without_type 4 ∷ []
  -- NATURAL * 1 is of numbers, since 1 gives first, and so at fault at NATURAL; NATURAL * TRUE at the whole, and NATURAL * {} at {}
  pub domain_of_numbers : (alone (infix_at 0 Times (word_at 1 Natural) (one_at 12))).faults ≡ without_type 1 ∷ []
  pub domain_of_truth : (alone (infix_at 0 Times (word_at 1 Natural) (word_at 12 True))).faults ≡ without_type 0 ∷ []
  pub domain_of_none : (alone (infix_at 0 Times (word_at 1 Natural) (empty_at 12))).faults ≡ without_type 12 ∷ []
  -- beside a fault in one side nothing is told of the other
  pub product_of_fault : (alone (infix_at 0 Times (empty_at 0) (infix_at 6 Plus (one_at 6) (word_at 10 True)))).faults ≡
      without_type 10 ∷ []
  -- {1, 1} is {1} \/ {1}
  pub extension : (alone (raw 0 (raw_extension (tree_and (one_at 1) (tree_and (one_at 4) no_trees))))).outcome
      ≡ partial (whole (binary Joining (unary Single (literal (pos 1))) (unary Single (literal (pos 1)))) (set_type int_type))
  -- succ(1) is 1 + 1; min({}) is typed, card({}) is not; FIN is POW
  pub successor : (alone (raw 0 (raw_word Succ (one_at 5)))).outcome ≡
      partial (whole (binary Add (literal (pos 1)) (literal (pos 1))) int_type)
  pub least_of_none : (alone (raw 0 (raw_word Min (empty_at 4)))).faults ≡ []
  pub count_of_none : (alone (raw 0 (raw_word Card (empty_at 5)))).faults ≡ without_type 5 ∷ []
  pub finite_sets : (with_set (raw 0 (raw_word Fin (x_at 4)))).outcome ≡ ranging (unary PowerOf (variable 4)) (set_type int_type) 0
  -- x <<: x is x : POW(x) & not(x = x), and 1 <<: x is at fault at 1
  pub strict : (with_set (infix_at 0 StrictSubset (x_at 0) (x_at 6))).outcome
      ≡ holding
      (binary Conjunction (binary In (variable 4) (unary PowerOf (variable 4))) (unary Negation (binary Eq (variable 4) (variable 4))))
  pub no_set : (with_set (infix_at 0 StrictSubset (one_at 0) (x_at 6))).faults ≡ without_type 0 ∷ []
  -- MAXINT and NAT are numbers and intervals of literals
  pub greatest : (alone (word_at 0 MaxInt)).outcome ≡ partial (whole (literal MAXINT) int_type)
  pub least : (alone (word_at 0 MinInt)).outcome ≡ partial (whole (literal (neg_ℤ MAXINT)) int_type)
  pub naturals : (alone (word_at 0 Nat)).outcome ≡
      partial (whole (binary Range (literal (pos 0)) (literal MAXINT)) (set_type int_type))
  -- f(1), f[x], x <| f, (f ; f) and 1 |-> 1
  pub application : (with_relation (raw 0 (raw_apply (f_at 0) (one_at 2)))).outcome ≡
      partial (whole (binary ApplyTo (variable 5) (literal (pos 1))) int_type)
  pub image : (with_relation (raw 0 (raw_image (f_at 0) (x_at 2)))).outcome ≡
      partial (whole (binary ImageOf (variable 5) (variable 4)) (set_type int_type))
  pub restriction : (with_relation (infix_at 0 DomainRestriction (x_at 0) (f_at 5))).outcome
      ≡ partial (whole (binary DomRes (variable 4) (variable 5)) (set_type (pair_type int_type int_type)))
  pub composition : (with_relation (raw 0 (raw_composition (f_at 1) (f_at 5)))).outcome
      ≡ partial (whole (binary Comp (variable 5) (variable 5)) (set_type (pair_type int_type int_type)))
  pub couple : (alone (infix_at 0 Maplet (one_at 0) (one_at 6))).outcome ≡
      partial (whole (binary Maps (literal (pos 1)) (literal (pos 1))) (pair_type int_type int_type))
  -- ---- faults
  -- 1(1) is at fault at the 1 that is applied; min({TRUE}) at {TRUE}, f(1, TRUE) at the pair and card({{}}) at {{}}, as wholes
  pub no_function : (alone (raw 0 (raw_apply (one_at 0) (one_at 2)))).faults ≡ without_type 0 ∷ []
  pub no_set_of_numbers : (alone (raw 0 (raw_word Min (single_at 4 (word_at 5 True))))).faults ≡ without_type 4 ∷ []
  pub no_argument : (with_relation (raw 0 (raw_apply (f_at 0) (raw 2 (raw_pair (one_at 2) (word_at 5 True)))))).faults ≡ without_type 2 ∷ []
  pub no_type_within : (alone (raw 0 (raw_word Card (single_at 5 (empty_at 6))))).faults ≡ without_type 5 ∷ []
  -- x <<: bool(x <<: x): the inner <<: is at fault, and bool(..) is no set
  pub strict_within : (with_set (infix_at 0 StrictSubset (x_at 0)
      (raw 6 (raw_word BoolOf (infix_at 11 StrictSubset (x_at 11) (x_at 17)))))).faults ≡ not_predicate 11 ∷ without_type 6 ∷ []
  -- an unknown name
  pub name : (alone (x_at 7)).faults ≡ unknown_name 7 ∷ []
  -- NATURAL as a value
  pub domain : (with_set (infix_at 0 Equal (x_at 0) (word_at 4 Natural))).faults ≡ without_type 4 ∷ []
  -- an expression where a predicate stands
  pub kind : (with_set (infix_at 0 Implies (x_at 0) (x_at 5))).faults ≡ not_predicate 0 ∷ not_predicate 5 ∷ []
  -- a name without a type silences what is around it, and other parts are still judged
  pub silent : (reading maxint x_has_no_type (infix_at 0 Times (raw 0 (raw_extension (tree_and (one_at 1) no_trees))) (x_at 6))).faults ≡ []
  pub judged : (reading maxint x_has_no_type (infix_at 0 Plus (word_at 0 True) (x_at 7))).faults ≡ without_type 0 ∷ []
  -- ---- binders
  -- !x.(x : NATURAL => 1 <= x)
  pub quantifier : (alone (raw 0 (raw_for_all (x_declared 1 ∷ [])
      (infix_at 4 Implies (infix_at 4 Member (x_at 4) (word_at 8 Natural)) (infix_at 19 AtMost (one_at 19) (x_at 24)))))).outcome
      ≡ holding (for_all (int_type ∷ []) (binary Imp (binary In (bound 0) (named NaturalNumbers)) (binary Le (literal (pos 1)) (bound 0))))
  -- !x.(1 <= x) leaves x without a type
  pub untyped : (alone (raw 0 (raw_for_all (x_declared 1 ∷ []) (infix_at 4 AtMost (one_at 4) (x_at 9))))).faults ≡ without_type 1 ∷ []
  -- #x.(x <: {1}) types x by {1}
  pub typed_by_subset : (alone (raw 0 (raw_exists (x_declared 1 ∷ []) (infix_at 4 Subset (x_at 4) (single_at 9 (one_at 10)))))).faults ≡ []
  -- #(x, x).(x = 1): the second x stands twice, and has no type
  pub twice : (alone (raw 0 (raw_exists (x_declared 2 ∷ x_declared 5 ∷ []) (infix_at 9 Equal (x_at 9) (one_at 13))))).faults ≡
      twice_named 5 ∷ without_type 5 ∷ []
  -- #x.(x <<: {1}) types x by {1}
  pub typed_by_strict : (alone (raw 0
      (raw_exists (x_declared 1 ∷ []) (infix_at 4 StrictSubset (x_at 4) (raw 10 (raw_extension (tree_and (one_at 11) no_trees))))))).faults
      ≡ []
  -- #x.(x <<: NATURAL) types x too, and is at fault at NATURAL alone, which is no value
  pub typed_by_domain : (alone (raw 0 (raw_exists (x_declared 1 ∷ []) (infix_at 4 StrictSubset (x_at 4) (word_at 10 Natural))))).faults ≡
      without_type 10 ∷ []
  -- {x | x : 1 .. 1 & 1 <= x}: the range is taken from the first conjunct
  pub ranged : (alone (raw 0 (raw_comprehension (x_declared 1 ∷ []) (infix_at 5 And
      (infix_at 5 Member (x_at 5) (infix_at 9 Interval (one_at 9) (one_at 14))) (infix_at 18 AtMost (one_at 18) (x_at 23)))))).outcome
      ≡ partial (whole (comprehension (formula_and (binary Range (literal (pos 1)) (literal (pos 1))) no_formulas)
      (binary Le (literal (pos 1)) (bound 0))) (set_type int_type))
  -- {x | x = 1} is {x | x : {1} & btrue}
  pub one_value : (alone (raw 0 (raw_comprehension (x_declared 1 ∷ []) (infix_at 5 Equal (x_at 5) (one_at 9))))).outcome
      ≡ partial (whole (comprehension (formula_and (unary Single (literal (pos 1))) no_formulas) btrue) (set_type int_type))
  -- %x.(x : 1 .. 1 | x)
  pub function : (alone
      (raw 0 (raw_lambda (x_declared 1 ∷ []) (infix_at 4 Member (x_at 4) (infix_at 8 Interval (one_at 8) (one_at 13))) (x_at 17)))).outcome
      ≡ partial (whole (lambda (formula_and (binary Range (literal (pos 1)) (literal (pos 1))) no_formulas) btrue (bound 0))
      (set_type (pair_type int_type int_type)))
  -- {x | x : x}: the range names a bound name
  pub names_itself : (with_set (raw 0 (raw_comprehension (x_declared 1 ∷ []) (infix_at 5 Member (x_at 5) (x_at 9))))).faults ≡
      without_type 1 ∷ []
  -- ---- printed formulas
  pub typed_empty : (alone (raw 0 (raw_typed_empty (written_power written_integer)))).outcome ≡
      partial (whole (empty_set (set_type int_type)) (set_type int_type))
  -- !($1:INTEGER).($1 <= 1)
  pub numbered : (alone (raw 0 (raw_typed_for_all (record { at = 2; number = 1; ty = written_integer } ∷ [])
      (infix_at 16 AtMost (raw 16 (raw_bound_name 1)) (one_at 22))))).outcome
      ≡ holding (for_all (int_type ∷ []) (binary Le (bound 0) (literal (pos 1))))
  -- {$1:x | $1 <= 1}
  pub numbered_range : (with_set (raw 0
      (raw_ranged_comprehension (range_and 1 1 (x_at 4) no_ranges) (infix_at 8 AtMost (raw 8 (raw_bound_name 1)) (one_at 14))))).outcome
      ≡ partial (whole (comprehension (formula_and (variable 4) no_formulas) (binary Le (bound 0) (literal (pos 1)))) (set_type int_type))
  -- ---- in a scope
  -- the variable's name hides the element's, and a name of no variable is none
  pub variable_name : (formula_in small_table small_scope (name_first 97)).answer ≡ Some (variable 0)
  pub set_name : (formula_in small_table small_scope (name_first 115)).answer ≡ Some (named (Enum 0))
  pub no_name : (formula_in small_table small_scope (name_first 109)).faults ≡ unknown_name 0 ∷ []
  -- an entry of no variable hides the variable, and the element
  pub hidden_variable : (formula_in small_table hiding_scope (name_first 110)).faults ≡ unknown_name 0 ∷ []
  pub hidden_element : (formula_in small_table hiding_scope (name_first 97)).faults ≡ unknown_name 0 ∷ []
  -- {} alone has no type
  pub no_formula : (formula_in small_table small_scope (empty_at 3)).faults ≡ without_type 3 ∷ []
