-- What a term reads as. Terms are those of the B Language Reference Manual, formulas and their types those of the B-Book; which faults
-- there are is this project's own.
use Rattle.std.specs.Prelude.{ℕ, suc, Bool, true, false, cond, not, ◌||◌, List, [], ◌∷◌, ◌++◌, Option, None, Some, ℤ, ◌+◌, length}
use Rattle.bk_val.specs.ValueType.{int_type}
use Rattle.bk_form.specs.Formula.{literal, for_all, for_some}
use Rattle.bk_raw.specs.declared.operator.InfixOp.{InfixOp}
use Rattle.bk_raw.specs.declared.operator.InfixOp.TheVariants.{Equivalent, Implies, And, Or, Equal, NotEqual, Less, AtMost, Greater}
use Rattle.bk_raw.specs.declared.operator.InfixOp.TheVariants.{AtLeast, Member, NotMember, Subset, NotSubset, StrictSubset}
use Rattle.bk_raw.specs.declared.operator.WordOp.{WordOp}
use Rattle.bk_raw.specs.declared.operator.WordOp.TheVariants.{Not, BoolOf}
use Rattle.bk_raw.specs.declared.operator.Constant.{Constant}
use Rattle.bk_raw.specs.declared.operator.Constant.TheVariants.{Btrue, Bfalse}
use Rattle.bk_raw.specs.declared.term.RawName.{RawName}
use Rattle.bk_raw.specs.Trees.RawTree.{RawTree, raw, RawTreeNode, raw_name, raw_level_name, raw_bound_name, raw_number, raw_constant}
use Rattle.bk_raw.specs.Trees.RawTree.{raw_word, raw_negative, raw_infix, raw_inverse, raw_image, raw_apply, raw_composition}
use Rattle.bk_raw.specs.Trees.RawTree.{raw_pair, raw_empty_set, raw_extension, raw_comprehension, raw_lambda, raw_for_all, raw_exists}
use Rattle.bk_raw.specs.Trees.RawTree.{raw_typed_empty, raw_typed_for_all, raw_typed_exists, raw_ranged_comprehension, raw_ranged_lambda}
use Rattle.bk_raw.specs.Trees.RawTree.{RawTrees, no_trees, tree_and, RawRanges, no_ranges, range_and}
use Rattle.bk_raw.specs.Meaning.Names.{Names, Sight, unseen, untyped_name, seen, found, count_locals, bound_sight, level_name}
use Rattle.bk_raw.specs.Meaning.Outcome.{hollow, Outcome, partial, Reading, silently, plainly, giving, clean, no_type}
use Rattle.bk_raw.specs.Meaning.OperatorReadings.{constant_reading, word_reading, negative_reading, inverse_reading, infix_reading}
use Rattle.bk_raw.specs.Meaning.OperatorReadings.{image_reading, apply_reading, composition_reading, pair_reading, single_reading, extended}
use Rattle.bk_raw.specs.Meaning.Binders.{Bound, bound_names, inside, told_by, twice, quantified, Ranged, unranged, ranges_by}
use Rattle.bk_raw.specs.Meaning.Binders.{as_bound, is_used, left_over, is_and, body_of, comprehended, abstracted}
use Rattle.bk_raw.specs.Meaning.Printed.{type_read, typed_empty, wrong_bounds, printed_bounds, RangeRead, printed_ranges, wrong_ranges}
use Rattle.bk_raw.specs.Trees.FreeNames.{conjuncts, stands_free}
use Rattle.bk_raw.specs.Errors.Faults.{Fault, unknown_name, not_predicate}

-- ---- what a term is by its form alone
-- the byte where a term stands
abbrev pub place_of : RawTree → ℕ
place_of (raw at node) = at

-- whether the operator makes a predicate
abbrev pub makes_predicate : InfixOp → Bool
makes_predicate Equivalent = true
makes_predicate Implies = true
makes_predicate And = true
makes_predicate Or = true
makes_predicate Equal = true
makes_predicate NotEqual = true
makes_predicate Less = true
makes_predicate AtMost = true
makes_predicate Greater = true
makes_predicate AtLeast = true
makes_predicate Member = true
makes_predicate NotMember = true
makes_predicate Subset = true
makes_predicate NotSubset = true
makes_predicate StrictSubset = true
makes_predicate _ = false

-- whether the sides of the operator are predicates
abbrev pub is_connective : InfixOp → Bool
is_connective Equivalent = true
is_connective Implies = true
is_connective And = true
is_connective Or = true
is_connective _ = false

-- whether it is `not`
abbrev pub is_not : WordOp → Bool
is_not Not = true
is_not _ = false

-- whether a predicate stands after the word
abbrev pub takes_predicate : WordOp → Bool
takes_predicate Not = true
takes_predicate BoolOf = true
takes_predicate _ = false

-- whether it is btrue or bfalse
abbrev pub is_truth_word : Constant → Bool
is_truth_word Btrue = true
is_truth_word Bfalse = true
is_truth_word _ = false

-- whether a term of this form is a predicate
abbrev pub is_predicate_node : RawTreeNode → Bool
is_predicate_node (raw_constant c) = is_truth_word c
is_predicate_node (raw_word o a) = is_not o
is_predicate_node (raw_infix o a b) = makes_predicate o
is_predicate_node (raw_for_all xs p) = true
is_predicate_node (raw_exists xs p) = true
is_predicate_node (raw_typed_for_all xs p) = true
is_predicate_node (raw_typed_exists xs p) = true
is_predicate_node _ = false

-- whether a term is a predicate, by its form alone
abbrev pub is_predicate : RawTree → Bool
is_predicate (raw at node) = is_predicate_node node

-- the name, where the form is one
abbrev pub name_in : RawTreeNode → Option (List ℕ)
name_in (raw_name x) = Some x
name_in _ = None

-- the name, where the term is one
abbrev pub name_of : RawTree → Option (List ℕ)
name_of (raw at node) = name_in node

-- whether one of the names stands free in the term
abbrev pub names_one : List RawName → RawTree → Bool
names_one [] t = false
names_one (x ∷ xs) t = stands_free x.text t || names_one xs t

-- the bytes of all `<<:` in a term
abbrev mutual
  -- each `<<:` in the term, as a fault
  pub stricts : RawTree → List Fault
  stricts (raw at node) = stricts_in at node

  pub stricts_in : ℕ → RawTreeNode → List Fault
  stricts_in at (raw_word o a) = stricts a
  stricts_in at (raw_negative a) = stricts a
  stricts_in at (raw_infix StrictSubset a b) = not_predicate at ∷ stricts a ++ stricts b
  stricts_in at (raw_infix o a b) = stricts a ++ stricts b
  stricts_in at (raw_inverse a) = stricts a
  stricts_in at (raw_image a b) = stricts a ++ stricts b
  stricts_in at (raw_apply a b) = stricts a ++ stricts b
  stricts_in at (raw_composition a b) = stricts a ++ stricts b
  stricts_in at (raw_pair a b) = stricts a ++ stricts b
  stricts_in at (raw_extension ts) = all_stricts ts
  stricts_in at (raw_comprehension xs p) = stricts p
  stricts_in at (raw_lambda xs p e) = stricts p ++ stricts e
  stricts_in at (raw_for_all xs p) = stricts p
  stricts_in at (raw_exists xs p) = stricts p
  stricts_in at (raw_typed_for_all bs p) = stricts p
  stricts_in at (raw_typed_exists bs p) = stricts p
  stricts_in at (raw_ranged_comprehension rs p) = ranges_stricts rs ++ stricts p
  stricts_in at (raw_ranged_lambda rs p e) = ranges_stricts rs ++ (stricts p ++ stricts e)
  stricts_in at _ = []

  pub ranges_stricts : RawRanges → List Fault
  ranges_stricts no_ranges = []
  ranges_stricts (range_and at n d rs) = stricts d ++ ranges_stricts rs

  pub all_stricts : RawTrees → List Fault
  all_stricts no_trees = []
  all_stricts (tree_and t ts) = stricts t ++ all_stricts ts

-- no `<<:` stands within a side of another one
abbrev pub strict_faults : InfixOp → RawTree → RawTree → List Fault
strict_faults StrictSubset a b = stricts a ++ stricts b
strict_faults _ a b = []

-- ---- readings
-- whether both are the same
abbrev pub is_alike : Bool → Bool → Bool
is_alike true b = b
is_alike false b = not b

-- a part in a place where a predicate is wanted, or an expression: the other one is at fault, and what lies in it is still judged
abbrev pub part : Bool → RawTree → Reading → Reading
part wanted t r = cond (is_alike wanted (is_predicate t)) r (silently (not_predicate (place_of t) ∷ r.faults))

-- what a name at a byte reads as. A name without a type silences what is around it, and is told where it is declared
abbrev pub name_reading : ℕ → Sight → Reading
name_reading at unseen = silently (unknown_name at ∷ [])
name_reading at untyped_name = silently []
name_reading at (seen f t) = giving f t

-- the faults of the parts come first
abbrev pub behind_faults : List Fault → Reading → Reading
behind_faults fs r = record { outcome = r.outcome; faults = fs ++ r.faults }

-- the same of faults beside which nothing is told
abbrev pub spoilt_by : List Fault → Reading → Reading
spoilt_by fs r = record { outcome = clean fs r.outcome; faults = fs ++ r.faults }

-- what comes of a part, by its outcome
abbrev pub from_one : (Outcome → Reading) → Reading → Reading
from_one k a = behind_faults a.faults (k a.outcome)

-- what comes of two parts, by their outcomes
abbrev pub from_two : (Outcome → Outcome → Reading) → Reading → Reading → Reading
from_two k a b = behind_faults (a.faults ++ b.faults) (k a.outcome b.outcome)

abbrev mutual
  -- what a term reads as under names in scope, MAXINT being int_max
  pub reading : ℤ → Names → RawTree → Reading
  reading int_max names (raw at node) = node_reading int_max names at node

  pub node_reading : ℤ → Names → ℕ → RawTreeNode → Reading
  node_reading int_max names at (raw_name x) = name_reading at (found 0 names x)
  node_reading int_max names at (raw_level_name x n) = name_reading at (found 0 names (level_name x n))
  node_reading int_max names at (raw_number z) = giving (literal z) int_type
  node_reading int_max names at (raw_constant c) = constant_reading int_max at c
  node_reading int_max names at (raw_word o a) =
      from_one (word_reading o at (place_of a)) (part (takes_predicate o) a (reading int_max names a))
  node_reading int_max names at (raw_negative a) = from_one (negative_reading (place_of a)) (part false a (reading int_max names a))
  node_reading int_max names at (raw_infix o a b) =
      spoilt_by (strict_faults o a b) (from_two (infix_reading o at (place_of a) (place_of b))
      (part (is_connective o) a (reading int_max names a)) (part (is_connective o) b (reading int_max names b)))
  node_reading int_max names at (raw_inverse a) = from_one (inverse_reading (place_of a)) (part false a (reading int_max names a))
  node_reading int_max names at (raw_image a b) =
      from_two (image_reading (place_of a) (place_of b)) (part false a (reading int_max names a)) (part false b (reading int_max names b))
  node_reading int_max names at (raw_apply a b) =
      from_two (apply_reading (place_of a) (place_of b)) (part false a (reading int_max names a)) (part false b (reading int_max names b))
  node_reading int_max names at (raw_composition a b) =
      from_two (composition_reading at (place_of a) (place_of b))
      (part false a (reading int_max names a)) (part false b (reading int_max names b))
  node_reading int_max names at (raw_pair a b) =
      from_two pair_reading (part false a (reading int_max names a)) (part false b (reading int_max names b))
  node_reading int_max names at raw_empty_set = plainly (partial hollow)
  node_reading int_max names at (raw_extension ts) = extension_reading int_max names at ts
  node_reading int_max names at (raw_for_all xs p) =
      quantified for_all (twice [] xs) (premise_clues int_max names (bound_names xs) p)
      (part true p (reading int_max (inside (premise_clues int_max names (bound_names xs) p) names) p))
  node_reading int_max names at (raw_exists xs p) =
      quantified for_some (twice [] xs) (clues int_max names (bound_names xs) p)
      (part true p (reading int_max (inside (clues int_max names (bound_names xs) p) names) p))
  node_reading int_max names at (raw_comprehension xs p) =
      comprehended at (twice [] xs) (ranges int_max names xs 0 (unranged xs) p) (body_of (rest int_max
      (inside (as_bound (ranges int_max names xs 0 (unranged xs) p)) names) (ranges int_max names xs 0 (unranged xs) p) 0 None p))
  node_reading int_max names at (raw_lambda xs p e) =
      abstracted at (twice [] xs) (ranges int_max names xs 0 (unranged xs) p) (body_of (rest int_max
      (inside (as_bound (ranges int_max names xs 0 (unranged xs) p)) names) (ranges int_max names xs 0 (unranged xs) p) 0 None p))
      (place_of e) (part false e (reading int_max (inside (as_bound (ranges int_max names xs 0 (unranged xs) p)) names) e))
  node_reading int_max names at (raw_bound_name k) = name_reading at (bound_sight (count_locals names) names k)
  node_reading int_max names at (raw_typed_empty t) = typed_empty at (type_read names t)
  node_reading int_max names at (raw_typed_for_all bs p) =
      quantified for_all (wrong_bounds (suc (count_locals names)) bs) (printed_bounds names bs)
      (part true p (reading int_max (inside (printed_bounds names bs) names) p))
  node_reading int_max names at (raw_typed_exists bs p) =
      quantified for_some (wrong_bounds (suc (count_locals names)) bs) (printed_bounds names bs)
      (part true p (reading int_max (inside (printed_bounds names bs) names) p))
  node_reading int_max names at (raw_ranged_comprehension rs p) =
      comprehended at (wrong_ranges (suc (count_locals names)) (range_reads int_max names rs)) (printed_ranges (range_reads int_max
      names rs)) (part true p (reading int_max (inside (as_bound (printed_ranges (range_reads int_max names rs))) names) p))
  node_reading int_max names at (raw_ranged_lambda rs p e) =
      abstracted at (wrong_ranges (suc (count_locals names)) (range_reads int_max names rs)) (printed_ranges (range_reads int_max names rs))
      (part true p (reading int_max (inside (as_bound (printed_ranges (range_reads int_max names rs))) names) p))
      (place_of e) (part false e (reading int_max (inside (as_bound (printed_ranges (range_reads int_max names rs))) names) e))

  -- the ranges of printed bound variables
  pub range_reads : ℤ → Names → RawRanges → List RangeRead
  range_reads int_max names no_ranges = []
  range_reads int_max names (range_and at n d rs) =
      record { at = at; number = n; place = place_of d; reading = part false d (reading int_max names d) } ∷ range_reads int_max names rs

  -- {a, b, c}, which has an element
  pub extension_reading : ℤ → Names → ℕ → RawTrees → Reading
  extension_reading int_max names at no_trees = silently (no_type at)
  extension_reading int_max names at (tree_and t ts) =
      elements_reading int_max names at (from_one single_reading (part false t (reading int_max names t))) ts

  -- one element after another
  pub elements_reading : ℤ → Names → ℕ → Reading → RawTrees → Reading
  elements_reading int_max names at before no_trees = before
  elements_reading int_max names at before (tree_and t ts) =
      elements_reading int_max names at (from_two (extended at) before (part false t (reading int_max names t))) ts

  -- the types that the conjuncts give to bound names, each from the names that have one already
  pub clues : ℤ → Names → List Bound → RawTree → List Bound
  clues int_max names bs (raw at (raw_infix o a d)) =
      told_by o bs (name_of a) (clues int_max names (clues int_max names bs a) d) (reading int_max (inside bs names) d).outcome
  clues int_max names bs _ = bs

  -- those of the left side of `=>`
  pub premise_clues : ℤ → Names → List Bound → RawTree → List Bound
  premise_clues int_max names bs (raw at (raw_infix Implies a b)) = clues int_max names bs a
  premise_clues int_max names bs _ = bs

  -- the ranges that the conjuncts give to the names, of which all are bound; the first conjunct has the number i
  pub ranges : ℤ → Names → List RawName → ℕ → List Ranged → RawTree → List Ranged
  ranges int_max names all i bs (raw at (raw_infix o a d)) =
      ranges_by o i bs (name_of a) (ranges int_max names all (i + length (conjuncts a)) (ranges int_max names all i bs a) d)
      (names_one all d) (part false d (reading int_max names d)).outcome
  ranges int_max names all i bs _ = bs

  -- the conjuncts that gave no range, after those before the i-th
  pub rest : ℤ → Names → List Ranged → ℕ → Option Reading → RawTree → Option Reading
  rest int_max names bs i before (raw at node) =
      rest_in int_max names bs i before (part true (raw at node) (node_reading int_max names at node)) node

  -- the same by the form of the term, which reads as r
  pub rest_in : ℤ → Names → List Ranged → ℕ → Option Reading → Reading → RawTreeNode → Option Reading
  rest_in int_max names bs i before r (raw_infix o a b) =
      cond (is_and o) (rest int_max names bs (i + length (conjuncts a)) (rest int_max names bs i before a) b)
      (left_over (is_used i bs) before r)
  rest_in int_max names bs i before r _ = left_over (is_used i bs) before r
