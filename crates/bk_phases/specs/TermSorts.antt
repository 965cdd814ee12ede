-- Predicates and expressions in terms as they are written: which of both a term is, its form alone says.
-- Source: B Language Reference Manual.
use Rattle.std.specs.Prelude.{ℕ, Bool, true, false, cond, List, [], ◌∷◌, ◌++◌, map}
use Rattle.bk_raw.specs.declared.operator.InfixOp.{InfixOp}
use Rattle.bk_raw.specs.Errors.Faults.{Fault}
use Rattle.bk_raw.specs.Trees.RawTree.{RawTree, raw, RawTreeNode, raw_word, raw_negative, raw_infix, raw_inverse}
use Rattle.bk_raw.specs.Trees.RawTree.{raw_image, raw_apply, raw_composition, raw_pair, raw_extension, raw_comprehension, raw_lambda}
use Rattle.bk_raw.specs.Trees.RawTree.{raw_for_all, raw_exists, RawTrees, no_trees, tree_and}
use Rattle.bk_raw.specs.Meaning.TermReading.{is_predicate_node, is_connective, takes_predicate, is_alike, strict_faults}

-- each `<<:` within a side of a `<<:`
abbrev pub nested_strict : InfixOp → RawTree → RawTree → List ℕ
nested_strict o a b = map (λ (f : Fault). f.1) (strict_faults o a b)

abbrev mutual
  -- where a term, or one in it, is an expression and a predicate is wanted, or the reverse; and each `<<:` within a side of another
  pub missorted : Bool → RawTree → List ℕ
  missorted wanted (raw at node) = cond (is_alike wanted (is_predicate_node node)) [] (at ∷ []) ++ missorted_parts node

  -- the same of the parts of a term
  pub missorted_parts : RawTreeNode → List ℕ
  missorted_parts (raw_word o a) = missorted (takes_predicate o) a
  missorted_parts (raw_negative a) = missorted false a
  missorted_parts (raw_infix o a b) = nested_strict o a b ++ missorted (is_connective o) a ++ missorted (is_connective o) b
  missorted_parts (raw_inverse a) = missorted false a
  missorted_parts (raw_image a b) = missorted false a ++ missorted false b
  missorted_parts (raw_apply a b) = missorted false a ++ missorted false b
  missorted_parts (raw_composition a b) = missorted false a ++ missorted false b
  missorted_parts (raw_pair a b) = missorted false a ++ missorted false b
  missorted_parts (raw_extension es) = all_missorted es
  missorted_parts (raw_comprehension xs p) = missorted true p
  missorted_parts (raw_lambda xs p e) = missorted true p ++ missorted false e
  missorted_parts (raw_for_all xs p) = missorted true p
  missorted_parts (raw_exists xs p) = missorted true p
  missorted_parts _ = []

  -- the same of expressions
  pub all_missorted : RawTrees → List ℕ
  all_missorted no_trees = []
  all_missorted (tree_and e es) = missorted false e ++ all_missorted es
