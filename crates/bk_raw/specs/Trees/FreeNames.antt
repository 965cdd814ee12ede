-- Whether a name stands free in a term as it is written, and how LET defines its names.
-- Source: B Language Reference Manual.
use Rattle.std.specs.Prelude.{◌≡◌, ℕ, Bool, false, not, ◌&&◌, ◌||◌, List, [], ◌∷◌, ◌++◌, All}
use Rattle.std.specs.Str.{bytes_eq}
use Rattle.bk_raw.specs.declared.operator.InfixOp.TheVariants.{And, Equal}
use Rattle.bk_raw.specs.declared.term.RawName.{RawName}
use Rattle.bk_raw.specs.Trees.RawTree.{RawTree, raw, RawTreeNode, raw_name, raw_level_name, raw_bound_name, raw_number, raw_constant}
use Rattle.bk_raw.specs.Trees.RawTree.{raw_word, raw_negative, raw_infix, raw_inverse, raw_image, raw_apply, raw_composition}
use Rattle.bk_raw.specs.Trees.RawTree.{raw_pair, raw_empty_set, raw_extension, raw_comprehension, raw_lambda, raw_for_all, raw_exists}
use Rattle.bk_raw.specs.Trees.RawTree.{raw_typed_empty, raw_typed_for_all, raw_typed_exists, raw_ranged_comprehension, raw_ranged_lambda}
use Rattle.bk_raw.specs.Trees.RawTree.{RawTrees, no_trees, tree_and, RawRanges, no_ranges, range_and}

-- whether the name is one of these declared names
abbrev pub is_among : List ℕ → List RawName → Bool
is_among x [] = false
is_among x (y ∷ ys) = bytes_eq y.text x || is_among x ys

-- whether the name stands free in the term: outside of what a comprehension, a lambda or a quantifier over this name takes
-- in. A name at a level is another name
abbrev mutual
  pub stands_free : List ℕ → RawTree → Bool
  stands_free x (raw at node) = is_free_in x node

  pub is_free_in : List ℕ → RawTreeNode → Bool
  is_free_in x (raw_name text) = bytes_eq text x
  is_free_in x (raw_level_name text n) = false
  is_free_in x (raw_bound_name n) = false
  is_free_in x (raw_number z) = false
  is_free_in x (raw_constant c) = false
  is_free_in x (raw_word o a) = stands_free x a
  is_free_in x (raw_negative a) = stands_free x a
  is_free_in x (raw_infix o a b) = stands_free x a || stands_free x b
  is_free_in x (raw_inverse r) = stands_free x r
  is_free_in x (raw_image r s) = stands_free x r || stands_free x s
  is_free_in x (raw_apply f e) = stands_free x f || stands_free x e
  is_free_in x (raw_composition r s) = stands_free x r || stands_free x s
  is_free_in x (raw_pair a b) = stands_free x a || stands_free x b
  is_free_in x raw_empty_set = false
  is_free_in x (raw_extension ts) = is_free_in_some x ts
  is_free_in x (raw_comprehension xs p) = not (is_among x xs) && stands_free x p
  is_free_in x (raw_lambda xs p e) = not (is_among x xs) && (stands_free x p || stands_free x e)
  is_free_in x (raw_for_all xs p) = not (is_among x xs) && stands_free x p
  is_free_in x (raw_exists xs p) = not (is_among x xs) && stands_free x p
  is_free_in x (raw_typed_empty t) = false
  is_free_in x (raw_typed_for_all bs p) = stands_free x p
  is_free_in x (raw_typed_exists bs p) = stands_free x p
  is_free_in x (raw_ranged_comprehension rs p) = is_free_in_ranges x rs || stands_free x p
  is_free_in x (raw_ranged_lambda rs p e) = is_free_in_ranges x rs || stands_free x p || stands_free x e

  pub is_free_in_some : List ℕ → RawTrees → Bool
  is_free_in_some x no_trees = false
  is_free_in_some x (tree_and t ts) = stands_free x t || is_free_in_some x ts

  pub is_free_in_ranges : List ℕ → RawRanges → Bool
  is_free_in_ranges x no_ranges = false
  is_free_in_ranges x (range_and at n d rs) = stands_free x d || is_free_in_ranges x rs

-- what & joins, from left to right
abbrev pub conjuncts : RawTree → List RawTree
conjuncts (raw at (raw_infix And a b)) = conjuncts a ++ conjuncts b
conjuncts t = t ∷ []

-- x = e, with none of the names free in e
abbrev pub IsDefinition : List RawName → RawName → RawTree → Type 0
IsDefinition all x (raw at (raw_infix Equal (raw bt (raw_name text)) e)) = (text ≡ x.text) × All (λ y. stands_free y.text e ≡ false) all
IsDefinition all x _ = ⊥

-- these terms define these names, one each and in order, with none of all the names free in what they are
abbrev pub AreDefinitions : List RawName → List RawName → List RawTree → Type 0
AreDefinitions all [] [] = Unit {0}
AreDefinitions all (x ∷ xs) (p ∷ ps) = IsDefinition all x p × AreDefinitions all xs ps
AreDefinitions all _ _ = ⊥

-- x = e for each name in order
abbrev pub Defines : List RawName → RawTree → Type 0
Defines xs p = AreDefinitions xs xs (conjuncts p)
