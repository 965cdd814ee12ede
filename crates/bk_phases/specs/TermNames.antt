-- Names in terms as they are written: the lists that binders bind, and the names that are not visible.
-- Source: B Language Reference Manual, visibility.
use Rattle.std.specs.Prelude.{ℕ, cond, List, [], ◌∷◌, ◌++◌, map}
use Rattle.bk_raw.specs.declared.term.RawName.{RawName}
use Rattle.bk_raw.specs.Trees.RawTree.{RawTree, raw, raw_name, raw_level_name, raw_word, raw_negative, raw_infix}
use Rattle.bk_raw.specs.Trees.RawTree.{raw_inverse, raw_image, raw_apply, raw_composition, raw_pair, raw_extension, raw_comprehension}
use Rattle.bk_raw.specs.Trees.RawTree.{raw_lambda, raw_for_all, raw_exists, RawTrees, no_trees, tree_and}
use Rattle.bk_raw.specs.Meaning.Names.{level_name}
use Rattle.bk_raw.specs.Meaning.Binders.{is_text}

-- the texts of names
abbrev pub texts : List RawName → List (List ℕ)
texts xs = map (λ (x : RawName). x.text) xs

abbrev mutual
  -- the lists of names that quantifiers, comprehensions and lambdas in a term bind (a component has none of printed formulas)
  pub binding_lists : RawTree → List (List RawName)
  binding_lists (raw at (raw_word o a)) = binding_lists a
  binding_lists (raw at (raw_negative a)) = binding_lists a
  binding_lists (raw at (raw_infix o a b)) = binding_lists a ++ binding_lists b
  binding_lists (raw at (raw_inverse a)) = binding_lists a
  binding_lists (raw at (raw_image a b)) = binding_lists a ++ binding_lists b
  binding_lists (raw at (raw_apply a b)) = binding_lists a ++ binding_lists b
  binding_lists (raw at (raw_composition a b)) = binding_lists a ++ binding_lists b
  binding_lists (raw at (raw_pair a b)) = binding_lists a ++ binding_lists b
  binding_lists (raw at (raw_extension es)) = all_binding_lists es
  binding_lists (raw at (raw_comprehension xs p)) = xs ∷ binding_lists p
  binding_lists (raw at (raw_lambda xs p e)) = xs ∷ binding_lists p ++ binding_lists e
  binding_lists (raw at (raw_for_all xs p)) = xs ∷ binding_lists p
  binding_lists (raw at (raw_exists xs p)) = xs ∷ binding_lists p
  binding_lists (raw at _) = []

  -- those in several terms
  pub all_binding_lists : RawTrees → List (List RawName)
  all_binding_lists no_trees = []
  all_binding_lists (tree_and e es) = binding_lists e ++ all_binding_lists es

-- a name with this text, unless it is one of those that are visible
abbrev pub unless_visible : List (List ℕ) → List ℕ → ℕ → List ℕ
unless_visible visible x at = cond (is_text visible x) [] (at ∷ [])

abbrev mutual
  -- the names in a term that are not visible, where these are
  pub unknown_in : List (List ℕ) → RawTree → List ℕ
  unknown_in visible (raw at (raw_name x)) = unless_visible visible x at
  unknown_in visible (raw at (raw_level_name x n)) = unless_visible visible (level_name x n) at
  unknown_in visible (raw at (raw_word o a)) = unknown_in visible a
  unknown_in visible (raw at (raw_negative a)) = unknown_in visible a
  unknown_in visible (raw at (raw_infix o a b)) = unknown_in visible a ++ unknown_in visible b
  unknown_in visible (raw at (raw_inverse a)) = unknown_in visible a
  unknown_in visible (raw at (raw_image a b)) = unknown_in visible a ++ unknown_in visible b
  unknown_in visible (raw at (raw_apply a b)) = unknown_in visible a ++ unknown_in visible b
  unknown_in visible (raw at (raw_composition a b)) = unknown_in visible a ++ unknown_in visible b
  unknown_in visible (raw at (raw_pair a b)) = unknown_in visible a ++ unknown_in visible b
  unknown_in visible (raw at (raw_extension es)) = all_unknown_in visible es
  unknown_in visible (raw at (raw_comprehension xs p)) = unknown_in (texts xs ++ visible) p
  unknown_in visible (raw at (raw_lambda xs p e)) = unknown_in (texts xs ++ visible) p ++ unknown_in (texts xs ++ visible) e
  unknown_in visible (raw at (raw_for_all xs p)) = unknown_in (texts xs ++ visible) p
  unknown_in visible (raw at (raw_exists xs p)) = unknown_in (texts xs ++ visible) p
  unknown_in visible (raw at _) = []

  -- those in several terms
  pub all_unknown_in : List (List ℕ) → RawTrees → List ℕ
  all_unknown_in visible no_trees = []
  all_unknown_in visible (tree_and e es) = unknown_in visible e ++ all_unknown_in visible es
