-- What is kept of a term that is too high to be built: the terms that & joins in it, each with the name that it defines and
-- the names that stand free.
use Rattle.std.specs.Prelude.{◌≡◌, ℕ, not, List, [], ◌∷◌, ◌++◌, Option, None, Some, option_to_list}
use Rattle.std.specs.List.{filter}
use Rattle.bk_raw.specs.declared.operator.InfixOp.{InfixOp}
use Rattle.bk_raw.specs.declared.operator.InfixOp.TheVariants.{Equal, Power}
use Rattle.bk_raw.specs.declared.term.RawName.{RawName}
use Rattle.bk_raw.specs.Trees.FreeNames.{is_among}
use Rattle.bk_raw.specs.Trees.RawTree.{RawTree, raw, RawTreeNode, raw_name, raw_word, raw_negative, raw_infix, raw_inverse}
use Rattle.bk_raw.specs.Trees.RawTree.{raw_image, raw_apply, raw_composition, raw_pair, raw_extension, raw_comprehension, raw_lambda}
use Rattle.bk_raw.specs.Trees.RawTree.{raw_for_all, raw_exists, raw_typed_for_all, raw_typed_exists, raw_ranged_comprehension}
use Rattle.bk_raw.specs.Trees.RawTree.{raw_ranged_lambda, RawTrees, no_trees, tree_and, RawRanges, no_ranges, range_and}
use Rattle.bk_p_expr.specs.declared.free.Conjunct.{Conjunct}

-- the names but these
abbrev pub without : List RawName → List (List ℕ) → List (List ℕ)
without xs names = filter (λ y. not (is_among y xs)) names

-- the names of the parts of an operator's term: those of an exponent first, since powers are joined to the right
abbrev pub names_beside : InfixOp → List (List ℕ) → List (List ℕ) → List (List ℕ)
names_beside Power left right = right ++ left
names_beside _ left right = left ++ right

-- the names that stand free in a term, each as often as it stands there
abbrev mutual
  pub free_names : RawTree → List (List ℕ)
  free_names (raw at node) = free_names_in node

  pub free_names_in : RawTreeNode → List (List ℕ)
  free_names_in (raw_name text) = text ∷ []
  free_names_in (raw_word o a) = free_names a
  free_names_in (raw_negative a) = free_names a
  free_names_in (raw_infix o a b) = names_beside o (free_names a) (free_names b)
  free_names_in (raw_inverse r) = free_names r
  free_names_in (raw_image r s) = free_names r ++ free_names s
  free_names_in (raw_apply f e) = free_names f ++ free_names e
  free_names_in (raw_composition r s) = free_names r ++ free_names s
  free_names_in (raw_pair a b) = free_names a ++ free_names b
  free_names_in (raw_extension ts) = free_names_of ts
  free_names_in (raw_comprehension xs p) = without xs (free_names p)
  free_names_in (raw_lambda xs p e) = without xs (free_names p ++ free_names e)
  free_names_in (raw_for_all xs p) = without xs (free_names p)
  free_names_in (raw_exists xs p) = without xs (free_names p)
  free_names_in (raw_typed_for_all bs p) = free_names p
  free_names_in (raw_typed_exists bs p) = free_names p
  free_names_in (raw_ranged_comprehension rs p) = free_names_of_ranges rs ++ free_names p
  free_names_in (raw_ranged_lambda rs p e) = free_names_of_ranges rs ++ free_names p ++ free_names e
  free_names_in _ = []

  pub free_names_of : RawTrees → List (List ℕ)
  free_names_of no_trees = []
  free_names_of (tree_and t ts) = free_names t ++ free_names_of ts

  pub free_names_of_ranges : RawRanges → List (List ℕ)
  free_names_of_ranges no_ranges = []
  free_names_of_ranges (range_and at n d rs) = free_names d ++ free_names_of_ranges rs

-- x and e of x = e; no name and the whole of another term
abbrev pub definition : RawTree → Option (List ℕ) × RawTree
definition (raw at (raw_infix Equal (raw bt (raw_name text)) e)) = (Some text, e)
definition t = (None, t)

-- it is kept of this term
abbrev pub IsConjunct : RawTree → Conjunct → Type 0
IsConjunct tree c = (c.name ≡ (definition tree).0) × (c.free.items ≡ free_names (definition tree).1)

-- the same of one after another
abbrev pub AreConjuncts : List RawTree → List Conjunct → Type 0
AreConjuncts [] [] = Unit {0}
AreConjuncts (t ∷ ts) (c ∷ cs) = IsConjunct t c × AreConjuncts ts cs
AreConjuncts _ _ = ⊥

-- the name that a term is
abbrev pub name_alone : RawTree → Option (List ℕ)
name_alone (raw at (raw_name text)) = Some text
name_alone _ = None

-- the names in conjuncts, those that they define among them
abbrev pub names_of_conjuncts : List Conjunct → List (List ℕ)
names_of_conjuncts [] = []
names_of_conjuncts (c ∷ cs) = option_to_list c.name ++ c.free.items ++ names_of_conjuncts cs
