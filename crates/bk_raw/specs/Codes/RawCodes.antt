-- Each raw tree as a tree of numbers, which gives it back: by it a proof tells raw trees apart.
use Rattle.std.specs.Prelude.{◌≡◌, ℤ, pos, negsuc, zero, suc, List, [], ◌∷◌, refl}
use Rattle.std.proofs.Common.{ap, sym, ◌∙◌}
use Rattle.std.specs.Coded.{Coded}
use base.Stored.{Gv, gnil, gnum, gcons}
use Rattle.bk_raw.specs.Trees.WrittenType.{text_code, text_back, text_back-code, written_code, written_back, written_back-code}
use Rattle.bk_raw.specs.Codes.OperatorCodes.{infix_code, infix_back, infix_back-code, word_code, word_back}
use Rattle.bk_raw.specs.Codes.OperatorCodes.{word_back-code, constant_code, constant_back, constant_back-code}
use Rattle.bk_raw.specs.declared.term.RawName.{RawName}
use Rattle.bk_raw.specs.declared.term.RawBound.{RawBound}
use Rattle.bk_raw.specs.Trees.RawTree.{RawTree, raw, RawTreeNode, raw_empty_set, raw_name, raw_level_name, raw_bound_name, raw_number}
use Rattle.bk_raw.specs.Trees.RawTree.{raw_constant, raw_word, raw_negative, raw_infix, raw_inverse, raw_image, raw_apply}
use Rattle.bk_raw.specs.Trees.RawTree.{raw_composition, raw_pair, raw_extension, raw_comprehension, raw_lambda, raw_for_all}
use Rattle.bk_raw.specs.Trees.RawTree.{raw_exists, raw_typed_empty, raw_typed_for_all, raw_typed_exists, raw_ranged_comprehension}
use Rattle.bk_raw.specs.Trees.RawTree.{raw_ranged_lambda, RawTrees, no_trees, tree_and, RawRanges, no_ranges, range_and}

-- a whole number
abbrev int_code : ℤ → Gv
int_code (pos n) = gcons gnil (gnum n)
int_code (negsuc n) = gcons (gnum 0) (gnum n)

-- the whole number of a code
abbrev int_back : Gv → ℤ
int_back (gcons gnil (gnum n)) = pos n
int_back (gcons (gnum m) (gnum n)) = negsuc n
int_back _ = pos 0

-- a code gives its number back
int_back-code : (z : ℤ) → int_back (int_code z) ≡ z
int_back-code (pos n) = refl
int_back-code (negsuc n) = refl

-- a declared name
abbrev pub name_code : RawName → Gv
name_code x = gcons (gnum x.at) (text_code x.text)

-- the name of a code
abbrev pub name_back : Gv → RawName
name_back (gcons (gnum n) g) = record { at = n; text = text_back g }
name_back _ = record { at = 0; text = [] }

-- a code gives its name back
pub name_back-code : (x : RawName) → name_back (name_code x) ≡ x
name_back-code x = λ i. record { at = x.at; text = text_back-code x.text i }

-- declared names
abbrev pub names_code : List RawName → Gv
names_code [] = gnil
names_code (x ∷ xs) = gcons (name_code x) (names_code xs)

-- the names of a code
abbrev pub names_back : Gv → List RawName
names_back (gcons g h) = name_back g ∷ names_back h
names_back _ = []

-- a code gives its names back
pub names_back-code : (xs : List RawName) → names_back (names_code xs) ≡ xs
names_back-code [] = refl
names_back-code (x ∷ xs) = λ i. name_back-code x i ∷ names_back-code xs i

-- bound variables with their types
abbrev bounds_code : List RawBound → Gv
bounds_code [] = gnil
bounds_code (x ∷ xs) = gcons (gcons (gnum x.at) (gcons (gnum x.number) (written_code x.ty))) (bounds_code xs)

-- the bound variables of a code
abbrev bounds_back : Gv → List RawBound
bounds_back (gcons (gcons (gnum m) (gcons (gnum n) g)) h) = record { at = m; number = n; ty = written_back g } ∷ bounds_back h
bounds_back _ = []

-- a code gives its bound variables back
bounds_back-code : (xs : List RawBound) → bounds_back (bounds_code xs) ≡ xs
bounds_back-code [] = refl
bounds_back-code (x ∷ xs) = λ i. record { at = x.at; number = x.number; ty = written_back-code x.ty i } ∷ bounds_back-code xs i

-- trees, nodes and lists, each node by its number and its parts
abbrev mutual
  pub tree_code : RawTree → Gv
  tree_code (raw at node) = gcons (gnum at) (node_code node)

  pub node_code : RawTreeNode → Gv
  node_code (raw_name a0) = gcons (gnum 0) (text_code a0)
  node_code (raw_level_name a0 a1) = gcons (gnum 1) (gcons (text_code a0) (gnum a1))
  node_code (raw_bound_name a0) = gcons (gnum 2) (gnum a0)
  node_code (raw_number a0) = gcons (gnum 3) (int_code a0)
  node_code (raw_constant a0) = gcons (gnum 4) (gnum (constant_code a0))
  node_code (raw_word a0 a1) = gcons (gnum 5) (gcons (gnum (word_code a0)) (tree_code a1))
  node_code (raw_negative a0) = gcons (gnum 6) (tree_code a0)
  node_code (raw_infix a0 a1 a2) = gcons (gnum 7) (gcons (gnum (infix_code a0)) (gcons (tree_code a1) (tree_code a2)))
  node_code (raw_inverse a0) = gcons (gnum 8) (tree_code a0)
  node_code (raw_image a0 a1) = gcons (gnum 9) (gcons (tree_code a0) (tree_code a1))
  node_code (raw_apply a0 a1) = gcons (gnum 10) (gcons (tree_code a0) (tree_code a1))
  node_code (raw_composition a0 a1) = gcons (gnum 11) (gcons (tree_code a0) (tree_code a1))
  node_code (raw_pair a0 a1) = gcons (gnum 12) (gcons (tree_code a0) (tree_code a1))
  node_code (raw_extension a0) = gcons (gnum 13) (trees_code a0)
  node_code (raw_comprehension a0 a1) = gcons (gnum 14) (gcons (names_code a0) (tree_code a1))
  node_code (raw_lambda a0 a1 a2) = gcons (gnum 15) (gcons (names_code a0) (gcons (tree_code a1) (tree_code a2)))
  node_code (raw_for_all a0 a1) = gcons (gnum 16) (gcons (names_code a0) (tree_code a1))
  node_code (raw_exists a0 a1) = gcons (gnum 17) (gcons (names_code a0) (tree_code a1))
  node_code (raw_typed_empty a0) = gcons (gnum 18) (written_code a0)
  node_code (raw_typed_for_all a0 a1) = gcons (gnum 19) (gcons (bounds_code a0) (tree_code a1))
  node_code (raw_typed_exists a0 a1) = gcons (gnum 20) (gcons (bounds_code a0) (tree_code a1))
  node_code (raw_ranged_comprehension a0 a1) = gcons (gnum 21) (gcons (ranges_code a0) (tree_code a1))
  node_code (raw_ranged_lambda a0 a1 a2) = gcons (gnum 22) (gcons (ranges_code a0) (gcons (tree_code a1) (tree_code a2)))
  node_code raw_empty_set = gnil

  pub trees_code : RawTrees → Gv
  trees_code no_trees = gnil
  trees_code (tree_and t ts) = gcons (tree_code t) (trees_code ts)

  pub ranges_code : RawRanges → Gv
  ranges_code no_ranges = gnil
  ranges_code (range_and at n d rs) = gcons (gcons (gnum at) (gcons (gnum n) (tree_code d))) (ranges_code rs)

-- the tree of a code
abbrev mutual
  pub tree_back : Gv → RawTree
  tree_back (gcons (gnum n) g) = raw n (node_back g)
  tree_back _ = raw 0 raw_empty_set

  pub node_back : Gv → RawTreeNode
  node_back (gcons (gnum zero) a0) = raw_name (text_back a0)
  node_back (gcons (gnum (suc zero)) (gcons a0 (gnum a1))) = raw_level_name (text_back a0) a1
  node_back (gcons (gnum (suc (suc zero))) (gnum a0)) = raw_bound_name a0
  node_back (gcons (gnum (suc (suc (suc zero)))) a0) = raw_number (int_back a0)
  node_back (gcons (gnum (suc (suc (suc (suc zero))))) (gnum a0)) = raw_constant (constant_back a0)
  node_back (gcons (gnum (suc (suc (suc (suc (suc zero)))))) (gcons (gnum a0) a1)) = raw_word (word_back a0) (tree_back a1)
  node_back (gcons (gnum (suc (suc (suc (suc (suc (suc zero))))))) a0) = raw_negative (tree_back a0)
  node_back (gcons (gnum (suc (suc (suc (suc (suc (suc (suc zero)))))))) (gcons (gnum a0) (gcons a1 a2))) =
      raw_infix (infix_back a0) (tree_back a1) (tree_back a2)
  node_back (gcons (gnum (suc (suc (suc (suc (suc (suc (suc (suc zero))))))))) a0) = raw_inverse (tree_back a0)
  node_back (gcons (gnum (suc (suc (suc (suc (suc (suc (suc (suc (suc zero)))))))))) (gcons a0 a1)) =
      raw_image (tree_back a0) (tree_back a1)
  node_back (gcons (gnum (suc (suc (suc (suc (suc (suc (suc (suc (suc (suc zero))))))))))) (gcons a0 a1)) =
      raw_apply (tree_back a0) (tree_back a1)
  node_back (gcons (gnum (suc (suc (suc (suc (suc (suc (suc (suc (suc (suc (suc zero)))))))))))) (gcons a0 a1)) =
      raw_composition (tree_back a0) (tree_back a1)
  node_back (gcons (gnum (suc (suc (suc (suc (suc (suc (suc (suc (suc (suc (suc (suc zero))))))))))))) (gcons a0 a1)) =
      raw_pair (tree_back a0) (tree_back a1)
  node_back (gcons (gnum (suc (suc (suc (suc (suc (suc (suc (suc (suc (suc (suc (suc (suc zero)))))))))))))) a0) =
      raw_extension (trees_back a0)
  node_back (gcons (gnum (suc (suc (suc (suc (suc (suc (suc (suc (suc (suc (suc (suc (suc (suc zero))))))))))))))) (gcons a0 a1)) =
      raw_comprehension (names_back a0) (tree_back a1)
  node_back (gcons (gnum (suc (suc (suc (suc (suc (suc (suc (suc (suc (suc (suc (suc (suc (suc (suc zero))))))))))))))))
      (gcons a0 (gcons a1 a2))) = raw_lambda (names_back a0) (tree_back a1) (tree_back a2)
  node_back (gcons (gnum (suc (suc (suc (suc (suc (suc (suc (suc (suc (suc (suc (suc (suc (suc (suc (suc zero)))))))))))))))))
      (gcons a0 a1)) = raw_for_all (names_back a0) (tree_back a1)
  node_back (gcons (gnum (suc (suc (suc (suc (suc (suc (suc (suc (suc (suc (suc (suc (suc (suc (suc (suc (suc zero))))))))))))))))))
      (gcons a0 a1)) = raw_exists (names_back a0) (tree_back a1)
  node_back (gcons (gnum (suc (suc (suc (suc (suc (suc (suc (suc (suc (suc (suc (suc (suc (suc (suc (suc (suc (suc zero)))))))))))))))))))
      a0) = raw_typed_empty (written_back a0)
  node_back (gcons (gnum (suc
      (suc (suc (suc (suc (suc (suc (suc (suc (suc (suc (suc (suc (suc (suc (suc (suc (suc (suc zero)))))))))))))))))))) (gcons a0 a1)) =
      raw_typed_for_all (bounds_back a0) (tree_back a1)
  node_back (gcons (gnum (suc (suc
      (suc (suc (suc (suc (suc (suc (suc (suc (suc (suc (suc (suc (suc (suc (suc (suc (suc (suc zero))))))))))))))))))))) (gcons a0 a1)) =
      raw_typed_exists (bounds_back a0) (tree_back a1)
  node_back (gcons (gnum (suc (suc (suc
      (suc (suc (suc (suc (suc (suc (suc (suc (suc (suc (suc (suc (suc (suc (suc (suc (suc (suc zero)))))))))))))))))))))) (gcons a0 a1)) =
      raw_ranged_comprehension (ranges_back a0) (tree_back a1)
  node_back (gcons (gnum (suc
      (suc (suc (suc (suc (suc (suc (suc (suc (suc (suc (suc (suc (suc (suc (suc (suc (suc (suc (suc (suc (suc zero)))))))))))))))))))))))
      (gcons a0 (gcons a1 a2))) = raw_ranged_lambda (ranges_back a0) (tree_back a1) (tree_back a2)
  node_back _ = raw_empty_set

  pub trees_back : Gv → RawTrees
  trees_back (gcons g h) = tree_and (tree_back g) (trees_back h)
  trees_back _ = no_trees

  pub ranges_back : Gv → RawRanges
  ranges_back (gcons (gcons (gnum m) (gcons (gnum n) g)) h) = range_and m n (tree_back g) (ranges_back h)
  ranges_back _ = no_ranges

-- a code gives its tree back
mutual
  pub tree_back-code : (t : RawTree) → tree_back (tree_code t) ≡ t
  tree_back-code (raw at node) = λ i. raw at (node_back-code node i)

  pub node_back-code : (t : RawTreeNode) → node_back (node_code t) ≡ t
  node_back-code (raw_name a0) = λ i. raw_name (text_back-code a0 i)
  node_back-code (raw_level_name a0 a1) = λ i. raw_level_name (text_back-code a0 i) a1
  node_back-code (raw_bound_name a0) = refl
  node_back-code (raw_number a0) = λ i. raw_number (int_back-code a0 i)
  node_back-code (raw_constant a0) = λ i. raw_constant (constant_back-code a0 i)
  node_back-code (raw_word a0 a1) = λ i. raw_word (word_back-code a0 i) (tree_back-code a1 i)
  node_back-code (raw_negative a0) = λ i. raw_negative (tree_back-code a0 i)
  node_back-code (raw_infix a0 a1 a2) = λ i. raw_infix (infix_back-code a0 i) (tree_back-code a1 i) (tree_back-code a2 i)
  node_back-code (raw_inverse a0) = λ i. raw_inverse (tree_back-code a0 i)
  node_back-code (raw_image a0 a1) = λ i. raw_image (tree_back-code a0 i) (tree_back-code a1 i)
  node_back-code (raw_apply a0 a1) = λ i. raw_apply (tree_back-code a0 i) (tree_back-code a1 i)
  node_back-code (raw_composition a0 a1) = λ i. raw_composition (tree_back-code a0 i) (tree_back-code a1 i)
  node_back-code (raw_pair a0 a1) = λ i. raw_pair (tree_back-code a0 i) (tree_back-code a1 i)
  node_back-code (raw_extension a0) = λ i. raw_extension (trees_back-code a0 i)
  node_back-code (raw_comprehension a0 a1) = λ i. raw_comprehension (names_back-code a0 i) (tree_back-code a1 i)
  node_back-code (raw_lambda a0 a1 a2) = λ i. raw_lambda (names_back-code a0 i) (tree_back-code a1 i) (tree_back-code a2 i)
  node_back-code (raw_for_all a0 a1) = λ i. raw_for_all (names_back-code a0 i) (tree_back-code a1 i)
  node_back-code (raw_exists a0 a1) = λ i. raw_exists (names_back-code a0 i) (tree_back-code a1 i)
  node_back-code (raw_typed_empty a0) = λ i. raw_typed_empty (written_back-code a0 i)
  node_back-code (raw_typed_for_all a0 a1) = λ i. raw_typed_for_all (bounds_back-code a0 i) (tree_back-code a1 i)
  node_back-code (raw_typed_exists a0 a1) = λ i. raw_typed_exists (bounds_back-code a0 i) (tree_back-code a1 i)
  node_back-code (raw_ranged_comprehension a0 a1) = λ i. raw_ranged_comprehension (ranges_back-code a0 i) (tree_back-code a1 i)
  node_back-code (raw_ranged_lambda a0 a1 a2) = λ i. raw_ranged_lambda (ranges_back-code a0 i) (tree_back-code a1 i) (tree_back-code a2 i)
  node_back-code raw_empty_set = refl

  pub trees_back-code : (ts : RawTrees) → trees_back (trees_code ts) ≡ ts
  trees_back-code no_trees = refl
  trees_back-code (tree_and t ts) = λ i. tree_and (tree_back-code t i) (trees_back-code ts i)

  pub ranges_back-code : (rs : RawRanges) → ranges_back (ranges_code rs) ≡ rs
  ranges_back-code no_ranges = refl
  ranges_back-code (range_and at n d rs) = λ i. range_and at n (tree_back-code d i) (ranges_back-code rs i)

-- so names can be told apart by their codes
abbrev pub coded_name : Coded RawName
coded_name = record { code = name_code; inj = λ a b e. sym (name_back-code a) ∙ ap name_back e ∙ name_back-code b }

-- and so can trees
abbrev pub coded_tree : Coded RawTree
coded_tree = record { code = tree_code; inj = λ a b e. sym (tree_back-code a) ∙ ap tree_back e ∙ tree_back-code b }
