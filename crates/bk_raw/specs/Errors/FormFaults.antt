-- The faults that a term's form alone tells, whatever types its names have: a name that stands twice in one binder, a name that is not in
-- scope, a term of the wrong kind, and a `<<:` within a side of another one. Which they are is this project's own.
use Rattle.std.specs.Prelude.{◌≡◌, ℕ, ℤ, Bool, true, false, cond, ◌||◌, nat_eq, List, [], ◌∷◌, ◌++◌}
use Rattle.bk_raw.specs.declared.fault.FaultKind.{FaultKind}
use Rattle.bk_raw.specs.declared.fault.FaultKind.TheVariants.{NoType}
use Rattle.bk_raw.specs.declared.term.RawName.{RawName}
use Rattle.bk_raw.specs.Trees.RawTree.{RawTree, raw, RawTreeNode, raw_name, raw_level_name, raw_word, raw_negative, raw_infix}
use Rattle.bk_raw.specs.Trees.RawTree.{raw_inverse, raw_image, raw_apply, raw_composition, raw_pair, raw_extension}
use Rattle.bk_raw.specs.Trees.RawTree.{raw_comprehension, raw_lambda, raw_for_all, raw_exists, RawTrees, no_trees, tree_and}
use Rattle.bk_raw.specs.Trees.FreeNames.{is_among}
use Rattle.bk_raw.specs.Trees.Additions.{HasNoAddition}
use Rattle.bk_raw.specs.Meaning.Names.{Names, Sight, unseen, found, level_name}
use Rattle.bk_raw.specs.Meaning.Binders.{twice}
use Rattle.bk_raw.specs.Meaning.TermReading.{place_of, is_predicate, is_alike, takes_predicate, is_connective, strict_faults, reading}
use Rattle.bk_raw.specs.Errors.Faults.{Fault, unknown_name, not_predicate}

-- the names in scope within a binder of these names
abbrev pub with_names : List RawName → (List ℕ → Bool) → List ℕ → Bool
with_names xs visible x = is_among x xs || visible x

-- the faults of a part in a place for a predicate, or for an expression: those within, and that it is of the other kind
abbrev pub part_faults : Bool → RawTree → List Fault → List Fault
part_faults wanted t fs = cond (is_alike wanted (is_predicate t)) fs (not_predicate (place_of t) ∷ fs)

abbrev mutual
  -- the faults of a term by its form, where the test tells which names are in scope
  pub form_faults : (List ℕ → Bool) → RawTree → List Fault
  form_faults visible (raw at node) = node_faults visible at node

  pub node_faults : (List ℕ → Bool) → ℕ → RawTreeNode → List Fault
  node_faults visible at (raw_name x) = cond (visible x) [] (unknown_name at ∷ [])
  node_faults visible at (raw_level_name x n) = cond (visible (level_name x n)) [] (unknown_name at ∷ [])
  node_faults visible at (raw_word o a) = part_faults (takes_predicate o) a (form_faults visible a)
  node_faults visible at (raw_negative a) = part_faults false a (form_faults visible a)
  node_faults visible at (raw_infix o a b) = strict_faults o a b
      ++ (part_faults (is_connective o) a (form_faults visible a) ++ part_faults (is_connective o) b (form_faults visible b))
  node_faults visible at (raw_inverse a) = part_faults false a (form_faults visible a)
  node_faults visible at (raw_image a b) = part_faults false a (form_faults visible a) ++ part_faults false b (form_faults visible b)
  node_faults visible at (raw_apply a b) = part_faults false a (form_faults visible a) ++ part_faults false b (form_faults visible b)
  node_faults visible at (raw_composition a b) = part_faults false a (form_faults visible a) ++ part_faults false b (form_faults visible b)
  node_faults visible at (raw_pair a b) = part_faults false a (form_faults visible a) ++ part_faults false b (form_faults visible b)
  node_faults visible at (raw_extension ts) = each_faults visible ts
  node_faults visible at (raw_comprehension xs p) = twice [] xs ++ part_faults true p (form_faults (with_names xs visible) p)
  node_faults visible at (raw_lambda xs p e) = twice [] xs
      ++ (part_faults true p (form_faults (with_names xs visible) p) ++ part_faults false e (form_faults (with_names xs visible) e))
  node_faults visible at (raw_for_all xs p) = twice [] xs ++ part_faults true p (form_faults (with_names xs visible) p)
  node_faults visible at (raw_exists xs p) = twice [] xs ++ part_faults true p (form_faults (with_names xs visible) p)
  node_faults visible at _ = []

  pub each_faults : (List ℕ → Bool) → RawTrees → List Fault
  each_faults visible no_trees = []
  each_faults visible (tree_and t ts) = part_faults false t (form_faults visible t) ++ each_faults visible ts

-- it is that a type is missing
abbrev pub is_missing_type : FaultKind → Bool
is_missing_type NoType = true
is_missing_type _ = false

-- the faults but for those of types
abbrev pub but_types : List Fault → List Fault
but_types [] = []
but_types (f ∷ fs) = cond (is_missing_type f.0) (but_types fs) (f ∷ but_types fs)

-- something stands under the name
abbrev pub is_in_sight : Sight → Bool
is_in_sight unseen = false
is_in_sight _ = true

-- all faults of a term but those of types are told by its form, in the order of the text: names and types do not matter, but for which
-- names are in scope. The term has none of the additions with which formulas are printed
abbrev pub FormTellsFaults : Type 0
FormTellsFaults = (max : ℤ) (names : Names) (t : RawTree) → HasNoAddition t →
    but_types (reading max names t).faults ≡ form_faults (λ x. is_in_sight (found 0 names x)) t
