-- When what a term reads as can be kept: it depends on nothing but what is found of the names that stand in it.
use Rattle.std.specs.Prelude.{◌≡◌, ◌⊎◌, ℕ, ℤ, true, List}
use Rattle.bk_raw.specs.Trees.RawTree.{RawTree, raw, RawTreeNode, raw_level_name, raw_bound_name, raw_word, raw_negative, raw_infix}
use Rattle.bk_raw.specs.Trees.RawTree.{raw_inverse, raw_image, raw_apply, raw_composition, raw_pair, raw_extension, raw_comprehension}
use Rattle.bk_raw.specs.Trees.RawTree.{raw_lambda, raw_for_all, raw_exists, raw_typed_for_all, raw_typed_exists, raw_ranged_comprehension}
use Rattle.bk_raw.specs.Trees.RawTree.{raw_ranged_lambda, RawTrees, no_trees, tree_and, RawRanges, no_ranges, range_and}
use Rattle.bk_raw.specs.Trees.FreeNames.{stands_free}
use Rattle.bk_raw.specs.Meaning.Names.{Names, found, count_locals, bound_sight, level_name}
use Rattle.bk_raw.specs.Meaning.Printed.{set_type_of}
use Rattle.bk_raw.specs.Meaning.TermReading.{reading}

-- names that are written with a dollar sign
pub data DollarName : Type 0 where
  -- x$n, by its text
  at_level : List ℕ → DollarName
  -- $k
  of_bound : ℕ → DollarName

-- the name stands in the term
abbrev mutual
  pub StandsIn : RawTree → DollarName → Type 0
  StandsIn (raw at node) m = StandsInNode node m

  pub StandsInNode : RawTreeNode → DollarName → Type 0
  StandsInNode (raw_level_name x n) m = m ≡ at_level (level_name x n)
  StandsInNode (raw_bound_name k) m = m ≡ of_bound k
  StandsInNode (raw_word o a) m = StandsIn a m
  StandsInNode (raw_negative a) m = StandsIn a m
  StandsInNode (raw_infix o a b) m = StandsIn a m ⊎ StandsIn b m
  StandsInNode (raw_inverse a) m = StandsIn a m
  StandsInNode (raw_image a b) m = StandsIn a m ⊎ StandsIn b m
  StandsInNode (raw_apply a b) m = StandsIn a m ⊎ StandsIn b m
  StandsInNode (raw_composition a b) m = StandsIn a m ⊎ StandsIn b m
  StandsInNode (raw_pair a b) m = StandsIn a m ⊎ StandsIn b m
  StandsInNode (raw_extension ts) m = StandsInSome ts m
  StandsInNode (raw_comprehension xs p) m = StandsIn p m
  StandsInNode (raw_lambda xs p e) m = StandsIn p m ⊎ StandsIn e m
  StandsInNode (raw_for_all xs p) m = StandsIn p m
  StandsInNode (raw_exists xs p) m = StandsIn p m
  StandsInNode (raw_typed_for_all bs p) m = StandsIn p m
  StandsInNode (raw_typed_exists bs p) m = StandsIn p m
  StandsInNode (raw_ranged_comprehension rs p) m = StandsInRanges rs m ⊎ StandsIn p m
  StandsInNode (raw_ranged_lambda rs p e) m = StandsInRanges rs m ⊎ (StandsIn p m ⊎ StandsIn e m)
  StandsInNode _ m = ⊥

  pub StandsInSome : RawTrees → DollarName → Type 0
  StandsInSome no_trees m = ⊥
  StandsInSome (tree_and t ts) m = StandsIn t m ⊎ StandsInSome ts m

  pub StandsInRanges : RawRanges → DollarName → Type 0
  StandsInRanges no_ranges m = ⊥
  StandsInRanges (range_and at n d rs) m = StandsIn d m ⊎ StandsInRanges rs m

-- the same is found of the name
abbrev pub IsFoundAlike : Names → Names → DollarName → Type 0
IsFoundAlike ns ms (at_level x) = found 0 ns x ≡ found 0 ms x
IsFoundAlike ns ms (of_bound k) = bound_sight (count_locals ns) ns k ≡ bound_sight (count_locals ms) ms k

-- of two lists of names: as many locals, the same sets, and the same found of each name that stands free in a term
pub record FindAlike (t : RawTree) (ns ms : Names) : Type 0 where
  pub locals : count_locals ns ≡ count_locals ms
  pub sets : (x : List ℕ) → set_type_of (found 0 ns x) ≡ set_type_of (found 0 ms x)
  pub names : (x : List ℕ) → stands_free x t ≡ true → found 0 ns x ≡ found 0 ms x
  pub dollar_names : (m : DollarName) → StandsIn t m → IsFoundAlike ns ms m

-- then the term reads as the same, with the same faults: so what the right side of a conjunct reads as for its bound name's type may
-- be kept for the body, where only names have got types since then that do not stand in it
abbrev pub ReadingsAreKept : Type 0
ReadingsAreKept = (max : ℤ) (t : RawTree) (ns ms : Names) → FindAlike t ns ms → reading max ns t ≡ reading max ms t
