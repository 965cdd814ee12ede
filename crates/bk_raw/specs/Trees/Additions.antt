-- Terms and substitutions as components have them: without the additions with which formulas are printed.
use Rattle.std.specs.Prelude.{◌≡◌}
use Rattle.bk_raw.specs.declared.operator.Constant.{Constant}
use Rattle.bk_raw.specs.declared.operator.Constant.TheVariants.{Btrue, Bfalse}
use Rattle.bk_raw.specs.declared.operator.InfixOp.{InfixOp}
use Rattle.bk_raw.specs.declared.operator.InfixOp.TheVariants.{Concatenation, Prepend, Append}
use Rattle.bk_raw.specs.declared.operator.WordOp.{WordOp}
use Rattle.bk_raw.specs.declared.operator.WordOp.TheVariants.{Seq, Size, First, Last, Front, Tail, Rev}
use Rattle.bk_raw.specs.Trees.RawTree.{RawTree, raw, RawTreeNode, raw_name, raw_level_name, raw_bound_name, raw_number}
use Rattle.bk_raw.specs.Trees.RawTree.{raw_constant, raw_word, raw_negative, raw_infix, raw_inverse, raw_image, raw_apply}
use Rattle.bk_raw.specs.Trees.RawTree.{raw_composition, raw_pair, raw_empty_set, raw_extension, raw_comprehension, raw_lambda}
use Rattle.bk_raw.specs.Trees.RawTree.{raw_for_all, raw_exists, raw_typed_empty, raw_typed_for_all, raw_typed_exists}
use Rattle.bk_raw.specs.Trees.RawTree.{raw_ranged_comprehension, raw_ranged_lambda, RawTrees, no_trees, tree_and}
use Rattle.bk_raw.specs.Trees.SubTree.{SubTree, sub, SubNode, sub_skip, sub_assign, sub_assign_at, sub_member, sub_such, sub_call}
use Rattle.bk_raw.specs.Trees.SubTree.{sub_begin, sub_pre, sub_assert, sub_if, sub_choice, sub_select, sub_any, sub_let, sub_var, sub_while}
use Rattle.bk_raw.specs.Trees.SubTree.{sub_parallel, sub_sequence, Branches, no_branches, else_branch, branch_and}
use Rattle.bk_raw.specs.Trees.SubTree.{Choices, no_choices, choice_and}

-- a constant word that stands in components too
abbrev pub IsOrdinary : Constant → Type 0
IsOrdinary Btrue = ⊥
IsOrdinary Bfalse = ⊥
IsOrdinary _ = Unit {0}

-- a word before a term that stands in components: those of sequences do not yet
abbrev pub IsOrdinaryWord : WordOp → Type 0
IsOrdinaryWord Seq = ⊥
IsOrdinaryWord Size = ⊥
IsOrdinaryWord First = ⊥
IsOrdinaryWord Last = ⊥
IsOrdinaryWord Front = ⊥
IsOrdinaryWord Tail = ⊥
IsOrdinaryWord Rev = ⊥
IsOrdinaryWord _ = Unit {0}

-- an operator that stands in components: those of sequences do not yet
abbrev pub IsOrdinaryInfix : InfixOp → Type 0
IsOrdinaryInfix Concatenation = ⊥
IsOrdinaryInfix Prepend = ⊥
IsOrdinaryInfix Append = ⊥
IsOrdinaryInfix _ = Unit {0}

-- none of the additions with which formulas are printed stands in the term: no $n, btrue, bfalse, {:T}, and no quantifier,
-- comprehension or lambda over numbered variables; of names at a level only x$0. And no sign or word of sequences
abbrev mutual
  pub HasNoAddition : RawTree → Type 0
  HasNoAddition (raw at node) = NodeHasNoAddition node

  pub NodeHasNoAddition : RawTreeNode → Type 0
  NodeHasNoAddition (raw_name text) = Unit {0}
  NodeHasNoAddition (raw_level_name text n) = n ≡ 0
  NodeHasNoAddition (raw_bound_name n) = ⊥
  NodeHasNoAddition (raw_number z) = Unit {0}
  NodeHasNoAddition (raw_constant c) = IsOrdinary c
  NodeHasNoAddition (raw_word o a) = HasNoAddition a × IsOrdinaryWord o
  NodeHasNoAddition (raw_negative a) = HasNoAddition a
  NodeHasNoAddition (raw_infix o a b) = HasNoAddition a × HasNoAddition b × IsOrdinaryInfix o
  NodeHasNoAddition (raw_inverse r) = HasNoAddition r
  NodeHasNoAddition (raw_image r s) = HasNoAddition r × HasNoAddition s
  NodeHasNoAddition (raw_apply f x) = HasNoAddition f × HasNoAddition x
  NodeHasNoAddition (raw_composition r s) = HasNoAddition r × HasNoAddition s
  NodeHasNoAddition (raw_pair a b) = HasNoAddition a × HasNoAddition b
  NodeHasNoAddition raw_empty_set = Unit {0}
  NodeHasNoAddition (raw_extension ts) = TreesHaveNoAddition ts
  NodeHasNoAddition (raw_comprehension xs p) = HasNoAddition p
  NodeHasNoAddition (raw_lambda xs p e) = HasNoAddition p × HasNoAddition e
  NodeHasNoAddition (raw_for_all xs p) = HasNoAddition p
  NodeHasNoAddition (raw_exists xs p) = HasNoAddition p
  NodeHasNoAddition (raw_typed_empty t) = ⊥
  NodeHasNoAddition (raw_typed_for_all bs p) = ⊥
  NodeHasNoAddition (raw_typed_exists bs p) = ⊥
  NodeHasNoAddition (raw_ranged_comprehension rs p) = ⊥
  NodeHasNoAddition (raw_ranged_lambda rs p e) = ⊥

  pub TreesHaveNoAddition : RawTrees → Type 0
  TreesHaveNoAddition no_trees = Unit {0}
  TreesHaveNoAddition (tree_and t ts) = HasNoAddition t × TreesHaveNoAddition ts

-- none stands in a term of the substitution
abbrev mutual
  pub SubHasNoAddition : SubTree → Type 0
  SubHasNoAddition (sub at node) = SubNodeHasNoAddition node

  pub SubNodeHasNoAddition : SubNode → Type 0
  SubNodeHasNoAddition sub_skip = Unit {0}
  SubNodeHasNoAddition (sub_assign xs ts) = TreesHaveNoAddition ts
  SubNodeHasNoAddition (sub_assign_at f x e) = HasNoAddition x × HasNoAddition e
  SubNodeHasNoAddition (sub_member x e) = HasNoAddition e
  SubNodeHasNoAddition (sub_such xs p) = HasNoAddition p
  SubNodeHasNoAddition (sub_call xs o ts) = TreesHaveNoAddition ts
  SubNodeHasNoAddition (sub_begin s) = SubHasNoAddition s
  SubNodeHasNoAddition (sub_pre p s) = HasNoAddition p × SubHasNoAddition s
  SubNodeHasNoAddition (sub_assert p s) = HasNoAddition p × SubHasNoAddition s
  SubNodeHasNoAddition (sub_if p s bs) = HasNoAddition p × SubHasNoAddition s × BranchesHaveNoAddition bs
  SubNodeHasNoAddition (sub_choice s cs) = SubHasNoAddition s × ChoicesHaveNoAddition cs
  SubNodeHasNoAddition (sub_select p s bs) = HasNoAddition p × SubHasNoAddition s × BranchesHaveNoAddition bs
  SubNodeHasNoAddition (sub_any xs p s) = HasNoAddition p × SubHasNoAddition s
  SubNodeHasNoAddition (sub_let xs p s) = HasNoAddition p × SubHasNoAddition s
  SubNodeHasNoAddition (sub_var xs s) = SubHasNoAddition s
  SubNodeHasNoAddition (sub_while p s i v) = HasNoAddition p × SubHasNoAddition s × HasNoAddition i × HasNoAddition v
  SubNodeHasNoAddition (sub_parallel s t) = SubHasNoAddition s × SubHasNoAddition t
  SubNodeHasNoAddition (sub_sequence s t) = SubHasNoAddition s × SubHasNoAddition t

  pub BranchesHaveNoAddition : Branches → Type 0
  BranchesHaveNoAddition no_branches = Unit {0}
  BranchesHaveNoAddition (else_branch s) = SubHasNoAddition s
  BranchesHaveNoAddition (branch_and p s bs) = HasNoAddition p × SubHasNoAddition s × BranchesHaveNoAddition bs

  pub ChoicesHaveNoAddition : Choices → Type 0
  ChoicesHaveNoAddition no_choices = Unit {0}
  ChoicesHaveNoAddition (choice_and s cs) = SubHasNoAddition s × ChoicesHaveNoAddition cs
