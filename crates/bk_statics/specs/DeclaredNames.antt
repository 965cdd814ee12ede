-- How many names a component declares: sets, elements, constants, variables, operations, inputs, outputs, and every name of a binding
-- list, in terms too; but none of VALUES.
use Rattle.std.specs.Prelude.{ℕ, ◌+◌, Bool, nat_lt, List, [], ◌∷◌, length, Option, None, Some}
use Rattle.bk_limits.specs.declared.TheConstants.{MOST_NAMES}
use Rattle.bk_raw.specs.Trees.RawTree.{RawTree, raw, RawTreeNode, raw_name, raw_level_name, raw_bound_name, raw_number, raw_constant}
use Rattle.bk_raw.specs.Trees.RawTree.{raw_word, raw_negative, raw_infix, raw_inverse, raw_image, raw_apply, raw_composition}
use Rattle.bk_raw.specs.Trees.RawTree.{raw_pair, raw_empty_set, raw_extension, raw_comprehension, raw_lambda, raw_for_all, raw_exists}
use Rattle.bk_raw.specs.Trees.RawTree.{raw_typed_empty, raw_typed_for_all, raw_typed_exists, raw_ranged_comprehension, raw_ranged_lambda}
use Rattle.bk_raw.specs.Trees.RawTree.{RawTrees, no_trees, tree_and, RawRanges, no_ranges, range_and}
use Rattle.bk_raw.specs.Trees.SubTree.{SubTree, sub, SubNode, sub_skip, sub_assign, sub_assign_at, sub_member, sub_such, sub_begin, sub_pre}
use Rattle.bk_raw.specs.Trees.SubTree.{sub_assert, sub_if, sub_choice, sub_select, sub_any, sub_let, sub_var, sub_while, sub_parallel}
use Rattle.bk_raw.specs.Trees.SubTree.{sub_sequence, sub_call, Branches, no_branches, else_branch, branch_and}
use Rattle.bk_raw.specs.Trees.SubTree.{Choices, no_choices, choice_and}
use Rattle.bk_raw.specs.Trees.ComponentTree.{RawOperation}
use Rattle.bk_statics.specs.Components.{Component}

abbrev mutual
  -- the names that quantifiers, comprehensions and lambdas in a term bind
  pub term_names : RawTree → ℕ
  term_names (raw at node) = node_names node

  pub node_names : RawTreeNode → ℕ
  node_names (raw_name x) = 0
  node_names (raw_level_name x n) = 0
  node_names (raw_bound_name n) = 0
  node_names (raw_number z) = 0
  node_names (raw_constant c) = 0
  node_names (raw_word o a) = term_names a
  node_names (raw_negative a) = term_names a
  node_names (raw_infix o a b) = term_names a + term_names b
  node_names (raw_inverse r) = term_names r
  node_names (raw_image r s) = term_names r + term_names s
  node_names (raw_apply f e) = term_names f + term_names e
  node_names (raw_composition r s) = term_names r + term_names s
  node_names (raw_pair a b) = term_names a + term_names b
  node_names raw_empty_set = 0
  node_names (raw_extension ts) = all_term_names ts
  node_names (raw_comprehension xs p) = length xs + term_names p
  node_names (raw_lambda xs p e) = length xs + (term_names p + term_names e)
  node_names (raw_for_all xs p) = length xs + term_names p
  node_names (raw_exists xs p) = length xs + term_names p
  node_names (raw_typed_empty t) = 0
  node_names (raw_typed_for_all bs p) = term_names p
  node_names (raw_typed_exists bs p) = term_names p
  node_names (raw_ranged_comprehension rs p) = ranges_names rs + term_names p
  node_names (raw_ranged_lambda rs p e) = ranges_names rs + (term_names p + term_names e)

  pub all_term_names : RawTrees → ℕ
  all_term_names no_trees = 0
  all_term_names (tree_and t ts) = term_names t + all_term_names ts

  pub ranges_names : RawRanges → ℕ
  ranges_names no_ranges = 0
  ranges_names (range_and at n d rs) = term_names d + ranges_names rs

abbrev mutual
  -- the names that ANY, LET and VAR and the terms of a substitution bind
  pub sub_names : SubTree → ℕ
  sub_names (sub at node) = sub_node_names node

  pub sub_node_names : SubNode → ℕ
  sub_node_names sub_skip = 0
  sub_node_names (sub_call xs o ts) = all_term_names ts
  sub_node_names (sub_assign xs es) = all_term_names es
  sub_node_names (sub_assign_at f e v) = term_names e + term_names v
  sub_node_names (sub_member x e) = term_names e
  sub_node_names (sub_such xs p) = term_names p
  sub_node_names (sub_begin s) = sub_names s
  sub_node_names (sub_pre p s) = term_names p + sub_names s
  sub_node_names (sub_assert p s) = term_names p + sub_names s
  sub_node_names (sub_if p s bs) = term_names p + (sub_names s + branches_names bs)
  sub_node_names (sub_choice s cs) = sub_names s + choices_names cs
  sub_node_names (sub_select p s bs) = term_names p + (sub_names s + branches_names bs)
  sub_node_names (sub_any xs p s) = length xs + (term_names p + sub_names s)
  sub_node_names (sub_let xs p s) = length xs + (term_names p + sub_names s)
  sub_node_names (sub_var xs s) = length xs + sub_names s
  sub_node_names (sub_while p s i v) = term_names p + (sub_names s + (term_names i + term_names v))
  sub_node_names (sub_parallel s t) = sub_names s + sub_names t
  sub_node_names (sub_sequence s t) = sub_names s + sub_names t

  pub branches_names : Branches → ℕ
  branches_names no_branches = 0
  branches_names (else_branch s) = sub_names s
  branches_names (branch_and p s bs) = term_names p + (sub_names s + branches_names bs)

  pub choices_names : Choices → ℕ
  choices_names no_choices = 0
  choices_names (choice_and s cs) = sub_names s + choices_names cs

-- those of what is there
abbrev pub if_there : {A : Type 0} → (A → ℕ) → Option A → ℕ
if_there count None = 0
if_there count (Some x) = count x

-- those of all
abbrev pub sum_of : {A : Type 0} → (A → ℕ) → List A → ℕ
sum_of count [] = 0
sum_of count (x ∷ xs) = count x + sum_of count xs

-- an operation's own name, its inputs and outputs, and the names in its body
abbrev pub operation_count : RawOperation → ℕ
operation_count o = 1 + (length o.inputs + (length o.outputs + sub_names o.body))

-- the names that a component declares
abbrev pub declared_count : Component → ℕ
declared_count c =
    length c.declared
    + (if_there term_names c.properties
    + (if_there term_names c.invariant
    + (sum_of term_names c.assertions
    + (if_there sub_names c.init + sum_of operation_count c.operations))))

-- the greatest number of names
abbrev pub most_names : ℕ
most_names = MOST_NAMES

-- whether there are more: limit 5
abbrev pub declares_too_many : Component → Bool
declares_too_many c = nat_lt most_names (declared_count c)
