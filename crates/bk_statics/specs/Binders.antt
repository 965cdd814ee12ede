-- What a written substitution binds: names of ANY, LET and VAR, the value that x :: E takes, and the old values x$0 of x :(P). Each has
-- one number, in the order of the text.
use Rattle.std.specs.Prelude.{ℕ, ◌+◌, List, [], ◌∷◌, ◌++◌, length}
use Rattle.bk_raw.specs.declared.term.RawName.{RawName}
use Rattle.bk_raw.specs.Trees.SubTree.{SubTree, sub, SubNode, sub_skip, sub_assign, sub_assign_at, sub_member, sub_such, sub_begin, sub_pre}
use Rattle.bk_raw.specs.Trees.SubTree.{sub_assert, sub_if, sub_choice, sub_select, sub_any, sub_let, sub_var, sub_while, sub_parallel}
use Rattle.bk_raw.specs.Trees.SubTree.{sub_sequence, sub_call, Branches, no_branches, else_branch, branch_and}
use Rattle.bk_raw.specs.Trees.SubTree.{Choices, no_choices, choice_and}
use Rattle.bk_raw.specs.Meaning.Names.{level_name}

-- how much it binds
abbrev mutual
  pub binder_count : SubTree → ℕ
  binder_count (sub at node) = count_in node

  pub count_in : SubNode → ℕ
  count_in sub_skip = 0
  count_in (sub_call xs o ts) = 0
  count_in (sub_assign xs es) = 0
  count_in (sub_assign_at f x e) = 0
  count_in (sub_member x e) = 1
  count_in (sub_such xs p) = length xs
  count_in (sub_begin s) = binder_count s
  count_in (sub_pre p s) = binder_count s
  count_in (sub_assert p s) = binder_count s
  count_in (sub_if p s bs) = binder_count s + branches_count bs
  count_in (sub_choice s cs) = binder_count s + choices_count cs
  count_in (sub_select p s bs) = binder_count s + branches_count bs
  count_in (sub_any xs p s) = length xs + binder_count s
  count_in (sub_let xs p s) = length xs + binder_count s
  count_in (sub_var xs s) = length xs + binder_count s
  count_in (sub_while p s i v) = binder_count s
  count_in (sub_parallel s t) = binder_count s + binder_count t
  count_in (sub_sequence s t) = binder_count s + binder_count t

  pub branches_count : Branches → ℕ
  branches_count no_branches = 0
  branches_count (else_branch s) = binder_count s
  branches_count (branch_and p s bs) = binder_count s + branches_count bs

  pub choices_count : Choices → ℕ
  choices_count no_choices = 0
  choices_count (choice_and s cs) = binder_count s + choices_count cs

-- the names as they are written
abbrev pub texts : List RawName → List (List ℕ)
texts [] = []
texts (x ∷ xs) = x.text ∷ texts xs

-- x$0 of each
abbrev pub old_texts : List RawName → List (List ℕ)
old_texts [] = []
old_texts (x ∷ xs) = level_name x.text 0 ∷ old_texts xs

-- the texts of all that it binds
abbrev mutual
  pub binder_texts : SubTree → List (List ℕ)
  binder_texts (sub at node) = texts_in node

  pub texts_in : SubNode → List (List ℕ)
  texts_in sub_skip = []
  texts_in (sub_call xs o ts) = []
  texts_in (sub_assign xs es) = []
  texts_in (sub_assign_at f x e) = []
  texts_in (sub_member x e) = x.text ∷ []
  texts_in (sub_such xs p) = old_texts xs
  texts_in (sub_begin s) = binder_texts s
  texts_in (sub_pre p s) = binder_texts s
  texts_in (sub_assert p s) = binder_texts s
  texts_in (sub_if p s bs) = binder_texts s ++ branches_texts bs
  texts_in (sub_choice s cs) = binder_texts s ++ choices_texts cs
  texts_in (sub_select p s bs) = binder_texts s ++ branches_texts bs
  texts_in (sub_any xs p s) = texts xs ++ binder_texts s
  texts_in (sub_let xs p s) = texts xs ++ binder_texts s
  texts_in (sub_var xs s) = texts xs ++ binder_texts s
  texts_in (sub_while p s i v) = binder_texts s
  texts_in (sub_parallel s t) = binder_texts s ++ binder_texts t
  texts_in (sub_sequence s t) = binder_texts s ++ binder_texts t

  pub branches_texts : Branches → List (List ℕ)
  branches_texts no_branches = []
  branches_texts (else_branch s) = binder_texts s
  branches_texts (branch_and p s bs) = binder_texts s ++ branches_texts bs

  pub choices_texts : Choices → List (List ℕ)
  choices_texts no_choices = []
  choices_texts (choice_and s cs) = binder_texts s ++ choices_texts cs
