-- From a substitution as it is written to one whose names are resolved. What it binds has the next free numbers, in the order of the
-- text; an inner name hides an outer one. `x$0` is visible in the predicate of `x :( P )` alone; the invariant and the variant of a loop
-- see the variables of the level above too.
-- Source: B Language Reference Manual, visibility; the numbers are this project's.
use Rattle.std.specs.Prelude.{ℕ, suc, ◌+◌, List, [], ◌∷◌, ◌++◌, map, length}
use Rattle.bk_raw.specs.declared.term.RawName.{RawName}
use Rattle.bk_raw.specs.Trees.RawTree.{RawTree, RawTrees, no_trees, tree_and}
use Rattle.bk_raw.specs.Trees.SubTree.{SubTree, sub, sub_skip, sub_assign, sub_assign_at, sub_member, sub_such, sub_call}
use Rattle.bk_raw.specs.Trees.SubTree.{sub_begin, sub_pre, sub_assert, sub_if, sub_choice, sub_select, sub_any, sub_let}
use Rattle.bk_raw.specs.Trees.SubTree.{sub_var, sub_while, sub_parallel, sub_sequence, Branches, no_branches, else_branch, branch_and}
use Rattle.bk_raw.specs.Trees.SubTree.{Choices, no_choices, choice_and}
use Rattle.bk_raw.specs.Meaning.Names.{Names, level_name}
use Rattle.bk_statics.specs.Typings.{unknown, target}
use Rattle.bk_phases.specs.Scope.{Local, with_numbers, in_scope, Written, written}
use Rattle.bk_phases.specs.Term.{Term, a_predicate, a_number, value_for, domain_for, index_for, element_for, placed}
use Rattle.bk_phases.specs.Statement.{Statement, skip_at, assign_at, update_at, member_at, such_at, call_at, pre_at, assert_at, if_at}
use Rattle.bk_phases.specs.Statement.{guard_at, choice_at, else_at, branches_at, any_at, var_at, loop_at, par_at, seq_at, locals_of}

-- where a substitution stands: the names in scope, those that a loop's invariant and variant see besides, and the next free number
pub record Scope : Type 0 where
  pub names : Names
  pub above : Names
  pub next : ℕ

-- these names, with the next numbers
abbrev pub declared : Scope → List RawName → List Local
declared c xs = with_numbers c.next xs

-- the scope with these names, which have the next numbers, in front
abbrev pub inside : List Local → Scope → Scope
inside zs c = record { names = in_scope zs ++ c.names; above = c.above; next = c.next + length zs }

-- the scope after a substitution, whose names are no longer visible
abbrev pub after : Statement → Scope → Scope
after s c = record { names = c.names; above = c.above; next = c.next + length (locals_of s) }

-- a predicate there
abbrev pub holds : Scope → RawTree → Term
holds c p = placed c.names a_predicate p

-- what a loop's invariant and variant see
abbrev pub seen_by_loops : Scope → Names
seen_by_loops c = c.names ++ c.above

-- the terms of x, y := E, F, each for the name before it; for none, where there are more terms than names
abbrev pub values_for : Names → List RawName → RawTrees → List Term
values_for names xs no_trees = []
values_for names [] (tree_and e es) = placed names (value_for unknown) e ∷ values_for names [] es
values_for names (x ∷ xs) (tree_and e es) = placed names (value_for (target names x.text)) e ∷ values_for names xs es

-- f(e) := v
abbrev pub update : ℕ → Names → Written → RawTree → RawTree → Statement
update at names f e v = update_at at f (placed names (index_for f) e) (placed names (element_for f) v)

-- x :: E, where the element that is taken has the next number
abbrev pub member : ℕ → Scope → RawName → RawTree → Statement
member at c x e =
    member_at at (written c.names x) (record { name = x; number = c.next }) (placed c.names (domain_for (target c.names x.text)) e)

-- x$0
abbrev pub old_name : RawName → RawName
old_name x = record { at = x.at; text = level_name x.text 0 }

-- x$0, which has the number n
abbrev pub old_value : ℕ → RawName → Local
old_value n x = record { name = old_name x; number = n }

-- each name with what stands for x$0, which have the numbers from n on
abbrev pub with_old : Names → ℕ → List RawName → List (Written × Local)
with_old names n [] = []
with_old names n (x ∷ xs) = (written names x, old_value n x) ∷ with_old names (suc n) xs

-- x, y :( P )
abbrev pub such_that : ℕ → Scope → List RawName → RawTree → Statement
such_that at c xs p = such_at at (with_old c.names c.next xs) (holds (inside (declared c (map old_name xs)) c) p)

abbrev mutual
  -- the substitution in this scope
  pub resolved : Scope → SubTree → Statement
  resolved c (sub at sub_skip) = skip_at at
  resolved c (sub at (sub_assign xs es)) = assign_at at (map (written c.names) xs) (values_for c.names xs es)
  resolved c (sub at (sub_assign_at f e v)) = update at c.names (written c.names f) e v
  resolved c (sub at (sub_member x e)) = member at c x e
  resolved c (sub at (sub_such xs p)) = such_that at c xs p
  resolved c (sub at (sub_call xs o es)) = call_at at (values_for c.names [] es)
  resolved c (sub at (sub_begin s)) = resolved c s
  resolved c (sub at (sub_pre p s)) = pre_at at (holds c p) (resolved c s)
  resolved c (sub at (sub_assert p s)) = assert_at at (holds c p) (resolved c s)
  resolved c (sub at (sub_if p s bs)) = let one = resolved c s in if_at at (holds c p) one (resolved_else at (after one c) bs)
  resolved c (sub at (sub_choice s cs)) = let one = resolved c s in branches_at at (resolved_choices at (after one c) one cs)
  resolved c (sub at (sub_select p s bs)) = let one = resolved c s in resolved_branches at (after one c) (guard_at at (holds c p) one) bs
  resolved c (sub at (sub_any xs p s)) = let d = inside (declared c xs) c in any_at at (declared c xs) (holds d p) (resolved d s)
  resolved c (sub at (sub_let xs p s)) = let d = inside (declared c xs) c in any_at at (declared c xs) (holds d p) (resolved d s)
  resolved c (sub at (sub_var xs s)) = var_at at (declared c xs) (resolved (inside (declared c xs) c) s)
  resolved c (sub at (sub_while p s i v)) =
      loop_at at (holds c p) (resolved c s) (placed (seen_by_loops c) a_predicate i) (placed (seen_by_loops c) a_number v)
  resolved c (sub at (sub_parallel s t)) = let one = resolved c s in par_at at one (resolved (after one c) t)
  resolved c (sub at (sub_sequence s t)) = let one = resolved c s in seq_at at one (resolved (after one c) t)

  -- what an IF does where no condition before these branches is true: ELSIF nests, and a missing ELSE is skip
  pub resolved_else : ℕ → Scope → Branches → Statement
  resolved_else at c no_branches = skip_at at
  resolved_else at c (else_branch s) = resolved c s
  resolved_else at c (branch_and p s bs) = let one = resolved c s in if_at at (holds c p) one (resolved_else at (after one c) bs)

  -- the branches of CHOICE after the first ones, joined to the left
  pub resolved_choices : ℕ → Scope → Statement → Choices → Statement
  resolved_choices at c before no_choices = before
  resolved_choices at c before (choice_and s cs) =
      let one = resolved c s in
      resolved_choices at (after one c) (choice_at at before one) cs

  -- the branches of SELECT after the first ones, joined to the left
  pub resolved_branches : ℕ → Scope → Statement → Branches → Statement
  resolved_branches at c before no_branches = before
  resolved_branches at c before (else_branch s) = else_at at before (resolved c s)
  resolved_branches at c before (branch_and p s bs) =
      let one = resolved c s in
      resolved_branches at (after one c) (choice_at at before (guard_at at (holds c p) one)) bs
