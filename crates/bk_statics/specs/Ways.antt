-- How the names that a component declares come to their types. Each number has a way to its type, and as many rounds as there are
-- numbers follow all ways: so a name may be typed by one that is typed later in the text. A type that a name has come to stays; names
-- that only wait for each other have none.
-- Source: B Language Reference Manual, typing.
use Rattle.std.specs.Prelude.{ℕ, zero, suc, ℤ, ◌+◌, ◌-◌, cond, nat_lt, List, [], ◌∷◌, ◌++◌, length, Option, None, Some}
use Rattle.std.specs.List.{slice_get}
use Rattle.bk_val.specs.ValueType.{ValueType}
use Rattle.bk_form.specs.Role.{bind}
use Rattle.bk_raw.specs.declared.term.RawName.{RawName}
use Rattle.bk_raw.specs.Trees.RawTree.{RawTree, RawTrees, no_trees, tree_and}
use Rattle.bk_raw.specs.Trees.SubTree.{SubTree, sub, SubNode, sub_skip, sub_assign, sub_assign_at, sub_member, sub_such, sub_begin, sub_pre}
use Rattle.bk_raw.specs.Trees.SubTree.{sub_assert, sub_if, sub_choice, sub_select, sub_any, sub_let, sub_var, sub_while, sub_parallel}
use Rattle.bk_raw.specs.Trees.SubTree.{sub_sequence, sub_call, Branches, no_branches, else_branch, branch_and}
use Rattle.bk_raw.specs.Trees.SubTree.{Choices, no_choices, choice_and}
use Rattle.bk_raw.specs.Meaning.Names.{Names}
use Rattle.bk_raw.specs.Meaning.Outcome.{ask_value, ask_domain}
use Rattle.bk_raw.specs.Meaning.Binders.{Bound, bound_names, second}
use Rattle.bk_raw.specs.Meaning.TermReading.{clues}
use Rattle.bk_statics.specs.Components.{or_next}
use Rattle.bk_statics.specs.Typings.{Typing, numbered, numbered_old, typed, target, is_variable, variable_named, outcome_of}
use Rattle.bk_statics.specs.Binders.{binder_count}

-- where a type comes from, with the names in scope there
pub data Way : Type 0 where
  -- from nowhere
  no_way : Way
  -- the type that a term gives
  by_term : Names → RawTree → Way
  -- the type over which a domain ranges
  by_domain : Names → RawTree → Way
  -- the first conjunct of a predicate that types it: the names of one group, and which of them it is
  by_conjuncts : Names → List RawName → ℕ → RawTree → Way
  -- the type of another number
  same_as : ℕ → Way

-- the type that a bound name has come to
abbrev pub bound_type : Option Bound → Option ValueType
bound_type None = None
bound_type (Some b) = b.of_type

-- the type that a way gives, from the types that are there
abbrev pub given_by : ℤ → Typing → Way → Option ValueType
given_by int_max typing no_way = None
given_by int_max typing (by_term names e) = second (ask_value 0 (outcome_of int_max typing names e)).answer
given_by int_max typing (by_domain names e) = second (ask_domain 0 (outcome_of int_max typing names e)).answer
given_by int_max typing (by_conjuncts names xs i p) = bound_type (slice_get (clues int_max (typed typing names) (bound_names xs) p) i)
given_by int_max typing (same_as m) = typing m

-- ---- groups of names
-- no way for each of so many
abbrev pub no_ways : {A : Type 0} → List A → List Way
no_ways [] = []
no_ways (x ∷ xs) = no_way ∷ no_ways xs

-- those of the names from the i-th of a group on, by the conjuncts of a predicate
abbrev pub conjunct_ways : Names → List RawName → RawTree → ℕ → List RawName → List Way
conjunct_ways names group p i [] = []
conjunct_ways names group p i (x ∷ xs) = by_conjuncts names group i p ∷ conjunct_ways names group p (suc i) xs

-- those of a group, by a predicate, if there is one
abbrev pub ways_by : Names → Option RawTree → List RawName → List Way
ways_by names None xs = no_ways xs
ways_by names (Some p) xs = conjunct_ways names xs p 0 xs

-- the way to the type of another number, if there is one
abbrev pub way_from : Option ℕ → Way
way_from None = no_way
way_from (Some m) = same_as m

-- ---- the first assignment in the text
-- of x, y := E, F: the term for the variable m, if it is written; without a term there is no type
abbrev pub among_terms : Names → ℕ → List RawName → RawTrees → Option Way
among_terms names m [] es = None
among_terms names m (x ∷ xs) (tree_and e es) =
    cond (is_variable m (target names x.text)) (Some (by_term names e)) (among_terms names m xs es)
among_terms names m (x ∷ xs) no_trees = cond (is_variable m (target names x.text)) (Some no_way) (among_terms names m xs no_trees)

-- of x, y :(P), with the names in scope in P
abbrev pub among_such : Names → Names → ℕ → List RawName → RawTree → Option Way
among_such names inner m [] p = None
among_such names inner m (x ∷ xs) p =
    cond (is_variable m (target names x.text)) (Some (by_conjuncts inner (x ∷ []) 0 p)) (among_such names inner m xs p)

-- the way of the first that writes the variable m, if one does; what is bound has the numbers from n on
abbrev mutual
  pub first_way : Names → ℕ → ℕ → SubTree → Option Way
  first_way names n m (sub at node) = first_in names n m node

  pub first_in : Names → ℕ → ℕ → SubNode → Option Way
  first_in names n m sub_skip = None
  first_in names n m (sub_call xs o ts) = None
  first_in names n m (sub_assign xs es) = among_terms names m xs es
  first_in names n m (sub_assign_at f e v) = cond (is_variable m (target names f.text)) (Some no_way) None
  first_in names n m (sub_member x e) = cond (is_variable m (target names x.text)) (Some (by_domain names e)) None
  first_in names n m (sub_such xs p) = among_such names (bind (numbered_old n xs) names) m xs p
  first_in names n m (sub_begin s) = first_way names n m s
  first_in names n m (sub_pre p s) = first_way names n m s
  first_in names n m (sub_assert p s) = first_way names n m s
  first_in names n m (sub_if p s bs) = or_next (first_way names n m s) (first_branch names (n + binder_count s) m bs)
  first_in names n m (sub_choice s cs) = or_next (first_way names n m s) (first_choice names (n + binder_count s) m cs)
  first_in names n m (sub_select p s bs) = or_next (first_way names n m s) (first_branch names (n + binder_count s) m bs)
  first_in names n m (sub_any xs p s) = first_way (bind (numbered n xs) names) (n + length xs) m s
  first_in names n m (sub_let xs p s) = first_way (bind (numbered n xs) names) (n + length xs) m s
  first_in names n m (sub_var xs s) = first_way (bind (numbered n xs) names) (n + length xs) m s
  first_in names n m (sub_while p s i v) = first_way names n m s
  first_in names n m (sub_parallel s t) = or_next (first_way names n m s) (first_way names (n + binder_count s) m t)
  first_in names n m (sub_sequence s t) = or_next (first_way names n m s) (first_way names (n + binder_count s) m t)

  pub first_branch : Names → ℕ → ℕ → Branches → Option Way
  first_branch names n m no_branches = None
  first_branch names n m (else_branch s) = first_way names n m s
  first_branch names n m (branch_and p s bs) = or_next (first_way names n m s) (first_branch names (n + binder_count s) m bs)

  pub first_choice : Names → ℕ → ℕ → Choices → Option Way
  first_choice names n m no_choices = None
  first_choice names n m (choice_and s cs) = or_next (first_way names n m s) (first_choice names (n + binder_count s) m cs)

-- a way, or none
abbrev pub or_no_way : Option Way → Way
or_no_way None = no_way
or_no_way (Some w) = w

-- of the numbers from m on, by their first assignments in a substitution that binds the numbers from n on
abbrev pub assigned_ways : Names → ℕ → SubTree → ℕ → List RawName → List Way
assigned_ways names n s m [] = []
assigned_ways names n s m (x ∷ xs) = or_no_way (first_way names n m s) ∷ assigned_ways names n s (suc m) xs

-- ---- what a substitution binds
-- what x :: E takes, and x$0 in x :(P), have the type of x
abbrev pub old_ways : Names → List RawName → List Way
old_ways names [] = []
old_ways names (x ∷ xs) = way_from (variable_named names x.text) ∷ old_ways names xs

-- the ways of all that it binds, in the order of the numbers: names of ANY and LET by their predicate, names of VAR by their first
-- assignment
abbrev mutual
  pub ways : Names → ℕ → SubTree → List Way
  ways names n (sub at node) = ways_in names n node

  pub ways_in : Names → ℕ → SubNode → List Way
  ways_in names n sub_skip = []
  ways_in names n (sub_call xs o ts) = []
  ways_in names n (sub_assign xs es) = []
  ways_in names n (sub_assign_at f e v) = []
  ways_in names n (sub_member x e) = old_ways names (x ∷ [])
  ways_in names n (sub_such xs p) = old_ways names xs
  ways_in names n (sub_begin s) = ways names n s
  ways_in names n (sub_pre p s) = ways names n s
  ways_in names n (sub_assert p s) = ways names n s
  ways_in names n (sub_if p s bs) = ways names n s ++ branches_ways names (n + binder_count s) bs
  ways_in names n (sub_choice s cs) = ways names n s ++ choices_ways names (n + binder_count s) cs
  ways_in names n (sub_select p s bs) = ways names n s ++ branches_ways names (n + binder_count s) bs
  ways_in names n (sub_any xs p s) = conjunct_ways names xs p 0 xs ++ ways (bind (numbered n xs) names) (n + length xs) s
  ways_in names n (sub_let xs p s) = conjunct_ways names xs p 0 xs ++ ways (bind (numbered n xs) names) (n + length xs) s
  ways_in names n (sub_var xs s) =
      assigned_ways (bind (numbered n xs) names) (n + length xs) s n xs ++ ways (bind (numbered n xs) names) (n + length xs) s
  ways_in names n (sub_while p s i v) = ways names n s
  ways_in names n (sub_parallel s t) = ways names n s ++ ways names (n + binder_count s) t
  ways_in names n (sub_sequence s t) = ways names n s ++ ways names (n + binder_count s) t

  pub branches_ways : Names → ℕ → Branches → List Way
  branches_ways names n no_branches = []
  branches_ways names n (else_branch s) = ways names n s
  branches_ways names n (branch_and p s bs) = ways names n s ++ branches_ways names (n + binder_count s) bs

  pub choices_ways : Names → ℕ → Choices → List Way
  choices_ways names n no_choices = []
  choices_ways names n (choice_and s cs) = ways names n s ++ choices_ways names (n + binder_count s) cs

-- ---- the types
-- the i-th way
abbrev pub way_at : List Way → ℕ → Way
way_at ws i = or_no_way (slice_get ws i)

-- the numbers from n on by their ways, but for those that have a type, which keep it
abbrev pub next_types : ℤ → ℕ → List Way → Typing → Typing
next_types int_max n ws typing m = cond (nat_lt m n) (typing m)
    (cond (nat_lt m (n + length ws)) (or_next (typing m) (given_by int_max typing (way_at ws (m - n)))) (typing m))

-- so many rounds
abbrev pub rounds : ℕ → ℤ → ℕ → List Way → Typing → Typing
rounds zero int_max n ws typing = typing
rounds (suc k) int_max n ws typing = next_types int_max n ws (rounds k int_max n ws typing)

-- as many rounds as there are names: each but the last types a name more, so another would change nothing
abbrev pub settled : ℤ → ℕ → List Way → Typing → Typing
settled int_max n ws typing = rounds (length ws) int_max n ws typing
