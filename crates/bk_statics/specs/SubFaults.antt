-- The faults of a written substitution: of names, of formulas and of writes. Where it may stand is asked by itself.
-- Source: B Language Reference Manual; the places are this project's.
use Rattle.std.specs.Prelude.{ℕ, suc, ℤ, ◌+◌, Bool, true, false, cond, not, ◌||◌, List, [], ◌∷◌, ◌++◌, length, Option, None, Some}
use Rattle.std.specs.List.{filter}
use Rattle.bk_val.specs.ValueType.{ValueType, int_type, pair_type, set_type}
use Rattle.bk_form.specs.Formula.{Formula}
use Rattle.bk_form.specs.Role.{bind, same_type}
use Rattle.bk_gsl.specs.State.{among, firsts}
use Rattle.bk_raw.specs.declared.term.RawName.{RawName}
use Rattle.bk_raw.specs.Trees.RawTree.{RawTree, RawTrees, no_trees, tree_and}
use Rattle.bk_raw.specs.Trees.SubTree.{SubTree, sub, SubNode, sub_skip, sub_assign, sub_assign_at, sub_member, sub_such, sub_begin, sub_pre}
use Rattle.bk_raw.specs.Trees.SubTree.{sub_assert, sub_if, sub_choice, sub_select, sub_any, sub_let, sub_var, sub_while, sub_parallel}
use Rattle.bk_raw.specs.Trees.SubTree.{sub_sequence, sub_call, Branches, no_branches, else_branch, branch_and}
use Rattle.bk_raw.specs.Trees.SubTree.{Choices, no_choices, choice_and}
use Rattle.bk_raw.specs.Meaning.Names.{Names}
use Rattle.bk_raw.specs.Meaning.Outcome.{no_type, ask, ask_value, ask_domain}
use Rattle.bk_raw.specs.Meaning.Binders.{twice, has_type}
use Rattle.bk_raw.specs.Meaning.TermReading.{place_of}
use Rattle.bk_raw.specs.Errors.Faults.{Fault, twice_named, unknown_name, without_type, wrong_write}
use Rattle.bk_statics.specs.Typings.{Typing, interval, numbered, numbered_old, Target, unknown, no_variable, variable_target}
use Rattle.bk_statics.specs.Typings.{target, number_of, type_at, predicate_reading, term_reading, outcome_of}
use Rattle.bk_statics.specs.Binders.{binder_count}

-- ---- formulas
-- those of a predicate
abbrev pub predicate_faults : ℤ → Typing → Names → RawTree → List Fault
predicate_faults int_max typing names p = (predicate_reading int_max typing names p).faults

-- those in an expression
abbrev pub value_faults : ℤ → Typing → Names → RawTree → List Fault
value_faults int_max typing names e = (term_reading int_max typing names e).faults

-- those of a term that takes a type, or that is a value of any where the place has none
abbrev pub term_faults : ℤ → Typing → Names → Option ValueType → RawTree → List Fault
term_faults int_max typing names None e =
    value_faults int_max typing names e ++ (ask_value (place_of e) (outcome_of int_max typing names e)).faults
term_faults int_max typing names (Some t) e =
    value_faults int_max typing names e ++ (ask (place_of e) (outcome_of int_max typing names e) t).faults

-- those of a domain
abbrev pub domain_faults : ℤ → Typing → Names → RawTree → List Fault
domain_faults int_max typing names e =
    value_faults int_max typing names e ++ (ask_domain (place_of e) (outcome_of int_max typing names e)).faults

-- ---- written names
-- unless the variable may be written
abbrev pub writable_faults : Bool → ℕ → List Fault
writable_faults true at = []
writable_faults false at = wrong_write at ∷ []

-- a name that is not visible, or that is none of a variable that may be written
abbrev pub target_faults : (ℕ → Bool) → ℕ → Target → List Fault
target_faults writable at unknown = unknown_name at ∷ []
target_faults writable at no_variable = wrong_write at ∷ []
target_faults writable at (variable_target n) = writable_faults (writable n) at

-- whether the variable stands before
abbrev pub is_again : List ℕ → Target → Bool
is_again before (variable_target n) = among before n
is_again before _ = false

-- the variables before, and this one
abbrev pub with_target : Target → List ℕ → List ℕ
with_target (variable_target n) before = n ∷ before
with_target _ before = before

-- each written name, and each name of a variable that stands before
abbrev pub left_faults : Names → (ℕ → Bool) → List ℕ → List RawName → List Fault
left_faults names writable before [] = []
left_faults names writable before (x ∷ xs) =
    target_faults writable x.at (target names x.text) ++ (cond (is_again before (target names x.text)) (wrong_write x.at ∷ []) []
    ++ left_faults names writable (with_target (target names x.text) before) xs)

-- x, y := E, F: each term takes its variable's type; lists of different length are at fault at the first name
abbrev pub assign_faults : ℤ → Typing → Names → ℕ → List RawName → RawTrees → List Fault
assign_faults int_max typing names first [] no_trees = []
assign_faults int_max typing names first (x ∷ xs) (tree_and e es) =
    term_faults int_max typing names (type_at typing (target names x.text)) e ++ assign_faults int_max typing names first xs es
assign_faults int_max typing names first (x ∷ xs) no_trees = wrong_write first ∷ []
assign_faults int_max typing names first [] (tree_and e es) =
    wrong_write first ∷ (term_faults int_max typing names None e ++ assign_faults int_max typing names first [] es)

-- where the first name stands
abbrev pub first_place : List RawName → ℕ
first_place [] = 0
first_place (x ∷ xs) = x.at

-- f(e) := v: f is a relation, and e and v take its types
abbrev pub put_faults : ℤ → Typing → Names → ℕ → Option ValueType → RawTree → RawTree → List Fault
put_faults int_max typing names at (Some (set_type (pair_type t u))) e v =
    term_faults int_max typing names (Some t) e ++ term_faults int_max typing names (Some u) v
put_faults int_max typing names at None e v = term_faults int_max typing names None e ++ term_faults int_max typing names None v
put_faults int_max typing names at (Some _) e v =
    no_type at ++ (term_faults int_max typing names None e ++ term_faults int_max typing names None v)

-- whether it is the type, where there is one
abbrev pub same_or_none : Option ValueType → ValueType → Bool
same_or_none None u = true
same_or_none (Some t) u = same_type t u

-- x :: E: E ranges over the type of x
abbrev pub over_faults : ℕ → Option ValueType → Option (Formula × ValueType) → List Fault
over_faults at t None = []
over_faults at t (Some d) = cond (same_or_none t d.1) [] (no_type at)

-- whether the second is the first, where there is a first
abbrev pub is_same_option : Option ValueType → Option ValueType → Bool
is_same_option None u = true
is_same_option (Some t) None = false
is_same_option (Some t) (Some u) = same_type t u

-- the numbers from n on are those of bound names: those without a type
abbrev pub declared_faults : Typing → ℕ → List RawName → List Fault
declared_faults typing n [] = []
declared_faults typing n (x ∷ xs) = cond (has_type (typing n)) [] (no_type x.at) ++ declared_faults typing (suc n) xs

-- the old value of a variable that has a type has the same one (it always
-- does, since its way is that of the variable: nothing is told here)
abbrev pub old_faults : Typing → Names → ℕ → List RawName → List Fault
old_faults typing names n [] = []
old_faults typing names n (x ∷ xs) =
    cond (is_same_option (type_at typing (target names x.text)) (typing n)) [] (no_type x.at) ++ old_faults typing names (suc n) xs

-- ---- what is written, without what is bound within
-- the variables of written names, each with the place of the name (a name of no variable is at fault by itself)
abbrev pub written_names : Names → List RawName → List (ℕ × ℕ)
written_names names [] = []
written_names names (x ∷ xs) = (number_of (target names x.text), x.at) ∷ written_names names xs

-- the writes to other variables than k from n on
abbrev pub outside : ℕ → ℕ → List (ℕ × ℕ) → List (ℕ × ℕ)
outside n k ws = filter (λ w. not (among (interval n k) w.0)) ws

-- the variables that a substitution writes, each with the place of the name; what is bound has the numbers from n on
abbrev mutual
  pub written_in : Names → ℕ → SubTree → List (ℕ × ℕ)
  written_in names n (sub at node) = written_by names n node

  pub written_by : Names → ℕ → SubNode → List (ℕ × ℕ)
  written_by names n sub_skip = []
  written_by names n (sub_call xs o ts) = []
  written_by names n (sub_assign xs es) = written_names names xs
  written_by names n (sub_assign_at f e v) = written_names names (f ∷ [])
  written_by names n (sub_member x e) = written_names names (x ∷ [])
  written_by names n (sub_such xs p) = written_names names xs
  written_by names n (sub_begin s) = written_in names n s
  written_by names n (sub_pre p s) = written_in names n s
  written_by names n (sub_assert p s) = written_in names n s
  written_by names n (sub_if p s bs) = written_in names n s ++ branches_written names (n + binder_count s) bs
  written_by names n (sub_choice s cs) = written_in names n s ++ choices_written names (n + binder_count s) cs
  written_by names n (sub_select p s bs) = written_in names n s ++ branches_written names (n + binder_count s) bs
  written_by names n (sub_any xs p s) = outside n (length xs) (written_in (bind (numbered n xs) names) (n + length xs) s)
  written_by names n (sub_let xs p s) = outside n (length xs) (written_in (bind (numbered n xs) names) (n + length xs) s)
  written_by names n (sub_var xs s) = outside n (length xs) (written_in (bind (numbered n xs) names) (n + length xs) s)
  written_by names n (sub_while p s i v) = written_in names n s
  written_by names n (sub_parallel s t) = written_in names n s ++ written_in names (n + binder_count s) t
  written_by names n (sub_sequence s t) = written_in names n s ++ written_in names (n + binder_count s) t

  pub branches_written : Names → ℕ → Branches → List (ℕ × ℕ)
  branches_written names n no_branches = []
  branches_written names n (else_branch s) = written_in names n s
  branches_written names n (branch_and p s bs) = written_in names n s ++ branches_written names (n + binder_count s) bs

  pub choices_written : Names → ℕ → Choices → List (ℕ × ℕ)
  choices_written names n no_choices = []
  choices_written names n (choice_and s cs) = written_in names n s ++ choices_written names (n + binder_count s) cs

-- what both sides of || write: each name on the right whose variable the left writes
abbrev pub shared_faults : List ℕ → List (ℕ × ℕ) → List Fault
shared_faults left [] = []
shared_faults left (w ∷ ws) = cond (among left w.0) (wrong_write w.1 ∷ []) [] ++ shared_faults left ws

-- ---- substitutions
-- whether a variable may be written where k from n on are bound
abbrev pub writable_within : ℕ → ℕ → (ℕ → Bool) → ℕ → Bool
writable_within n k writable m = among (interval n k) m || writable m

abbrev mutual
  -- under names in scope, of which some variables may be written; what is bound has the numbers from n on, and invariants and variants
  -- of loops see the names above besides
  pub sub_faults : ℤ → Typing → Names → Names → (ℕ → Bool) → ℕ → SubTree → List Fault
  sub_faults int_max typing above names writable n (sub at node) = node_faults int_max typing above names writable n node

  pub node_faults : ℤ → Typing → Names → Names → (ℕ → Bool) → ℕ → SubNode → List Fault
  node_faults int_max typing above names writable n sub_skip = []
  node_faults int_max typing above names writable n (sub_call xs o ts) = []
  node_faults int_max typing above names writable n (sub_assign xs es) =
      left_faults names writable [] xs ++ assign_faults int_max typing names (first_place xs) xs es
  node_faults int_max typing above names writable n (sub_assign_at f e v) =
      left_faults names writable [] (f ∷ []) ++ put_faults int_max typing names f.at (type_at typing (target names f.text)) e v
  node_faults int_max typing above names writable n (sub_member x e) =
      left_faults names writable [] (x ∷ [])
      ++ (old_faults typing names n (x ∷ [])
      ++ (domain_faults int_max typing names e
      ++ over_faults x.at (type_at typing (target names x.text)) (ask_domain (place_of e) (outcome_of int_max typing names e)).answer))
  node_faults int_max typing above names writable n (sub_such xs p) = left_faults names writable [] xs
      ++ (old_faults typing names n xs ++ predicate_faults int_max typing (bind (numbered_old n xs) names) p)
  node_faults int_max typing above names writable n (sub_begin s) = sub_faults int_max typing above names writable n s
  node_faults int_max typing above names writable n (sub_pre p s) =
      predicate_faults int_max typing names p ++ sub_faults int_max typing above names writable n s
  node_faults int_max typing above names writable n (sub_assert p s) =
      predicate_faults int_max typing names p ++ sub_faults int_max typing above names writable n s
  node_faults int_max typing above names writable n (sub_if p s bs) =
      predicate_faults int_max typing names p
      ++ (sub_faults int_max typing above names writable n s ++ branches_faults int_max typing above names writable (n + binder_count s) bs)
  node_faults int_max typing above names writable n (sub_choice s cs) =
      sub_faults int_max typing above names writable n s ++ choices_faults int_max typing above names writable (n + binder_count s) cs
  node_faults int_max typing above names writable n (sub_select p s bs) =
      predicate_faults int_max typing names p
      ++ (sub_faults int_max typing above names writable n s ++ branches_faults int_max typing above names writable (n + binder_count s) bs)
  node_faults int_max typing above names writable n (sub_any xs p s) =
      twice [] xs
      ++ (declared_faults typing n xs
      ++ (predicate_faults int_max typing (bind (numbered n xs) names) p
      ++ sub_faults int_max typing above (bind (numbered n xs) names) (writable_within n (length xs) writable) (n + length xs) s))
  node_faults int_max typing above names writable n (sub_let xs p s) =
      twice [] xs
      ++ (declared_faults typing n xs
      ++ (predicate_faults int_max typing (bind (numbered n xs) names) p
      ++ sub_faults int_max typing above (bind (numbered n xs) names) (writable_within n (length xs) writable) (n + length xs) s))
  node_faults int_max typing above names writable n (sub_var xs s) =
      twice [] xs ++ (declared_faults typing n xs
      ++ sub_faults int_max typing above (bind (numbered n xs) names) (writable_within n (length xs) writable) (n + length xs) s)
  node_faults int_max typing above names writable n (sub_while p s i v) =
      predicate_faults int_max typing names p
      ++ (sub_faults int_max typing above names writable n s
      ++ (predicate_faults int_max typing (names ++ above) i ++ term_faults int_max typing (names ++ above) (Some int_type) v))
  node_faults int_max typing above names writable n (sub_parallel s t) =
      sub_faults int_max typing above names writable n s
      ++ (sub_faults int_max typing above names writable (n + binder_count s) t
      ++ shared_faults (firsts (written_in names n s)) (written_in names (n + binder_count s) t))
  node_faults int_max typing above names writable n (sub_sequence s t) =
      sub_faults int_max typing above names writable n s ++ sub_faults int_max typing above names writable (n + binder_count s) t

  pub branches_faults : ℤ → Typing → Names → Names → (ℕ → Bool) → ℕ → Branches → List Fault
  branches_faults int_max typing above names writable n no_branches = []
  branches_faults int_max typing above names writable n (else_branch s) = sub_faults int_max typing above names writable n s
  branches_faults int_max typing above names writable n (branch_and p s bs) =
      predicate_faults int_max typing names p
      ++ (sub_faults int_max typing above names writable n s ++ branches_faults int_max typing above names writable (n + binder_count s) bs)

  pub choices_faults : ℤ → Typing → Names → Names → (ℕ → Bool) → ℕ → Choices → List Fault
  choices_faults int_max typing above names writable n no_choices = []
  choices_faults int_max typing above names writable n (choice_and s cs) =
      sub_faults int_max typing above names writable n s ++ choices_faults int_max typing above names writable (n + binder_count s) cs
