-- What a written substitution reads as (generalized substitutions are the B-Book's, and so is what the words of the notation stand for).
-- What it binds has the numbers from a counter on, in the order of the text: so each binder has an interval of numbers of its own.
use Rattle.std.specs.Prelude.{ℕ, suc, ℤ, ◌+◌, pos, Bool, true, false, ◌&&◌, List, [], ◌∷◌, ◌++◌, length, Option, None, Some}
use Rattle.bk_val.specs.ValueType.{ValueType, int_type, pair_type, set_type}
use Rattle.bk_form.specs.Formula.{Formula, variable, literal, btrue, unary, binary}
use Rattle.bk_form.specs.Role.{bind, same_type}
use Rattle.bk_form.specs.declared.operator.UnOp.TheVariants.{Single, Not as Negation}
use Rattle.bk_form.specs.declared.operator.BinOp.TheVariants.{And as Conjunction, In, Over, Maps}
use Rattle.bk_gsl.specs.Substitution.{Substitution, skip, assign, pre, guard, choice, if_else, any, seq, par, assert, becomes_such, loop}
use Rattle.bk_raw.specs.declared.term.RawName.{RawName}
use Rattle.bk_raw.specs.Trees.RawTree.{RawTree, RawTrees, no_trees, tree_and}
use Rattle.bk_raw.specs.Trees.SubTree.{SubTree, sub, SubNode, sub_skip, sub_assign, sub_assign_at, sub_member, sub_such, sub_begin, sub_pre}
use Rattle.bk_raw.specs.Trees.SubTree.{sub_assert, sub_if, sub_choice, sub_select, sub_any, sub_let, sub_var, sub_while, sub_parallel}
use Rattle.bk_raw.specs.Trees.SubTree.{sub_sequence, sub_call, Branches, no_branches, else_branch, branch_and}
use Rattle.bk_raw.specs.Trees.SubTree.{Choices, no_choices, choice_and}
use Rattle.bk_raw.specs.Meaning.Names.{Names}
use Rattle.bk_raw.specs.Meaning.Outcome.{ask_domain}
use Rattle.bk_statics.specs.Typings.{Typing, or_else, interval, numbered, numbered_old, Target, target}
use Rattle.bk_statics.specs.Typings.{number_of, type_at, predicate_read, outcome_of, term_read}
use Rattle.bk_statics.specs.Binders.{binder_count}

-- ---- assignments
-- the variable with its term, where there is one
abbrev pub with_pair : ℕ → Option Formula → List (ℕ × Formula) → List (ℕ × Formula)
with_pair n None ps = ps
with_pair n (Some f) ps = (n, f) ∷ ps

-- the same of a written variable, whose type the term takes
abbrev pub paired_as : ℤ → Typing → Names → Target → Option ValueType → RawTree → List (ℕ × Formula) → List (ℕ × Formula)
paired_as int_max typing names x None e ps = ps
paired_as int_max typing names x (Some t) e ps = with_pair (number_of x) (term_read int_max typing names t e) ps

-- x, y := E, F: each variable with its term
abbrev pub assigned_pairs : ℤ → Typing → Names → List RawName → RawTrees → List (ℕ × Formula)
assigned_pairs int_max typing names (x ∷ xs) (tree_and e es) = paired_as int_max typing names
    (target names x.text) (type_at typing (target names x.text)) e (assigned_pairs int_max typing names xs es)
assigned_pairs int_max typing names _ _ = []

-- f := f <+ {e |-> v}
abbrev pub overridden : ℕ → Option Formula → Option Formula → Substitution
overridden f (Some e) (Some v) = assign ((f, binary Over (variable f) (unary Single (binary Maps e v))) ∷ [])
overridden f _ _ = skip

-- f(e) := v, where f is a relation
abbrev pub put_read : ℤ → Typing → Names → ℕ → Option ValueType → RawTree → RawTree → Substitution
put_read int_max typing names f (Some (set_type (pair_type t u))) e v =
    overridden f (term_read int_max typing names t e) (term_read int_max typing names u v)
put_read int_max typing names f _ e v = skip

-- ---- x :: E and x :(P)
-- whether x and z have the type over which the domain ranges
abbrev pub all_one_type : Option ValueType → Option ValueType → ValueType → Bool
all_one_type (Some t) (Some u) v = same_type t v && same_type u v
all_one_type _ _ v = false

-- what stands for z : E ==> x := z where that has a fault
abbrev pub nothing_chosen : Substitution
nothing_chosen = guard btrue skip

-- z : E ==> x := z, where they have one type
abbrev pub chosen_where : Bool → ℕ → ℕ → Formula → Substitution
chosen_where true x z d = guard (binary In (variable z) d) (assign ((x, variable z) ∷ []))
chosen_where false x z d = nothing_chosen

-- the same, where E is a domain
abbrev pub chosen_in : Typing → ℕ → Option ValueType → ℕ → Option (Formula × ValueType) → Substitution
chosen_in typing x t z None = nothing_chosen
chosen_in typing x t z (Some d) = chosen_where (all_one_type t (typing z) d.1) x z d.0

-- each written variable with the number of its old value
abbrev pub old_pairs : Names → ℕ → List RawName → List (ℕ × ℕ)
old_pairs names n [] = []
old_pairs names n (x ∷ xs) = (number_of (target names x.text), n) ∷ old_pairs names (suc n) xs

-- ---- substitutions
abbrev mutual
  -- under names in scope, what is bound having the numbers from n on; invariants and variants of loops see the names above besides
  pub elaborated : ℤ → Typing → Names → Names → ℕ → SubTree → Substitution
  elaborated int_max typing above names n (sub at node) = elaborated_node int_max typing above names n node

  -- the substitution that a written one stands for, by its form. A call stands nowhere yet, and reads as skip
  pub elaborated_node : ℤ → Typing → Names → Names → ℕ → SubNode → Substitution
  elaborated_node int_max typing above names n sub_skip = skip
  elaborated_node int_max typing above names n (sub_call xs o ts) = skip
  elaborated_node int_max typing above names n (sub_assign xs es) = assign (assigned_pairs int_max typing names xs es)
  elaborated_node int_max typing above names n (sub_assign_at f e v) =
      put_read int_max typing names (number_of (target names f.text)) (type_at typing (target names f.text)) e v
  elaborated_node int_max typing above names n (sub_member x e) =
      any (n ∷ []) (chosen_in typing (number_of (target names x.text))
      (type_at typing (target names x.text)) n (ask_domain 0 (outcome_of int_max typing names e)).answer)
  elaborated_node int_max typing above names n (sub_such xs p) =
      becomes_such (old_pairs names n xs) (predicate_read int_max typing (bind (numbered_old n xs) names) p)
  elaborated_node int_max typing above names n (sub_begin s) = elaborated int_max typing above names n s
  elaborated_node int_max typing above names n (sub_pre p s) =
      pre (predicate_read int_max typing names p) (elaborated int_max typing above names n s)
  elaborated_node int_max typing above names n (sub_assert p s) =
      assert (predicate_read int_max typing names p) (elaborated int_max typing above names n s)
  elaborated_node int_max typing above names n (sub_if p s bs) =
      if_else (predicate_read int_max typing names p) (elaborated int_max typing above names n s)
      (else_part int_max typing above names (n + binder_count s) bs)
  elaborated_node int_max typing above names n (sub_choice s cs) =
      choices int_max typing above names (n + binder_count s) (elaborated int_max typing above names n s) cs
  elaborated_node int_max typing above names n (sub_select p s bs) =
      selected int_max typing above names (n + binder_count s) (unary Negation (predicate_read int_max typing names p))
      (guard (predicate_read int_max typing names p) (elaborated int_max typing above names n s)) bs
  elaborated_node int_max typing above names n (sub_any xs p s) =
      any (interval n (length xs)) (guard (predicate_read int_max typing (bind (numbered n xs) names) p)
      (elaborated int_max typing above (bind (numbered n xs) names) (n + length xs) s))
  elaborated_node int_max typing above names n (sub_let xs p s) =
      any (interval n (length xs)) (guard (predicate_read int_max typing (bind (numbered n xs) names) p)
      (elaborated int_max typing above (bind (numbered n xs) names) (n + length xs) s))
  elaborated_node int_max typing above names n (sub_var xs s) =
      any (interval n (length xs)) (elaborated int_max typing above (bind (numbered n xs) names) (n + length xs) s)
  elaborated_node int_max typing above names n (sub_while p s i v) =
      loop (predicate_read int_max typing names p) (elaborated int_max typing above names n s)
      (predicate_read int_max typing (names ++ above) i) (or_else (literal (pos 0)) (term_read int_max typing (names ++ above) int_type v))
  elaborated_node int_max typing above names n (sub_parallel s t) =
      par (elaborated int_max typing above names n s) (elaborated int_max typing above names (n + binder_count s) t)
  elaborated_node int_max typing above names n (sub_sequence s t) =
      seq (elaborated int_max typing above names n s) (elaborated int_max typing above names (n + binder_count s) t)

  -- what an IF does where no condition before these branches is true: ELSIF nests, and a missing ELSE is skip
  pub else_part : ℤ → Typing → Names → Names → ℕ → Branches → Substitution
  else_part int_max typing above names n no_branches = skip
  else_part int_max typing above names n (else_branch s) = elaborated int_max typing above names n s
  else_part int_max typing above names n (branch_and p s bs) =
      if_else (predicate_read int_max typing names p) (elaborated int_max typing above names n s)
      (else_part int_max typing above names (n + binder_count s) bs)

  -- the choice of what stands before and these, joined to the left
  pub choices : ℤ → Typing → Names → Names → ℕ → Substitution → Choices → Substitution
  choices int_max typing above names n before no_choices = before
  choices int_max typing above names n before (choice_and s cs) =
      choices int_max typing above names (n + binder_count s) (choice before (elaborated int_max typing above names n s)) cs

  -- the same of guarded branches; ELSE is guarded by the negations of all guards, joined by & to the left
  pub selected : ℤ → Typing → Names → Names → ℕ → Formula → Substitution → Branches → Substitution
  selected int_max typing above names n nots before no_branches = before
  selected int_max typing above names n nots before (else_branch s) = choice before (guard nots (elaborated int_max typing above names n s))
  selected int_max typing above names n nots before (branch_and p s bs) =
      selected int_max typing above names (n + binder_count s)
      (binary Conjunction nots (unary Negation (predicate_read int_max typing names p)))
      (choice before (guard (predicate_read int_max typing names p) (elaborated int_max typing above names n s))) bs
