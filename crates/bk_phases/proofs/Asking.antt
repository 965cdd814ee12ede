-- The places of a resolved substitution ask of its terms what they do.
use Rattle.std.proofs.Common.{ℕ, List, [], ◌∷◌, ◌++◌, map, refl}
use Rattle.bk_form.specs.Each.{Each}
use Rattle.bk_raw.specs.declared.term.RawName.{RawName}
use Rattle.bk_raw.specs.Trees.RawTree.{RawTrees, no_trees, tree_and}
use Rattle.bk_raw.specs.Trees.SubTree.{SubTree, sub, sub_skip, sub_assign, sub_assign_at, sub_member, sub_such, sub_call, sub_begin, sub_pre, sub_assert, sub_if, sub_choice, sub_select, sub_any, sub_let, sub_var, sub_while, sub_parallel, sub_sequence, Branches, no_branches, else_branch, branch_and, Choices, no_choices, choice_and}
use Rattle.bk_raw.specs.Meaning.Names.{Names}
use Rattle.bk_phases.specs.Scope.{written}
use Rattle.bk_phases.specs.Statement.{Statement, guard_at, choice_at, within}
use Rattle.bk_phases.specs.Resolve.{Scope, declared, inside, after, holds, values_for, resolved, resolved_else, resolved_choices, resolved_branches}
use Rattle.bk_phases.specs.Typed.{AskValues, AsksRight}
use Rattle.bk_phases.proofs.Lists.{each-append}

values-ask : (names : Names) (xs : List RawName) (es : RawTrees) → AskValues (map (written names) xs) (values_for names xs es)
values-ask names [] es = tt
values-ask names (x ∷ xs) no_trees = tt
values-ask names (x ∷ xs) (tree_and e es) = (refl, values-ask names xs es)

-- of two that stand side by side
both-ask : (s t : Statement) → Each AsksRight (within s) → Each AsksRight (within t) → Each AsksRight (within s ++ within t)
both-ask s t h k = each-append AsksRight (within s) (within t) h k

mutual
  pub places-ask : (s : SubTree) (c : Scope) → Each AsksRight (within (resolved c s))
  places-ask (sub at sub_skip) c = (tt, tt)
  places-ask (sub at (sub_assign xs es)) c = (values-ask c.names xs es, tt)
  places-ask (sub at (sub_assign_at f e v)) c = ((refl, refl), tt)
  places-ask (sub at (sub_member x e)) c = (refl, tt)
  places-ask (sub at (sub_such xs p)) c = (refl, tt)
  places-ask (sub at (sub_call xs o es)) c = (tt, tt)
  places-ask (sub at (sub_begin s)) c = places-ask s c
  places-ask (sub at (sub_pre p s)) c = (refl, places-ask s c)
  places-ask (sub at (sub_assert p s)) c = (refl, places-ask s c)
  places-ask (sub at (sub_if p s bs)) c = let one = resolved c s in (refl, both-ask one (resolved_else at (after one c) bs) (places-ask s c) (else-asks bs at (after one c)))
  places-ask (sub at (sub_choice s cs)) c = let one = resolved c s in (tt, choices-ask cs at (after one c) one (places-ask s c))
  places-ask (sub at (sub_select p s bs)) c = let one = resolved c s in branches-ask bs at (after one c) (guard_at at (holds c p) one) (refl, places-ask s c)
  places-ask (sub at (sub_any xs p s)) c = (refl, places-ask s (inside (declared c xs) c))
  places-ask (sub at (sub_let xs p s)) c = (refl, places-ask s (inside (declared c xs) c))
  places-ask (sub at (sub_var xs s)) c = (tt, places-ask s (inside (declared c xs) c))
  places-ask (sub at (sub_while p s i v)) c = ((refl, refl, refl), places-ask s c)
  places-ask (sub at (sub_parallel s t)) c = let one = resolved c s in (tt, both-ask one (resolved (after one c) t) (places-ask s c) (places-ask t (after one c)))
  places-ask (sub at (sub_sequence s t)) c = let one = resolved c s in (tt, both-ask one (resolved (after one c) t) (places-ask s c) (places-ask t (after one c)))

  else-asks : (bs : Branches) (at : ℕ) (c : Scope) → Each AsksRight (within (resolved_else at c bs))
  else-asks no_branches at c = (tt, tt)
  else-asks (else_branch s) at c = places-ask s c
  else-asks (branch_and p s bs) at c = let one = resolved c s in (refl, both-ask one (resolved_else at (after one c) bs) (places-ask s c) (else-asks bs at (after one c)))

  choices-ask : (cs : Choices) (at : ℕ) (c : Scope) (before : Statement) → Each AsksRight (within before) → Each AsksRight (within (resolved_choices at c before cs))
  choices-ask no_choices at c before h = h
  choices-ask (choice_and s cs) at c before h =
      let one = resolved c s in
      choices-ask cs at (after one c) (choice_at at before one) (tt, both-ask before one h (places-ask s c))

  branches-ask : (bs : Branches) (at : ℕ) (c : Scope) (before : Statement) → Each AsksRight (within before) → Each AsksRight (within (resolved_branches at c before bs))
  branches-ask no_branches at c before h = h
  branches-ask (else_branch s) at c before h = (tt, both-ask before (resolved c s) h (places-ask s c))
  branches-ask (branch_and p s bs) at c before h =
      let one = resolved c s in
      let guarded = guard_at at (holds c p) one in
      branches-ask bs at (after one c) (choice_at at before guarded) (tt, both-ask before guarded h (refl, places-ask s c))
