-- The sets and elements in the scopes of a resolved substitution's terms are those of the table.
use Rattle.std.proofs.Common.{ℕ, List, [], ◌∷◌, ◌++◌, map}
use Rattle.bk_form.specs.Each.{Each}
use Rattle.bk_form.specs.Table.{Table}
use Rattle.bk_raw.specs.declared.term.RawName.{RawName}
use Rattle.bk_raw.specs.Trees.RawTree.{RawTrees, no_trees, tree_and}
use Rattle.bk_raw.specs.Trees.SubTree.{SubTree, sub, sub_skip, sub_assign, sub_assign_at, sub_member, sub_such, sub_call, sub_begin, sub_pre, sub_assert, sub_if, sub_choice, sub_select, sub_any, sub_let, sub_var, sub_while, sub_parallel, sub_sequence, Branches, no_branches, else_branch, branch_and, Choices, no_choices, choice_and}
use Rattle.bk_raw.specs.Meaning.Names.{Names}
use Rattle.bk_statics.specs.Settled.{AreOf}
use Rattle.bk_phases.specs.Scope.{Local, in_scope}
use Rattle.bk_phases.specs.Term.{Term}
use Rattle.bk_phases.specs.Statement.{Statement, guard_at, choice_at, within}
use Rattle.bk_phases.specs.Resolve.{Scope, declared, inside, after, holds, values_for, old_name, resolved, resolved_else, resolved_choices, resolved_branches}
use Rattle.bk_phases.specs.Scoping.{SeesListed}
use Rattle.bk_phases.proofs.Lists.{each-append}

module _ (table : Table) where
  of-join : (a b : Names) → AreOf table a → AreOf table b → AreOf table (a ++ b)
  of-join [] b h k = k
  of-join (n ∷ ns) b h k = (h.0, of-join ns b h.1 k)

  of-locals : (zs : List Local) → AreOf table (in_scope zs)
  of-locals [] = tt
  of-locals (z ∷ zs) = (tt, of-locals zs)

  values-of : (names : Names) (xs : List RawName) (es : RawTrees) → AreOf table names → Each (λ (t : Term). AreOf table t.names) (values_for names xs es)
  values-of names xs no_trees h = tt
  values-of names [] (tree_and e es) h = (h, values-of names [] es h)
  values-of names (x ∷ xs) (tree_and e es) h = (h, values-of names xs es h)

  abbrev AllSee : Statement → Type 0
  AllSee s = Each (SeesListed table) (within s)

  both-see : (s t : Statement) → AllSee s → AllSee t → Each (SeesListed table) (within s ++ within t)
  both-see s t h k = each-append (SeesListed table) (within s) (within t) h k

  -- a scope's names are of the table
  pub record IsOf (c : Scope) : Type 0 where
    pub names : AreOf table c.names
    pub above : AreOf table c.above

  of-inside : (zs : List Local) (c : Scope) → IsOf c → IsOf (inside zs c)
  of-inside zs c a = record { names = of-join (in_scope zs) c.names (of-locals zs) a.names; above = a.above }

  of-after : (s : Statement) (c : Scope) → IsOf c → IsOf (after s c)
  of-after s c a = record { names = a.names; above = a.above }

  mutual
    pub terms-listed : (s : SubTree) (c : Scope) → IsOf c → AllSee (resolved c s)
    terms-listed (sub at sub_skip) c a = (tt, tt)
    terms-listed (sub at (sub_assign xs es)) c a = (values-of c.names xs es a.names, tt)
    terms-listed (sub at (sub_assign_at f e v)) c a = ((a.names, (a.names, tt)), tt)
    terms-listed (sub at (sub_member x e)) c a = ((a.names, tt), tt)
    terms-listed (sub at (sub_such xs p)) c a = let b = of-inside (declared c (map old_name xs)) c a in ((b.names, tt), tt)
    terms-listed (sub at (sub_call xs o es)) c a = (tt, tt)
    terms-listed (sub at (sub_begin s)) c a = terms-listed s c a
    terms-listed (sub at (sub_pre p s)) c a = ((a.names, tt), terms-listed s c a)
    terms-listed (sub at (sub_assert p s)) c a = ((a.names, tt), terms-listed s c a)
    terms-listed (sub at (sub_if p s bs)) c a = let one = resolved c s in ((a.names, tt), both-see one (resolved_else at (after one c) bs) (terms-listed s c a) (else-listed bs at (after one c) (of-after one c a)))
    terms-listed (sub at (sub_choice s cs)) c a = let one = resolved c s in (tt, choices-listed cs at (after one c) one (of-after one c a) (terms-listed s c a))
    terms-listed (sub at (sub_select p s bs)) c a = let one = resolved c s in branches-listed bs at (after one c) (guard_at at (holds c p) one) (of-after one c a) ((a.names, tt), terms-listed s c a)
    terms-listed (sub at (sub_any xs p s)) c a = let b = of-inside (declared c xs) c a in ((b.names, tt), terms-listed s (inside (declared c xs) c) b)
    terms-listed (sub at (sub_let xs p s)) c a = let b = of-inside (declared c xs) c a in ((b.names, tt), terms-listed s (inside (declared c xs) c) b)
    terms-listed (sub at (sub_var xs s)) c a = (tt, terms-listed s (inside (declared c xs) c) (of-inside (declared c xs) c a))
    terms-listed (sub at (sub_while p s i v)) c a = let joined = of-join c.names c.above a.names a.above in ((a.names, (joined, (joined, tt))), terms-listed s c a)
    terms-listed (sub at (sub_parallel s t)) c a = let one = resolved c s in (tt, both-see one (resolved (after one c) t) (terms-listed s c a) (terms-listed t (after one c) (of-after one c a)))
    terms-listed (sub at (sub_sequence s t)) c a = let one = resolved c s in (tt, both-see one (resolved (after one c) t) (terms-listed s c a) (terms-listed t (after one c) (of-after one c a)))

    else-listed : (bs : Branches) (at : ℕ) (c : Scope) → IsOf c → AllSee (resolved_else at c bs)
    else-listed no_branches at c a = (tt, tt)
    else-listed (else_branch s) at c a = terms-listed s c a
    else-listed (branch_and p s bs) at c a = let one = resolved c s in ((a.names, tt), both-see one (resolved_else at (after one c) bs) (terms-listed s c a) (else-listed bs at (after one c) (of-after one c a)))

    choices-listed : (cs : Choices) (at : ℕ) (c : Scope) (before : Statement) → IsOf c → AllSee before → AllSee (resolved_choices at c before cs)
    choices-listed no_choices at c before a h = h
    choices-listed (choice_and s cs) at c before a h = let one = resolved c s in choices-listed cs at (after one c) (choice_at at before one) (of-after one c a) (tt, both-see before one h (terms-listed s c a))

    branches-listed : (bs : Branches) (at : ℕ) (c : Scope) (before : Statement) → IsOf c → AllSee before → AllSee (resolved_branches at c before bs)
    branches-listed no_branches at c before a h = h
    branches-listed (else_branch s) at c before a h = (tt, both-see before (resolved c s) h (terms-listed s c a))
    branches-listed (branch_and p s bs) at c before a h =
        let one = resolved c s in
        let guarded = guard_at at (holds c p) one in
        branches-listed bs at (after one c) (choice_at at before guarded) (of-after one c a) (tt, both-see before guarded h ((a.names, tt), terms-listed s c a))

pub scopes-listed : (table : Table) (c : Scope) → AreOf table c.names → AreOf table c.above → (s : SubTree) → Each (SeesListed table) (within (resolved c s))
scopes-listed table c h k s = terms-listed table s c (record { names = h; above = k })
