-- The names of a component's ways have the sets and elements of its table; and how many ways there are.
use Rattle.std.proofs.Common.{◌≡◌, ℕ, suc, ◌+◌, List, [], ◌∷◌, ◌++◌, length, refl, ap, Bool, true, false, cond, nat_eq}
use Rattle.std.specs.Prelude.{Option, None, Some}
use Rattle.bk_form.specs.Role.{bind}
use Rattle.bk_form.specs.Table.{Table}
use Rattle.bk_raw.specs.declared.term.RawName.{RawName}
use Rattle.bk_raw.specs.Trees.RawTree.{RawTree, RawTrees, no_trees, tree_and}
use Rattle.bk_raw.specs.Meaning.Names.{Names, global, level_name}
use Rattle.bk_statics.specs.Settled.{AreOf}
use Rattle.bk_raw.specs.Trees.SubTree.{SubTree, sub, SubNode, sub_skip, sub_call, sub_assign, sub_assign_at, sub_member, sub_such, sub_begin, sub_pre, sub_assert, sub_if, sub_choice, sub_select, sub_any, sub_let, sub_var, sub_while, sub_parallel, sub_sequence, Branches, no_branches, else_branch, branch_and, Choices, no_choices, choice_and}
use Rattle.bk_statics.specs.Sources.{IsWayOf, AreWaysOf}
use Rattle.bk_statics.specs.Components.{or_next}
use Rattle.bk_statics.specs.Typings.{numbered, numbered_old, target, is_variable, variable_named}
use Rattle.bk_statics.specs.Binders.{binder_count, count_in, branches_count, choices_count}
use Rattle.bk_statics.specs.Ways.{Way, no_way, by_term, by_domain, by_conjuncts, among_terms, among_such, first_way, first_in, first_branch, first_choice, or_no_way, old_ways, conjunct_ways, way_from, assigned_ways, ways, ways_in, branches_ways, choices_ways}
use Rattle.bk_statics.proofs.Counted.{join-count}

pub old-ways-count : (names : Names) (xs : List RawName) → length (old_ways names xs) ≡ length xs
old-ways-count names [] = refl
old-ways-count names (x ∷ xs) = ap suc (old-ways-count names xs)

pub conjunct-count : (names : Names) (group : List RawName) (p : RawTree) (i : ℕ) (xs : List RawName) → length (conjunct_ways names group p i xs) ≡ length xs
conjunct-count names group p i [] = refl
conjunct-count names group p i (x ∷ xs) = ap suc (conjunct-count names group p (suc i) xs)

pub assigned-count : (names : Names) (n : ℕ) (s : SubTree) (m : ℕ) (xs : List RawName) → length (assigned_ways names n s m xs) ≡ length xs
assigned-count names n s m [] = refl
assigned-count names n s m (x ∷ xs) = ap suc (assigned-count names n s (suc m) xs)

mutual
  pub ways-count : (s : SubTree) (names : Names) (n : ℕ) → length (ways names n s) ≡ binder_count s
  ways-count (sub at node) names n = node-ways-count node names n

  node-ways-count : (node : SubNode) (names : Names) (n : ℕ) → length (ways_in names n node) ≡ count_in node
  node-ways-count sub_skip names n = refl
  node-ways-count (sub_call ys o ts) names n = refl
  node-ways-count (sub_assign xs es) names n = refl
  node-ways-count (sub_assign_at x e v) names n = refl
  node-ways-count (sub_member x e) names n = refl
  node-ways-count (sub_such xs p) names n = old-ways-count names xs
  node-ways-count (sub_begin s) names n = ways-count s names n
  node-ways-count (sub_pre p s) names n = ways-count s names n
  node-ways-count (sub_assert p s) names n = ways-count s names n
  node-ways-count (sub_if p s bs) names n = join-count (ways names n s) (branches_ways names (n + binder_count s) bs) (binder_count s) (branches_count bs) (ways-count s names n) (branch-ways-count bs names (n + binder_count s))
  node-ways-count (sub_choice s cs) names n = join-count (ways names n s) (choices_ways names (n + binder_count s) cs) (binder_count s) (choices_count cs) (ways-count s names n) (choice-ways-count cs names (n + binder_count s))
  node-ways-count (sub_select p s bs) names n = join-count (ways names n s) (branches_ways names (n + binder_count s) bs) (binder_count s) (branches_count bs) (ways-count s names n) (branch-ways-count bs names (n + binder_count s))
  node-ways-count (sub_any xs p s) names n = join-count (conjunct_ways names xs p 0 xs) (ways (bind (numbered n xs) names) (n + length xs) s) (length xs) (binder_count s) (conjunct-count names xs p 0 xs) (ways-count s (bind (numbered n xs) names) (n + length xs))
  node-ways-count (sub_let xs p s) names n = join-count (conjunct_ways names xs p 0 xs) (ways (bind (numbered n xs) names) (n + length xs) s) (length xs) (binder_count s) (conjunct-count names xs p 0 xs) (ways-count s (bind (numbered n xs) names) (n + length xs))
  node-ways-count (sub_var xs s) names n = join-count (assigned_ways (bind (numbered n xs) names) (n + length xs) s n xs) (ways (bind (numbered n xs) names) (n + length xs) s) (length xs) (binder_count s) (assigned-count (bind (numbered n xs) names) (n + length xs) s n xs) (ways-count s (bind (numbered n xs) names) (n + length xs))
  node-ways-count (sub_while p s i v) names n = ways-count s names n
  node-ways-count (sub_sequence s t) names n = join-count (ways names n s) (ways names (n + binder_count s) t) (binder_count s) (binder_count t) (ways-count s names n) (ways-count t names (n + binder_count s))
  node-ways-count (sub_parallel s t) names n = join-count (ways names n s) (ways names (n + binder_count s) t) (binder_count s) (binder_count t) (ways-count s names n) (ways-count t names (n + binder_count s))

  branch-ways-count : (bs : Branches) (names : Names) (n : ℕ) → length (branches_ways names n bs) ≡ branches_count bs
  branch-ways-count no_branches names n = refl
  branch-ways-count (else_branch s) names n = ways-count s names n
  branch-ways-count (branch_and p s bs) names n = join-count (ways names n s) (branches_ways names (n + binder_count s) bs) (binder_count s) (branches_count bs) (ways-count s names n) (branch-ways-count bs names (n + binder_count s))

  choice-ways-count : (cs : Choices) (names : Names) (n : ℕ) → length (choices_ways names n cs) ≡ choices_count cs
  choice-ways-count no_choices names n = refl
  choice-ways-count (choice_and s cs) names n = join-count (ways names n s) (choices_ways names (n + binder_count s) cs) (binder_count s) (choices_count cs) (ways-count s names n) (choice-ways-count cs names (n + binder_count s))

module _ (table : Table) where
  pub numbered-of : (n : ℕ) (xs : List RawName) (names : Names) → AreOf table names → AreOf table (bind (numbered n xs) names)
  numbered-of n [] names h = h
  numbered-of n (x ∷ xs) names h = numbered-of (suc n) xs (record { text = x.text; meaning = global n None } ∷ names) (tt, h)

  pub ways-join : (a b : List Way) → AreWaysOf table a → AreWaysOf table b → AreWaysOf table (a ++ b)
  ways-join [] b h k = k
  ways-join (w ∷ ws) b h k = (h.0, ways-join ws b h.1 k)

  abbrev Perhaps : Option Way → Type 0
  Perhaps None = Unit {0}
  Perhaps (Some w) = IsWayOf table w

  next-of : (a b : Option Way) → Perhaps a → Perhaps b → Perhaps (or_next a b)
  next-of None b h k = k
  next-of (Some w) b h k = h

  either-of : (c : Bool) (a b : Option Way) → Perhaps a → Perhaps b → Perhaps (cond c a b)
  either-of true a b h k = h
  either-of false a b h k = k

  or-no-of : (o : Option Way) → Perhaps o → IsWayOf table (or_no_way o)
  or-no-of None h = tt
  or-no-of (Some w) h = h

  terms-of : (names : Names) (m : ℕ) (xs : List RawName) (es : RawTrees) → AreOf table names → Perhaps (among_terms names m xs es)
  terms-of names m [] es h = tt
  terms-of names m (x ∷ xs) no_trees h = either-of (is_variable m (target names x.text)) (Some no_way) (among_terms names m xs no_trees) tt (terms-of names m xs no_trees h)
  terms-of names m (x ∷ xs) (tree_and e es) h = either-of (is_variable m (target names x.text)) (Some (by_term names e)) (among_terms names m xs es) h (terms-of names m xs es h)

  such-of : (names inner : Names) (m : ℕ) (xs : List RawName) (p : RawTree) → AreOf table inner → Perhaps (among_such names inner m xs p)
  such-of names inner m [] p h = tt
  such-of names inner m (x ∷ xs) p h = either-of (is_variable m (target names x.text)) (Some (by_conjuncts inner (x ∷ []) 0 p)) (among_such names inner m xs p) h (such-of names inner m xs p h)

  pub old-numbered-of : (n : ℕ) (xs : List RawName) (names : Names) → AreOf table names → AreOf table (bind (numbered_old n xs) names)
  old-numbered-of n [] names h = h
  old-numbered-of n (x ∷ xs) names h = old-numbered-of (suc n) xs (record { text = level_name x.text 0; meaning = global n None } ∷ names) (tt, h)

  mutual
    first-of : (s : SubTree) (names : Names) (n m : ℕ) → AreOf table names → Perhaps (first_way names n m s)
    first-of (sub at node) names n m h = node-first node names n m h

    node-first : (node : SubNode) (names : Names) (n m : ℕ) → AreOf table names → Perhaps (first_in names n m node)
    node-first sub_skip names n m h = tt
    node-first (sub_call ys o ts) names n m h = tt
    node-first (sub_assign xs es) names n m h = terms-of names m xs es h
    node-first (sub_assign_at x e v) names n m h = either-of (is_variable m (target names x.text)) (Some no_way) None tt tt
    node-first (sub_member x e) names n m h = either-of (is_variable m (target names x.text)) (Some (by_domain names e)) None h tt
    node-first (sub_such xs p) names n m h = such-of names (bind (numbered_old n xs) names) m xs p (old-numbered-of n xs names h)
    node-first (sub_begin s) names n m h = first-of s names n m h
    node-first (sub_pre p s) names n m h = first-of s names n m h
    node-first (sub_assert p s) names n m h = first-of s names n m h
    node-first (sub_if p s bs) names n m h = next-of (first_way names n m s) (first_branch names (n + binder_count s) m bs) (first-of s names n m h) (branch-first bs names (n + binder_count s) m h)
    node-first (sub_choice s cs) names n m h = next-of (first_way names n m s) (first_choice names (n + binder_count s) m cs) (first-of s names n m h) (choice-first cs names (n + binder_count s) m h)
    node-first (sub_select p s bs) names n m h = next-of (first_way names n m s) (first_branch names (n + binder_count s) m bs) (first-of s names n m h) (branch-first bs names (n + binder_count s) m h)
    node-first (sub_any xs p s) names n m h = first-of s (bind (numbered n xs) names) (n + length xs) m (numbered-of n xs names h)
    node-first (sub_let xs p s) names n m h = first-of s (bind (numbered n xs) names) (n + length xs) m (numbered-of n xs names h)
    node-first (sub_var xs s) names n m h = first-of s (bind (numbered n xs) names) (n + length xs) m (numbered-of n xs names h)
    node-first (sub_while p s i v) names n m h = first-of s names n m h
    node-first (sub_sequence s t) names n m h = next-of (first_way names n m s) (first_way names (n + binder_count s) m t) (first-of s names n m h) (first-of t names (n + binder_count s) m h)
    node-first (sub_parallel s t) names n m h = next-of (first_way names n m s) (first_way names (n + binder_count s) m t) (first-of s names n m h) (first-of t names (n + binder_count s) m h)

    branch-first : (bs : Branches) (names : Names) (n m : ℕ) → AreOf table names → Perhaps (first_branch names n m bs)
    branch-first no_branches names n m h = tt
    branch-first (else_branch s) names n m h = first-of s names n m h
    branch-first (branch_and p s bs) names n m h = next-of (first_way names n m s) (first_branch names (n + binder_count s) m bs) (first-of s names n m h) (branch-first bs names (n + binder_count s) m h)

    choice-first : (cs : Choices) (names : Names) (n m : ℕ) → AreOf table names → Perhaps (first_choice names n m cs)
    choice-first no_choices names n m h = tt
    choice-first (choice_and s cs) names n m h = next-of (first_way names n m s) (first_choice names (n + binder_count s) m cs) (first-of s names n m h) (choice-first cs names (n + binder_count s) m h)

  pub conjuncts-of : (names : Names) (group : List RawName) (p : RawTree) (i : ℕ) (xs : List RawName) → AreOf table names → AreWaysOf table (conjunct_ways names group p i xs)
  conjuncts-of names group p i [] h = tt
  conjuncts-of names group p i (x ∷ xs) h = (h, conjuncts-of names group p (suc i) xs h)

  pub assigned-of : (names : Names) (n : ℕ) (s : SubTree) (m : ℕ) (xs : List RawName) → AreOf table names → AreWaysOf table (assigned_ways names n s m xs)
  assigned-of names n s m [] h = tt
  assigned-of names n s m (x ∷ xs) h = (or-no-of (first_way names n m s) (first-of s names n m h), assigned-of names n s (suc m) xs h)

  pub from-of : (m : Option ℕ) → IsWayOf table (way_from m)
  from-of None = tt
  from-of (Some m) = tt

  old-ways-of : (names : Names) (xs : List RawName) → AreWaysOf table (old_ways names xs)
  old-ways-of names [] = tt
  old-ways-of names (x ∷ xs) = (from-of (variable_named names x.text), old-ways-of names xs)

  mutual
    pub ways-of : (s : SubTree) (names : Names) (n : ℕ) → AreOf table names → AreWaysOf table (ways names n s)
    ways-of (sub at node) names n h = node-ways node names n h

    node-ways : (node : SubNode) (names : Names) (n : ℕ) → AreOf table names → AreWaysOf table (ways_in names n node)
    node-ways sub_skip names n h = tt
    node-ways (sub_call ys o ts) names n h = tt
    node-ways (sub_assign xs es) names n h = tt
    node-ways (sub_assign_at x e v) names n h = tt
    node-ways (sub_member x e) names n h = old-ways-of names (x ∷ [])
    node-ways (sub_such xs p) names n h = old-ways-of names xs
    node-ways (sub_begin s) names n h = ways-of s names n h
    node-ways (sub_pre p s) names n h = ways-of s names n h
    node-ways (sub_assert p s) names n h = ways-of s names n h
    node-ways (sub_if p s bs) names n h = ways-join (ways names n s) (branches_ways names (n + binder_count s) bs) (ways-of s names n h) (branch-ways bs names (n + binder_count s) h)
    node-ways (sub_choice s cs) names n h = ways-join (ways names n s) (choices_ways names (n + binder_count s) cs) (ways-of s names n h) (choice-ways cs names (n + binder_count s) h)
    node-ways (sub_select p s bs) names n h = ways-join (ways names n s) (branches_ways names (n + binder_count s) bs) (ways-of s names n h) (branch-ways bs names (n + binder_count s) h)
    node-ways (sub_any xs p s) names n h = ways-join (conjunct_ways names xs p 0 xs) (ways (bind (numbered n xs) names) (n + length xs) s) (conjuncts-of names xs p 0 xs h) (ways-of s (bind (numbered n xs) names) (n + length xs) (numbered-of n xs names h))
    node-ways (sub_let xs p s) names n h = ways-join (conjunct_ways names xs p 0 xs) (ways (bind (numbered n xs) names) (n + length xs) s) (conjuncts-of names xs p 0 xs h) (ways-of s (bind (numbered n xs) names) (n + length xs) (numbered-of n xs names h))
    node-ways (sub_var xs s) names n h = ways-join (assigned_ways (bind (numbered n xs) names) (n + length xs) s n xs) (ways (bind (numbered n xs) names) (n + length xs) s) (assigned-of (bind (numbered n xs) names) (n + length xs) s n xs (numbered-of n xs names h)) (ways-of s (bind (numbered n xs) names) (n + length xs) (numbered-of n xs names h))
    node-ways (sub_while p s i v) names n h = ways-of s names n h
    node-ways (sub_sequence s t) names n h = ways-join (ways names n s) (ways names (n + binder_count s) t) (ways-of s names n h) (ways-of t names (n + binder_count s) h)
    node-ways (sub_parallel s t) names n h = ways-join (ways names n s) (ways names (n + binder_count s) t) (ways-of s names n h) (ways-of t names (n + binder_count s) h)

    branch-ways : (bs : Branches) (names : Names) (n : ℕ) → AreOf table names → AreWaysOf table (branches_ways names n bs)
    branch-ways no_branches names n h = tt
    branch-ways (else_branch s) names n h = ways-of s names n h
    branch-ways (branch_and p s bs) names n h = ways-join (ways names n s) (branches_ways names (n + binder_count s) bs) (ways-of s names n h) (branch-ways bs names (n + binder_count s) h)

    choice-ways : (cs : Choices) (names : Names) (n : ℕ) → AreOf table names → AreWaysOf table (choices_ways names n cs)
    choice-ways no_choices names n h = tt
    choice-ways (choice_and s cs) names n h = ways-join (ways names n s) (choices_ways names (n + binder_count s) cs) (ways-of s names n h) (choice-ways cs names (n + binder_count s) h)
