-- What statements bind: names with the next free numbers, each with a symbol.
use Rattle.std.proofs.Common.{◌≡◌, ℕ, suc, ◌+◌, List, [], ◌∷◌, ◌++◌, length, map, refl, sym, ◌∙◌, ap, subst, length-append, arith}
use Rattle.std.proofs.lemmas.List.{map-append, length-map}
use Rattle.std.specs.List.{flat_map}
use Rattle.bk_dev.specs.Facts.{binders, seconds}
use Rattle.bk_raw.specs.declared.term.RawName.{RawName}
use Rattle.bk_raw.specs.Trees.SubTree.{SubTree, sub, sub_skip, sub_assign, sub_assign_at, sub_member, sub_such, sub_call, sub_begin, sub_pre, sub_assert, sub_if, sub_choice, sub_select, sub_any, sub_let, sub_var, sub_while, sub_parallel, sub_sequence, Branches, no_branches, else_branch, branch_and, Choices, no_choices, choice_and}
use Rattle.bk_raw.specs.Meaning.Names.{Names}
use Rattle.bk_phases.specs.Scope.{Local, with_numbers, numbers, Written}
use Rattle.bk_phases.specs.Statement.{Statement, skip_at, assign_at, update_at, member_at, such_at, call_at, pre_at, assert_at, if_at, guard_at, choice_at, else_at, branches_at, any_at, var_at, loop_at, par_at, seq_at, within, bound_here, locals_of}
use Rattle.bk_phases.specs.Resolve.{Scope, declared, inside, after, holds, with_old, resolved, resolved_else, resolved_choices, resolved_branches}
use Rattle.bk_phases.specs.Symbols.{a_local, symbol, inner_symbol, from_conjunct, first_assignment, symbols_here, symbols_of}
use Rattle.bk_phases.specs.Types.{Types}
use Rattle.bk_phases.specs.LevelOf.{old_pairs, numbers_from, elaborated}
use Rattle.bk_phases.proofs.Lists.{flat-join, flat-lengths}

-- ---- what is bound
joined-numbers : (a b : List ℕ) (s t : Statement) → a ≡ numbers (locals_of s) → b ≡ numbers (locals_of t) → a ++ b ≡ numbers (flat_map bound_here (within s ++ within t))
joined-numbers a b s t e f =
    ap (λ x. x ++ b) e ∙ ap (λ y. numbers (locals_of s) ++ y) f ∙ sym (map-append (λ (x : Local). x.number) (locals_of s) (locals_of t)) ∙ ap numbers (sym (flat-join bound_here (within s) (within t)))

front-numbers : (xs : List Local) (b : List ℕ) (s : Statement) → b ≡ numbers (locals_of s) → numbers xs ++ b ≡ numbers (xs ++ locals_of s)
front-numbers xs b s e = ap (λ y. numbers xs ++ y) e ∙ sym (map-append (λ (x : Local). x.number) xs (locals_of s))

such-numbers : (xs : List (Written × Local)) → seconds (old_pairs xs) ≡ numbers (map (λ (x : Written × Local). x.1) xs ++ [])
such-numbers [] = refl
such-numbers (x ∷ xs) = ap (λ l. x.1.number ∷ l) (such-numbers xs)

pub binds : (types : Types) (s : Statement) → binders (elaborated types s) ≡ numbers (locals_of s)
binds types (skip_at at) = refl
binds types (assign_at at xs es) = refl
binds types (update_at at f e v) = refl
binds types (member_at at x z e) = refl
binds types (such_at at xs p) = such-numbers xs
binds types (call_at at es) = refl
binds types (pre_at at p s) = binds types s
binds types (assert_at at p s) = binds types s
binds types (if_at at p s t) = joined-numbers (binders (elaborated types s)) (binders (elaborated types t)) s t (binds types s) (binds types t)
binds types (guard_at at p s) = binds types s
binds types (choice_at at s t) = joined-numbers (binders (elaborated types s)) (binders (elaborated types t)) s t (binds types s) (binds types t)
binds types (else_at at s t) = joined-numbers (binders (elaborated types s)) (binders (elaborated types t)) s t (binds types s) (binds types t)
binds types (branches_at at s) = binds types s
binds types (any_at at xs p s) = front-numbers xs (binders (elaborated types s)) s (binds types s)
binds types (var_at at xs s) = front-numbers xs (binders (elaborated types s)) s (binds types s)
binds types (loop_at at p s i v) = binds types s
binds types (par_at at s t) = joined-numbers (binders (elaborated types s)) (binders (elaborated types t)) s t (binds types s) (binds types t)
binds types (seq_at at s t) = joined-numbers (binders (elaborated types s)) (binders (elaborated types t)) s t (binds types s) (binds types t)

-- ---- symbols
here : (s : Statement) → length (symbols_here s) ≡ length (bound_here s)
here (skip_at at) = refl
here (assign_at at xs es) = refl
here (update_at at f e v) = refl
here (member_at at x z e) = refl
here (such_at at xs p) = length-map xs (λ (x : Written × Local). inner_symbol x.0 x.1) ∙ sym (length-map xs (λ (x : Written × Local). x.1))
here (call_at at es) = refl
here (pre_at at p s) = refl
here (assert_at at p s) = refl
here (if_at at p s t) = refl
here (guard_at at p s) = refl
here (choice_at at s t) = refl
here (else_at at s t) = refl
here (branches_at at s) = refl
here (any_at at xs p s) =
    let names = map (λ (x : Local). x.name) xs in
    length-map names (λ (x : RawName). symbol a_local x (from_conjunct names x p)) ∙ length-map xs (λ (x : Local). x.name)
here (var_at at xs s) = length-map xs (λ (x : Local). symbol a_local x.name (first_assignment x.number s))
here (loop_at at p s i v) = refl
here (par_at at s t) = refl
here (seq_at at s t) = refl

pub have-symbols : (s : Statement) → length (symbols_of s) ≡ length (locals_of s)
have-symbols s = flat-lengths symbols_here bound_here here (within s)

-- ---- numbers
-- these have the numbers from n on
abbrev AreFrom : ℕ → List Local → Type 0
AreFrom n xs = numbers xs ≡ numbers_from n xs

from-join : {A : Type 0} (n : ℕ) (xs ys : List A) → numbers_from n (xs ++ ys) ≡ numbers_from n xs ++ numbers_from (n + length xs) ys
from-join n [] ys = ap (λ m. numbers_from m ys) (omega arith)
from-join n (x ∷ xs) ys =
    let e : suc n + length xs ≡ n + suc (length xs) = omega arith in
    ap (λ l. n ∷ l) (from-join (suc n) xs ys) ∙ ap (λ m. n ∷ (numbers_from (suc n) xs ++ numbers_from m ys)) e

lists-from : (n : ℕ) (xs ys : List Local) → AreFrom n xs → AreFrom (n + length xs) ys → AreFrom n (xs ++ ys)
lists-from n xs ys e f =
    map-append (λ (x : Local). x.number) xs ys ∙ ap (λ l. l ++ numbers ys) e ∙ ap (λ l. numbers_from n xs ++ l) f ∙ sym (from-join n xs ys)

statements-from : (n : ℕ) (s t : Statement) → AreFrom n (locals_of s) → AreFrom (n + length (locals_of s)) (locals_of t) → AreFrom n (flat_map bound_here (within s ++ within t))
statements-from n s t e f = subst (AreFrom n) (sym (flat-join bound_here (within s) (within t))) (lists-from n (locals_of s) (locals_of t) e f)

with_numbers-from : (n : ℕ) (xs : List RawName) → AreFrom n (with_numbers n xs)
with_numbers-from n [] = refl
with_numbers-from n (x ∷ xs) = ap (λ l. n ∷ l) (with_numbers-from (suc n) xs)

old-from : (names : Names) (n : ℕ) (xs : List RawName) → AreFrom n (map (λ (x : Written × Local). x.1) (with_old names n xs) ++ [])
old-from names n [] = refl
old-from names n (x ∷ xs) = ap (λ l. n ∷ l) (old-from names (suc n) xs)

-- what two statements bind together is as much as both
both-lengths : (s t : Statement) → length (flat_map bound_here (within s ++ within t)) ≡ length (locals_of s) + length (locals_of t)
both-lengths s t = ap (λ (l : List Local). length l) (flat-join bound_here (within s) (within t)) ∙ length-append (locals_of s) (locals_of t)

next-after : (c n a b d : ℕ) → c ≡ n + a → d ≡ a + b → c + b ≡ n + d
next-after c n a b d e f = omega (arith, e, f)

mutual
  pub next-numbers : (s : SubTree) (c : Scope) → AreFrom c.next (locals_of (resolved c s))
  next-numbers (sub at sub_skip) c = refl
  next-numbers (sub at (sub_assign xs es)) c = refl
  next-numbers (sub at (sub_assign_at f e v)) c = refl
  next-numbers (sub at (sub_member x e)) c = refl
  next-numbers (sub at (sub_such xs p)) c = old-from c.names c.next xs
  next-numbers (sub at (sub_call xs o es)) c = refl
  next-numbers (sub at (sub_begin s)) c = next-numbers s c
  next-numbers (sub at (sub_pre p s)) c = next-numbers s c
  next-numbers (sub at (sub_assert p s)) c = next-numbers s c
  next-numbers (sub at (sub_if p s bs)) c =
      let one = resolved c s in statements-from c.next one (resolved_else at (after one c) bs) (next-numbers s c) (else-from bs at (after one c))
  next-numbers (sub at (sub_choice s cs)) c =
      let one = resolved c s in choices-from cs at (after one c) c.next one (next-numbers s c) refl
  next-numbers (sub at (sub_select p s bs)) c =
      let one = resolved c s in branches-from bs at (after one c) c.next (guard_at at (holds c p) one) (next-numbers s c) refl
  next-numbers (sub at (sub_any xs p s)) c =
      let zs = declared c xs in lists-from c.next zs (locals_of (resolved (inside zs c) s)) (with_numbers-from c.next xs) (next-numbers s (inside zs c))
  next-numbers (sub at (sub_let xs p s)) c =
      let zs = declared c xs in lists-from c.next zs (locals_of (resolved (inside zs c) s)) (with_numbers-from c.next xs) (next-numbers s (inside zs c))
  next-numbers (sub at (sub_var xs s)) c =
      let zs = declared c xs in lists-from c.next zs (locals_of (resolved (inside zs c) s)) (with_numbers-from c.next xs) (next-numbers s (inside zs c))
  next-numbers (sub at (sub_while p s i v)) c = next-numbers s c
  next-numbers (sub at (sub_parallel s t)) c =
      let one = resolved c s in statements-from c.next one (resolved (after one c) t) (next-numbers s c) (next-numbers t (after one c))
  next-numbers (sub at (sub_sequence s t)) c =
      let one = resolved c s in statements-from c.next one (resolved (after one c) t) (next-numbers s c) (next-numbers t (after one c))

  else-from : (bs : Branches) (at : ℕ) (c : Scope) → AreFrom c.next (locals_of (resolved_else at c bs))
  else-from no_branches at c = refl
  else-from (else_branch s) at c = next-numbers s c
  else-from (branch_and p s bs) at c =
      let one = resolved c s in statements-from c.next one (resolved_else at (after one c) bs) (next-numbers s c) (else-from bs at (after one c))

  choices-from : (cs : Choices) (at : ℕ) (c : Scope) (n : ℕ) (before : Statement) → AreFrom n (locals_of before) → c.next ≡ n + length (locals_of before) → AreFrom n (locals_of (resolved_choices at c before cs))
  choices-from no_choices at c n before e f = e
  choices-from (choice_and s cs) at c n before e f =
      let one = resolved c s in
      choices-from cs at (after one c) n (choice_at at before one)
      (statements-from n before one e (subst (λ m. AreFrom m (locals_of one)) f (next-numbers s c)))
      (next-after c.next n (length (locals_of before)) (length (locals_of one)) (length (flat_map bound_here (within before ++ within one))) f (both-lengths before one))

  branches-from : (bs : Branches) (at : ℕ) (c : Scope) (n : ℕ) (before : Statement) → AreFrom n (locals_of before) → c.next ≡ n + length (locals_of before) → AreFrom n (locals_of (resolved_branches at c before bs))
  branches-from no_branches at c n before e f = e
  branches-from (else_branch s) at c n before e f = statements-from n before (resolved c s) e (subst (λ m. AreFrom m (locals_of (resolved c s))) f (next-numbers s c))
  branches-from (branch_and p s bs) at c n before e f =
      let one = guard_at at (holds c p) (resolved c s) in
      branches-from bs at (after (resolved c s) c) n (choice_at at before one)
      (statements-from n before one e (subst (λ m. AreFrom m (locals_of one)) f (next-numbers s c)))
      (next-after c.next n (length (locals_of before)) (length (locals_of one)) (length (flat_map bound_here (within before ++ within one))) f (both-lengths before one))
