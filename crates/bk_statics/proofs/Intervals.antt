-- What a substitution binds is an interval of numbers.
use Rattle.std.proofs.Common.{◌≡◌, ℕ, zero, suc, ◌+◌, ◌<◌, List, [], ◌∷◌, ◌++◌, length, refl, sym, ◌∙◌, ap, subst, Bool, true, false, ◌||◌, arith, nat_eq}
use Rattle.std.specs.Prelude.{Option, None, Some, ℤ}
use Rattle.std.proofs.lemmas.Bool.Decides.{nat_tests}
use Rattle.bk_val.specs.ValueType.{ValueType, int_type, bool_type, enum_type, pair_type, set_type}
use Rattle.bk_form.specs.Formula.{Formula, unary, binary}
use Rattle.bk_form.specs.declared.operator.UnOp.TheVariants.{Not as Negation}
use Rattle.bk_form.specs.declared.operator.BinOp.TheVariants.{And as Conjunction}
use Rattle.bk_form.specs.Role.{bind}
use Rattle.bk_gsl.specs.State.{among}
use Rattle.bk_dev.specs.Facts.{binders, seconds, AreDistinct}
use Rattle.bk_raw.specs.declared.term.RawName.{RawName}
use Rattle.bk_raw.specs.Trees.RawTree.{RawTree}
use Rattle.bk_raw.specs.Meaning.Names.{Names}
use Rattle.bk_raw.specs.Meaning.Outcome.{ask_domain}
use Rattle.bk_gsl.specs.Substitution.{Substitution, guard, choice}
use Rattle.bk_raw.specs.Trees.SubTree.{SubTree, sub, SubNode, sub_skip, sub_call, sub_assign, sub_assign_at, sub_member, sub_such, sub_begin, sub_pre, sub_assert, sub_if, sub_choice, sub_select, sub_any, sub_let, sub_var, sub_while, sub_parallel, sub_sequence, Branches, no_branches, else_branch, branch_and, Choices, no_choices, choice_and}
use Rattle.bk_statics.specs.Typings.{Typing, interval, numbered, predicate_read, target, number_of, type_at, term_read, outcome_of}
use Rattle.bk_statics.specs.Binders.{binder_count, count_in, branches_count, choices_count}
use Rattle.bk_statics.specs.Elaborated.{else_part, choices, selected, overridden, put_read, all_one_type, chosen_where, chosen_in, old_pairs, elaborated, elaborated_node}

-- two intervals, one behind the other
pub interval-join : (n a b : ℕ) → interval n a ++ interval (n + a) b ≡ interval n (a + b)
interval-join n zero b = ap (λ m. interval m b) (omega arith) ∙ ap (interval n) (omega arith)
interval-join n (suc a) b =
    let front : n + suc a ≡ suc n + a = omega arith in
    let whole : suc a + b ≡ suc (a + b) = omega arith in
    ap (λ m. n ∷ (interval (suc n) a ++ interval m b)) front ∙ ap (λ l. n ∷ l) (interval-join (suc n) a b) ∙ sym (ap (interval n) whole)

put-binds : (int_max : ℤ) (typing : Typing) (names : Names) (f : ℕ) (t : Option ValueType) (e v : RawTree) → binders (put_read int_max typing names f t e v) ≡ []
put-binds int_max typing names f None e v = refl
put-binds int_max typing names f (Some int_type) e v = refl
put-binds int_max typing names f (Some bool_type) e v = refl
put-binds int_max typing names f (Some (enum_type n)) e v = refl
put-binds int_max typing names f (Some (pair_type t u)) e v = refl
put-binds int_max typing names f (Some (set_type int_type)) e v = refl
put-binds int_max typing names f (Some (set_type bool_type)) e v = refl
put-binds int_max typing names f (Some (set_type (enum_type n))) e v = refl
put-binds int_max typing names f (Some (set_type (set_type t))) e v = refl
put-binds int_max typing names f (Some (set_type (pair_type t u))) e v = over (term_read int_max typing names t e) (term_read int_max typing names u v)
  where
    over : (a b : Option Formula) → binders (overridden f a b) ≡ []
    over None b = refl
    over (Some a) None = refl
    over (Some a) (Some b) = refl

where-binds : (c : Bool) (x z : ℕ) (d : Formula) → binders (chosen_where c x z d) ≡ []
where-binds true x z d = refl
where-binds false x z d = refl

chosen-binds : (typing : Typing) (x : ℕ) (t : Option ValueType) (z : ℕ) (d : Option (Formula × ValueType)) → binders (chosen_in typing x t z d) ≡ []
chosen-binds typing x t z None = refl
chosen-binds typing x t z (Some d) = where-binds (all_one_type t (typing z) d.1) x z d.0

pub old-binds : (names : Names) (n : ℕ) (xs : List RawName) → seconds (old_pairs names n xs) ≡ interval n (length xs)
old-binds names n [] = refl
old-binds names n (x ∷ xs) = ap (λ l. n ∷ l) (old-binds names (suc n) xs)

mutual
  pub binds-interval : (s : SubTree) (int_max : ℤ) (typing : Typing) (above names : Names) (n : ℕ) → binders (elaborated int_max typing above names n s) ≡ interval n (binder_count s)
  binds-interval (sub at node) int_max typing above names n = node-interval node int_max typing above names n

  node-interval : (node : SubNode) (int_max : ℤ) (typing : Typing) (above names : Names) (n : ℕ) → binders (elaborated_node int_max typing above names n node) ≡ interval n (count_in node)
  node-interval sub_skip int_max typing above names n = refl
  node-interval (sub_call ys o ts) int_max typing above names n = refl
  node-interval (sub_assign xs es) int_max typing above names n = refl
  node-interval (sub_assign_at x e v) int_max typing above names n = put-binds int_max typing names (number_of (target names x.text)) (type_at typing (target names x.text)) e v
  node-interval (sub_member x e) int_max typing above names n = ap (λ l. n ∷ l) (chosen-binds typing (number_of (target names x.text)) (type_at typing (target names x.text)) n (ask_domain 0 (outcome_of int_max typing names e)).answer)
  node-interval (sub_such xs p) int_max typing above names n = old-binds names n xs
  node-interval (sub_begin s) int_max typing above names n = binds-interval s int_max typing above names n
  node-interval (sub_pre p s) int_max typing above names n = binds-interval s int_max typing above names n
  node-interval (sub_assert p s) int_max typing above names n = binds-interval s int_max typing above names n
  node-interval (sub_if p s bs) int_max typing above names n = (λ i. binds-interval s int_max typing above names n i ++ else-interval bs int_max typing above names (n + binder_count s) i) ∙ interval-join n (binder_count s) (branches_count bs)
  node-interval (sub_choice s cs) int_max typing above names n = choices-interval cs int_max typing above names (n + binder_count s) (elaborated int_max typing above names n s) n (binder_count s) refl (binds-interval s int_max typing above names n)
  node-interval (sub_select p s bs) int_max typing above names n = selected-interval bs int_max typing above names (n + binder_count s) (unary Negation (predicate_read int_max typing names p)) (guard (predicate_read int_max typing names p) (elaborated int_max typing above names n s)) n (binder_count s) refl (binds-interval s int_max typing above names n)
  node-interval (sub_let xs p s) int_max typing above names n = ap (λ l. interval n (length xs) ++ l) (binds-interval s int_max typing above (bind (numbered n xs) names) (n + length xs)) ∙ interval-join n (length xs) (binder_count s)
  node-interval (sub_any xs p s) int_max typing above names n = ap (λ l. interval n (length xs) ++ l) (binds-interval s int_max typing above (bind (numbered n xs) names) (n + length xs)) ∙ interval-join n (length xs) (binder_count s)
  node-interval (sub_var xs s) int_max typing above names n = ap (λ l. interval n (length xs) ++ l) (binds-interval s int_max typing above (bind (numbered n xs) names) (n + length xs)) ∙ interval-join n (length xs) (binder_count s)
  node-interval (sub_while p s i v) int_max typing above names n = binds-interval s int_max typing above names n
  node-interval (sub_sequence s t) int_max typing above names n = (λ i. binds-interval s int_max typing above names n i ++ binds-interval t int_max typing above names (n + binder_count s) i) ∙ interval-join n (binder_count s) (binder_count t)
  node-interval (sub_parallel s t) int_max typing above names n = (λ i. binds-interval s int_max typing above names n i ++ binds-interval t int_max typing above names (n + binder_count s) i) ∙ interval-join n (binder_count s) (binder_count t)

  else-interval : (bs : Branches) (int_max : ℤ) (typing : Typing) (above names : Names) (n : ℕ) → binders (else_part int_max typing above names n bs) ≡ interval n (branches_count bs)
  else-interval no_branches int_max typing above names n = refl
  else-interval (else_branch s) int_max typing above names n = binds-interval s int_max typing above names n
  else-interval (branch_and p s bs) int_max typing above names n = (λ i. binds-interval s int_max typing above names n i ++ else-interval bs int_max typing above names (n + binder_count s) i) ∙ interval-join n (binder_count s) (branches_count bs)

  -- behind what binds the a numbers from m on
  choices-interval : (cs : Choices) (int_max : ℤ) (typing : Typing) (above names : Names) (n : ℕ) (before : Substitution) (m a : ℕ) → n ≡ m + a → binders before ≡ interval m a → binders (choices int_max typing above names n before cs) ≡ interval m (a + choices_count cs)
  choices-interval no_choices int_max typing above names n before m a e h = h ∙ ap (interval m) (omega arith)
  choices-interval (choice_and s cs) int_max typing above names n before m a e h =
      let one : binders before ++ binders (elaborated int_max typing above names n s) ≡ interval m (a + binder_count s) = (λ i. h i ++ (binds-interval s int_max typing above names n ∙ ap (λ k. interval k (binder_count s)) e) i) ∙ interval-join m a (binder_count s) in
      choices-interval cs int_max typing above names (n + binder_count s) (choice before (elaborated int_max typing above names n s)) m (a + binder_count s) (omega arith) one ∙ ap (interval m) (omega arith)

  selected-interval : (bs : Branches) (int_max : ℤ) (typing : Typing) (above names : Names) (n : ℕ) (nots : Formula) (before : Substitution) (m a : ℕ) → n ≡ m + a → binders before ≡ interval m a → binders (selected int_max typing above names n nots before bs) ≡ interval m (a + branches_count bs)
  selected-interval no_branches int_max typing above names n nots before m a e h = h ∙ ap (interval m) (omega arith)
  selected-interval (else_branch s) int_max typing above names n nots before m a e h = (λ i. h i ++ (binds-interval s int_max typing above names n ∙ ap (λ k. interval k (binder_count s)) e) i) ∙ interval-join m a (binder_count s)
  selected-interval (branch_and p s bs) int_max typing above names n nots before m a e h =
      let one : binders before ++ binders (elaborated int_max typing above names n s) ≡ interval m (a + binder_count s) = (λ i. h i ++ (binds-interval s int_max typing above names n ∙ ap (λ k. interval k (binder_count s)) e) i) ∙ interval-join m a (binder_count s) in
      selected-interval bs int_max typing above names (n + binder_count s) (binary Conjunction nots (unary Negation (predicate_read int_max typing names p))) (choice before (guard (predicate_read int_max typing names p) (elaborated int_max typing above names n s))) m (a + binder_count s) (omega arith) one ∙ ap (interval m) (omega arith)

-- ---- no number of an interval stands twice in it
or-false : (a b : Bool) → a ≡ false → b ≡ false → (a || b) ≡ false
or-false a b h k = rw (h, k) refl

outside : (m n k : ℕ) → m < n → among (interval n k) m ≡ false
outside m n zero h = refl
outside m n (suc k) h = or-false (nat_eq m n) (among (interval (suc n) k) m) (grind (arith, nat_tests)) (outside m (suc n) k (omega arith))

pub interval-distinct : (n k : ℕ) → AreDistinct (interval n k)
interval-distinct n zero = tt
interval-distinct n (suc k) = (outside n (suc n) k (omega arith), interval-distinct (suc n) k)

pub binds-distinct : (s : SubTree) (int_max : ℤ) (typing : Typing) (above names : Names) (n : ℕ) → (binders (elaborated int_max typing above names n s) ≡ interval n (binder_count s)) × AreDistinct (binders (elaborated int_max typing above names n s))
binds-distinct s int_max typing above names n = let e = binds-interval s int_max typing above names n in (e, subst AreDistinct (sym e) (interval-distinct n (binder_count s)))
