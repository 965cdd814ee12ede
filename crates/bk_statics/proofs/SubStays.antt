-- What a substitution without faults names, writes and binds, it may.
use Rattle.std.proofs.Common.{◌≡◌, ◌⊎◌, inl, inr, ℕ, zero, suc, ◌+◌, ◌<◌, ◌≤◌, List, [], ◌∷◌, ◌++◌, length, refl, sym, ap, subst, Bool, true, false, cond, not, ◌||◌, arith, nat_eq}
use Rattle.std.specs.Prelude.{Option, None, Some, pos, ℤ}
use Rattle.std.specs.List.{filter}
use Rattle.std.proofs.lemmas.Bool.Decides.{nat_tests}
use Rattle.bk_val.specs.ValueType.{ValueType, int_type, bool_type, enum_type, pair_type, set_type}
use Rattle.bk_form.specs.Table.{Table, lists_type}
use Rattle.bk_form.specs.Formula.{Formula, variable, literal, btrue, unary, binary}
use Rattle.bk_form.specs.declared.operator.UnOp.TheVariants.{Not as Negation}
use Rattle.bk_form.specs.declared.operator.BinOp.TheVariants.{And as Conjunction}
use Rattle.bk_gsl.specs.Substitution.{Substitution, guard, choice}
use Rattle.bk_form.specs.Role.{bind}
use Rattle.bk_gsl.specs.State.{among, firsts}
use Rattle.bk_dev.specs.Facts.{AllAre, AreDistinct, AreNew, AssignsIn, Names as NamesOnly}
use Rattle.bk_raw.specs.declared.term.RawName.{RawName}
use Rattle.bk_raw.specs.Trees.RawTree.{RawTree, RawTrees, no_trees, tree_and}
use Rattle.bk_raw.specs.Meaning.Names.{Names, Meaning, local, global, set_name, element_name, nothing, level_name}
use Rattle.bk_raw.specs.Meaning.Outcome.{ask_domain, ask_predicate}
use Rattle.bk_raw.specs.Meaning.TermReading.{place_of, part, reading}
use Rattle.bk_raw.specs.Meaning.RightReading.{Whenever}
use Rattle.bk_raw.specs.Meaning.Built.{NamesHave, IsVisible}
use Rattle.bk_raw.specs.Trees.SubTree.{SubTree, sub, SubNode, sub_skip, sub_call, sub_assign, sub_assign_at, sub_member, sub_such, sub_begin, sub_pre, sub_assert, sub_if, sub_choice, sub_select, sub_any, sub_let, sub_var, sub_while, sub_parallel, sub_sequence, Branches, no_branches, else_branch, branch_and, Choices, no_choices, choice_and}
use Rattle.bk_gsl.specs.Writes.{written}
use Rattle.bk_statics.specs.Typings.{Typing, interval, numbered, numbered_old, with_type, typed, Target, unknown, no_variable, variable_target, target, number_of, type_at, or_else, predicate_read, outcome_of, term_read}
use Rattle.bk_statics.specs.Binders.{binder_count}
use Rattle.bk_statics.specs.Elaborated.{with_pair, paired_as, assigned_pairs, old_pairs, overridden, put_read, all_one_type, chosen_where, chosen_in, elaborated, elaborated_node, else_part, choices, selected}
use Rattle.bk_statics.specs.SubFaults.{left_faults, written_names, written_in, written_by, branches_written, choices_written, shared_faults}
use Rattle.bk_statics.specs.Settled.{IsSettled, AreOf, IsSeen, AreSeen, IsBelow}
use Rattle.bk_statics.proofs.LeftFaults.{first-free}
use Rattle.bk_form.proofs.Closed.{term-closed, predicate-closed}
use Rattle.bk_raw.proofs.Filled.{Gives}
use Rattle.bk_raw.proofs.RulesBuilt.{ask_predicate-has, ask-has}
use Rattle.bk_raw.proofs.RulesFit.{none-left, none-right, some-fault}
use Rattle.bk_raw.proofs.ReadingBuilt.{reading-has, part-has, visible-built}
use Rattle.bk_raw.specs.Errors.Faults.{Fault, wrong_write}
use Rattle.bk_statics.proofs.SubTypes.{predicate-typed, term-typed}

pub nat_eq-then : (m n : ℕ) → nat_eq m n ≡ true → m ≡ n
nat_eq-then m n h = grind (arith, nat_tests)

pub or-cases : (a b : Bool) → (a || b) ≡ true → (a ≡ true) ⊎ (b ≡ true)
or-cases true b h = inl refl
or-cases false b h = inr h

-- ---- intervals
pub among-interval : (n k m : ℕ) → among (interval n k) m ≡ true → (n ≤ m) × (m < n + k)
among-interval n zero m h = absurd (cc)
among-interval n (suc k) m h = elim (or-cases (nat_eq m n) (among (interval (suc n) k) m) h) [
  | inl e ↦ (let same = nat_eq-then m n e in (omega arith, omega arith))
  | inr e ↦ (let next = among-interval (suc n) k m e in (omega arith, omega arith))
]

-- none of an interval from n on is visible, where what is visible is below
pub interval-new : (visible : ℕ → Bool) (n k : ℕ) → IsBelow n visible → AreNew visible (interval n k)
interval-new visible n zero h = tt
interval-new visible n (suc k) h = (not-seen (visible n) refl, interval-new visible (suc n) k (λ m e. let l = h m e in omega arith))
  where
    not-seen : (c : Bool) → visible n ≡ c → visible n ≡ false
    not-seen false e = e
    not-seen true e = absurd (let l = h n e in omega arith)

pub below-inside : (visible : ℕ → Bool) (n k : ℕ) → IsBelow n visible → IsBelow (n + k) (λ m. among (interval n k) m || visible m)
below-inside visible n k h m e = elim (or-cases (among (interval n k) m) (visible m) e) [ inl a ↦ (among-interval n k m a).1 | inr a ↦ (let l = h m a in omega arith) ]

pub below-more : (visible : ℕ → Bool) (n k : ℕ) → IsBelow n visible → IsBelow (n + k) visible
below-more visible n k h m e = let l = h m e in omega arith

-- ---- names in sight
pub seen-has : (visible : ℕ → Bool) (n : ℕ) → visible n ≡ true → IsVisible visible (variable n)
seen-has visible n h m e = subst (λ k. visible k ≡ true) (nat_eq-then n m e) h

meaning-has : (visible : ℕ → Bool) (typing : Typing) (text : List ℕ) (m : Meaning) (later : Names) → IsSeen visible m → NamesHave (IsVisible visible) later → NamesHave (IsVisible visible) (record { text = text; meaning = with_type typing m } ∷ later)
meaning-has visible typing text (local t) later h k = (tt, k)
meaning-has visible typing text (global i t) later h k = (seen-has visible i h, k)
meaning-has visible typing text (set_name s) later h k = (tt, k)
meaning-has visible typing text (element_name s e) later h k = (tt, k)
meaning-has visible typing text nothing later h k = (tt, k)

pub seen-names : (visible : ℕ → Bool) (typing : Typing) (names : Names) → AreSeen visible names → NamesHave (IsVisible visible) (typed typing names)
seen-names visible typing [] h = tt
seen-names visible typing (n ∷ ns) h = meaning-has visible typing n.text n.meaning (typed typing ns) h.0 (seen-names visible typing ns h.1)

pub or-left : (a b : Bool) → a ≡ true → (a || b) ≡ true
or-left a b h = rw h refl

pub or-right : (a b : Bool) → b ≡ true → (a || b) ≡ true
or-right true b h = refl
or-right false b h = h

-- more may be seen
meaning-seen : (v w : ℕ → Bool) (m : Meaning) → ((n : ℕ) → v n ≡ true → w n ≡ true) → IsSeen v m → IsSeen w m
meaning-seen v w (local t) f h = tt
meaning-seen v w (global n t) f h = f n h
meaning-seen v w (set_name s) f h = tt
meaning-seen v w (element_name s e) f h = tt
meaning-seen v w nothing f h = tt

pub seen-more : (v w : ℕ → Bool) (names : Names) → ((n : ℕ) → v n ≡ true → w n ≡ true) → AreSeen v names → AreSeen w names
seen-more v w [] f h = tt
seen-more v w (n ∷ ns) f h = (meaning-seen v w n.meaning f h.0, seen-more v w ns f h.1)

pub seen-join : (v : ℕ → Bool) (a b : Names) → AreSeen v a → AreSeen v b → AreSeen v (a ++ b)
seen-join v [] b h k = k
seen-join v (n ∷ ns) b h k = (h.0, seen-join v ns b h.1 k)

has-first : (n m : ℕ) (rest : Bool) (c : Bool) → nat_eq m n ≡ c → ((m ≡ n → ⊥) → rest ≡ true) → (nat_eq m n || rest) ≡ true
has-first n m rest true e f = or-left (nat_eq m n) rest e
has-first n m rest false e f = or-right (nat_eq m n) rest (f (λ k. let t : nat_eq m n ≡ true = grind (arith, nat_tests) in absurd (cc)))

pub interval-has : (n k m : ℕ) → n ≤ m → m < n + k → among (interval n k) m ≡ true
interval-has n zero m h l = absurd (omega arith)
interval-has n (suc k) m h l = has-first n m (among (interval (suc n) k) m) (nat_eq m n) refl (λ e. interval-has (suc n) k m (omega arith) (omega arith))

-- the bound names are seen where their numbers are
inner-seen : (v : ℕ → Bool) (n : ℕ) (xs : List RawName) (names : Names) → ((m : ℕ) → n ≤ m → m < n + length xs → v m ≡ true) → AreSeen v names → AreSeen v (bind (numbered n xs) names)
inner-seen v n [] names f h = h
inner-seen v n (x ∷ xs) names f h = inner-seen v (suc n) xs (record { text = x.text; meaning = global n None } ∷ names) (λ m a b. f m (omega arith) (omega arith)) (f n (omega arith) (omega arith), h)

pub old-seen : (v : ℕ → Bool) (n : ℕ) (xs : List RawName) (names : Names) → ((m : ℕ) → n ≤ m → m < n + length xs → v m ≡ true) → AreSeen v names → AreSeen v (bind (numbered_old n xs) names)
old-seen v n [] names f h = h
old-seen v n (x ∷ xs) names f h = old-seen v (suc n) xs (record { text = level_name x.text 0; meaning = global n None } ∷ names) (λ m a b. f m (omega arith) (omega arith)) (f n (omega arith) (omega arith), h)

pub inside-seen : (visible : ℕ → Bool) (n : ℕ) (xs : List RawName) (names : Names) → AreSeen visible names → AreSeen (λ m. among (interval n (length xs)) m || visible m) (bind (numbered n xs) names)
inside-seen visible n xs names h = inner-seen (λ m. among (interval n (length xs)) m || visible m) n xs names (λ m a b. or-left (among (interval n (length xs)) m) (visible m) (interval-has n (length xs) m a b)) (seen-more visible (λ m. among (interval n (length xs)) m || visible m) names (λ m e. or-right (among (interval n (length xs)) m) (visible m) e) h)

module _ (int_max : ℤ) (table : Table) (typing : Typing) (settled : IsSettled table typing) where
  -- ---- formulas
  or-visible : (visible : ℕ → Bool) (o : Option Formula) → Whenever (IsVisible visible) o → IsVisible visible (or_else btrue o)
  or-visible visible None h n e = absurd (cc)
  or-visible visible (Some p) h n e = h n e

  pub predicate-names : (visible : ℕ → Bool) (names : Names) (p : RawTree) → AreOf table names → AreSeen visible names → NamesOnly visible (predicate_read int_max typing names p)
  predicate-names visible names p h s =
      let r = part true p (reading int_max (typed typing names) p) in
      record {
        closed = predicate-closed table (predicate_read int_max typing names p) (predicate-typed int_max table typing settled names p h);
        visible_only = or-visible visible (ask_predicate r.outcome).answer (ask_predicate-has (IsVisible visible) (visible-built visible) r.outcome (part-has int_max (IsVisible visible) (visible-built visible) true p (reading int_max (typed typing names) p) (reading-has int_max (IsVisible visible) (visible-built visible) p (typed typing names) (seen-names visible typing names s))));
      }

  pub term-visible : (visible : ℕ → Bool) (names : Names) (t : ValueType) (e : RawTree) → AreSeen visible names → Whenever (IsVisible visible) (term_read int_max typing names t e)
  term-visible visible names t e s = ask-has (IsVisible visible) (visible-built visible) (place_of e) (outcome_of int_max typing names e) t (part-has int_max (IsVisible visible) (visible-built visible) false e (reading int_max (typed typing names) e) (reading-has int_max (IsVisible visible) (visible-built visible) e (typed typing names) (seen-names visible typing names s)))

  term-named : (visible : ℕ → Bool) (t : ValueType) (f : Option Formula) → Whenever (Gives table [] t) f → Whenever (IsVisible visible) f → Whenever (NamesOnly visible) f
  term-named visible t None h k = tt
  term-named visible t (Some f) h k = record { closed = term-closed table t f h; visible_only = k }

  pub term-names : (visible : ℕ → Bool) (names : Names) (t : ValueType) (e : RawTree) → AreOf table names → AreSeen visible names → lists_type table t ≡ true → Whenever (NamesOnly visible) (term_read int_max typing names t e)
  term-names visible names t e h s l = term-named visible t (term_read int_max typing names t e) (term-typed int_max table typing settled names t e h l) (term-visible visible names t e s)

  zero-names : (visible : ℕ → Bool) (f : Option Formula) → Whenever (NamesOnly visible) f → NamesOnly visible (or_else (literal (pos 0)) f)
  zero-names visible None h = record { closed = tt; visible_only = λ n e. absurd (cc) }
  zero-names visible (Some f) h = h

  pub variant-names : (visible : ℕ → Bool) (names : Names) (e : RawTree) → AreOf table names → AreSeen visible names → NamesOnly visible (or_else (literal (pos 0)) (term_read int_max typing names int_type e))
  variant-names visible names e h s = zero-names visible (term_read int_max typing names int_type e) (term-names visible names int_type e h s refl)

  -- ---- assignments
  other-number : (before : List ℕ) (m k : ℕ) → among before m ≡ true → among before k ≡ false → nat_eq m k ≡ false
  other-number before m k h l = by_test (nat_eq m k) refl
    where
      by_test : (c : Bool) → nat_eq m k ≡ c → nat_eq m k ≡ false
      by_test false e = e
      by_test true e = let same = nat_eq-then m k e in let t : among before k ≡ true = subst (λ i. among before i ≡ true) same h in absurd (cc)

  or-false : (a b : Bool) → a ≡ false → b ≡ false → (a || b) ≡ false
  or-false a b h k = rw (h, k) refl

  firsts-with : (k m : ℕ) (f : Option Formula) (ps : List (ℕ × Formula)) → nat_eq m k ≡ false → among (firsts ps) m ≡ false → among (firsts (with_pair k f ps)) m ≡ false
  firsts-with k m None ps h l = l
  firsts-with k m (Some f) ps h l = or-false (nat_eq m k) (among (firsts ps) m) h l

  firsts-paired : (names : Names) (x : Target) (o : Option ValueType) (e : RawTree) (m : ℕ) (ps : List (ℕ × Formula)) → nat_eq m (number_of x) ≡ false → among (firsts ps) m ≡ false → among (firsts (paired_as int_max typing names x o e ps)) m ≡ false
  firsts-paired names x None e m ps h l = l
  firsts-paired names x (Some t) e m ps h l = firsts-with (number_of x) m (term_read int_max typing names t e) ps h l

  later-apart : (names : Names) (writable : ℕ → Bool) (before : List ℕ) (m : ℕ) (xs : List RawName) (es : RawTrees) → among before m ≡ true → left_faults names writable before xs ≡ [] → among (firsts (assigned_pairs int_max typing names xs es)) m ≡ false
  later-apart names writable before m [] es h e = refl
  later-apart names writable before m (x ∷ xs) no_trees h e = refl
  later-apart names writable before m (x ∷ xs) (tree_and a es) h e =
      let v = target names x.text in
      let k = first-free names writable before x xs e in
      firsts-paired names v (type_at typing v) a m (assigned_pairs int_max typing names xs es) (other-number before m (number_of v) h k.new) (later-apart names writable (number_of v ∷ before) m xs es (or-right (nat_eq m (number_of v)) (among before m) h) k.rest)

  with-stays : (visible writable : ℕ → Bool) (n : ℕ) (f : Option Formula) (ps : List (ℕ × Formula)) → writable n ≡ true → Whenever (NamesOnly visible) f → among (firsts ps) n ≡ false → AssignsIn visible writable ps → AssignsIn visible writable (with_pair n f ps)
  with-stays visible writable n None ps w h l k = k
  with-stays visible writable n (Some f) ps w h l k = (w, h, l, k)

  at-listed : (x : Target) (t : ValueType) → type_at typing x ≡ Some t → lists_type table t ≡ true
  at-listed (variable_target n) t h = settled.listed n t h
  at-listed unknown t h = absurd (cc)
  at-listed no_variable t h = absurd (cc)

  paired-stays : (visible writable : ℕ → Bool) (names : Names) (x : Target) (o : Option ValueType) (e : RawTree) (ps : List (ℕ × Formula)) → AreOf table names → AreSeen visible names → type_at typing x ≡ o → writable (number_of x) ≡ true → among (firsts ps) (number_of x) ≡ false → AssignsIn visible writable ps → AssignsIn visible writable (paired_as int_max typing names x o e ps)
  paired-stays visible writable names x None e ps h s m w l k = k
  paired-stays visible writable names x (Some t) e ps h s m w l k = with-stays visible writable (number_of x) (term_read int_max typing names t e) ps w (term-names visible names t e h s (at-listed x t m)) l k

  self-among : (n : ℕ) (ns : List ℕ) → among (n ∷ ns) n ≡ true
  self-among n ns = or-left (nat_eq n n) (among ns n) (grind (arith, nat_tests))

  pub assigned-stays : (visible writable : ℕ → Bool) (names : Names) (before : List ℕ) (xs : List RawName) (es : RawTrees) → AreOf table names → AreSeen visible names → left_faults names writable before xs ≡ [] → AssignsIn visible writable (assigned_pairs int_max typing names xs es)
  assigned-stays visible writable names before [] es h s e = tt
  assigned-stays visible writable names before (x ∷ xs) no_trees h s e = tt
  assigned-stays visible writable names before (x ∷ xs) (tree_and a es) h s e =
      let v = target names x.text in
      let k = first-free names writable before x xs e in
      paired-stays visible writable names v (type_at typing v) a (assigned_pairs int_max typing names xs es) h s refl k.free
      (later-apart names writable (number_of v ∷ before) (number_of v) xs es (self-among (number_of v) before) k.rest)
      (assigned-stays visible writable names (number_of v ∷ before) xs es h s k.rest)

  -- ---- x :(P)
  old-later : (names : Names) (writable : ℕ → Bool) (before : List ℕ) (m n : ℕ) (xs : List RawName) → among before m ≡ true → left_faults names writable before xs ≡ [] → among (firsts (old_pairs names n xs)) m ≡ false
  old-later names writable before m n [] h e = refl
  old-later names writable before m n (x ∷ xs) h e =
      let v = target names x.text in
      let k = first-free names writable before x xs e in
      or-false (nat_eq m (number_of v)) (among (firsts (old_pairs names (suc n) xs)) m) (other-number before m (number_of v) h k.new) (old-later names writable (number_of v ∷ before) m (suc n) xs (or-right (nat_eq m (number_of v)) (among before m) h) k.rest)

  pub old-written : (names : Names) (writable : ℕ → Bool) (before : List ℕ) (n : ℕ) (xs : List RawName) → left_faults names writable before xs ≡ [] → AllAre writable (firsts (old_pairs names n xs)) × AreDistinct (firsts (old_pairs names n xs))
  old-written names writable before n [] e = (tt, tt)
  old-written names writable before n (x ∷ xs) e =
      let v = target names x.text in
      let k = first-free names writable before x xs e in
      let later = old-written names writable (number_of v ∷ before) (suc n) xs k.rest in
      ((k.free, later.0), (old-later names writable (number_of v ∷ before) (number_of v) (suc n) xs (self-among (number_of v) before) k.rest, later.1))

-- ---- what is written
among-append : (xs ys : List ℕ) (m : ℕ) → among (xs ++ ys) m ≡ true → (among xs m ≡ true) ⊎ (among ys m ≡ true)
among-append [] ys m h = inr h
among-append (x ∷ xs) ys m h = elim (or-cases (nat_eq m x) (among (xs ++ ys) m) h) [
  | inl e ↦ inl (or-left (nat_eq m x) (among xs m) e)
  | inr e ↦ elim (among-append xs ys m e) [ inl k ↦ inl (or-right (nat_eq m x) (among xs m) k) | inr k ↦ inr k ]
]

numbers-append : (a b : List (ℕ × ℕ)) → firsts (a ++ b) ≡ firsts a ++ firsts b
numbers-append [] b = refl
numbers-append (x ∷ a) b = ap (λ l. x.0 ∷ l) (numbers-append a b)

append-left : (xs ys : List ℕ) (m : ℕ) → among xs m ≡ true → among (xs ++ ys) m ≡ true
append-left [] ys m h = absurd (cc)
append-left (x ∷ xs) ys m h = elim (or-cases (nat_eq m x) (among xs m) h) [ inl e ↦ or-left (nat_eq m x) (among (xs ++ ys) m) e | inr e ↦ or-right (nat_eq m x) (among (xs ++ ys) m) (append-left xs ys m e) ]

append-right : (xs ys : List ℕ) (m : ℕ) → among ys m ≡ true → among (xs ++ ys) m ≡ true
append-right [] ys m h = h
append-right (x ∷ xs) ys m h = or-right (nat_eq m x) (among (xs ++ ys) m) (append-right xs ys m h)

-- among both lists of numbers, one after the other
join-written : (xs ys : List ℕ) (a b : List (ℕ × ℕ)) (m : ℕ) → (among xs m ≡ true → among (firsts a) m ≡ true) → (among ys m ≡ true → among (firsts b) m ≡ true) → among (xs ++ ys) m ≡ true → among (firsts (a ++ b)) m ≡ true
join-written xs ys a b m f g h =
    let e = sym (numbers-append a b) in
    subst (λ l. among l m ≡ true) e (elim (among-append xs ys m h) [ inl k ↦ append-left (firsts a) (firsts b) m (f k) | inr k ↦ append-right (firsts a) (firsts b) m (g k) ])

-- what is among those that pass, passes and is among all
filter-step : (p : ℕ → Bool) (x : ℕ) (xs : List ℕ) (m : ℕ) (c : Bool) → p x ≡ c → (among (filter p xs) m ≡ true → (p m ≡ true) × (among xs m ≡ true)) → among (cond c (x ∷ filter p xs) (filter p xs)) m ≡ true → (p m ≡ true) × (among (x ∷ xs) m ≡ true)
filter-step p x xs m false e next k = let r = next k in (r.0, or-right (nat_eq m x) (among xs m) r.1)
filter-step p x xs m true e next k = elim (or-cases (nat_eq m x) (among (filter p xs) m) k) [
  | inl l ↦ (subst (λ y. p y ≡ true) (sym (nat_eq-then m x l)) e, or-left (nat_eq m x) (among xs m) l)
  | inr l ↦ (let r = next l in (r.0, or-right (nat_eq m x) (among xs m) r.1))
]

filter-passes : (p : ℕ → Bool) (xs : List ℕ) (m : ℕ) → among (filter p xs) m ≡ true → (p m ≡ true) × (among xs m ≡ true)
filter-passes p [] m h = absurd (cc)
filter-passes p (x ∷ xs) m h = filter-step p x xs m (p x) refl (filter-passes p xs m) h

-- and the other way round, for numbers with places
stays-step : (p : ℕ → Bool) (w : ℕ × ℕ) (ws : List (ℕ × ℕ)) (m : ℕ) (c : Bool) → p w.0 ≡ c → p m ≡ true → (among (firsts ws) m ≡ true → among (firsts (filter (λ v. p v.0) ws)) m ≡ true) → among (firsts (w ∷ ws)) m ≡ true → among (firsts (cond c (w ∷ filter (λ v. p v.0) ws) (filter (λ v. p v.0) ws))) m ≡ true
stays-step p w ws m true e q next k = elim (or-cases (nat_eq m w.0) (among (firsts ws) m) k) [ inl l ↦ or-left (nat_eq m w.0) (among (firsts (filter (λ v. p v.0) ws)) m) l | inr l ↦ or-right (nat_eq m w.0) (among (firsts (filter (λ v. p v.0) ws)) m) (next l) ]
stays-step p w ws m false e q next k = elim (or-cases (nat_eq m w.0) (among (firsts ws) m) k) [ inl l ↦ (let t : p w.0 ≡ true = subst (λ y. p y ≡ true) (nat_eq-then m w.0 l) q in absurd (cc)) | inr l ↦ next l ]

numbers-stay : (p : ℕ → Bool) (ws : List (ℕ × ℕ)) (m : ℕ) → p m ≡ true → among (firsts ws) m ≡ true → among (firsts (filter (λ v. p v.0) ws)) m ≡ true
numbers-stay p [] m q h = h
numbers-stay p (w ∷ ws) m q h = stays-step p w ws m (p w.0) refl q (numbers-stay p ws m q) h

filtered-written : (zs xs : List ℕ) (ws : List (ℕ × ℕ)) (m : ℕ) → (among xs m ≡ true → among (firsts ws) m ≡ true) → among (filter (λ n. not (among zs n)) xs) m ≡ true → among (firsts (filter (λ w. not (among zs w.0)) ws)) m ≡ true
filtered-written zs xs ws m f h = let k = filter-passes (λ n. not (among zs n)) xs m h in numbers-stay (λ n. not (among zs n)) ws m k.0 (f k.1)

nothing-behind : {A : Type 0} → (xs : List A) → xs ++ [] ≡ xs
nothing-behind [] = refl
nothing-behind (x ∷ xs) = ap (λ l. x ∷ l) (nothing-behind xs)

joined-behind : {A : Type 0} → (xs ys zs : List A) → xs ++ (ys ++ zs) ≡ (xs ++ ys) ++ zs
joined-behind [] ys zs = refl
joined-behind (x ∷ xs) ys zs = ap (λ l. x ∷ l) (joined-behind xs ys zs)

module _ (int_max : ℤ) (typing : Typing) where
  with-written : (n m : ℕ) (f : Option Formula) (ps : List (ℕ × Formula)) (rest : List ℕ) → (among (firsts ps) m ≡ true → among rest m ≡ true) → among (firsts (with_pair n f ps)) m ≡ true → among (n ∷ rest) m ≡ true
  with-written n m None ps rest f h = or-right (nat_eq m n) (among rest m) (f h)
  with-written n m (Some e) ps rest f h = elim (or-cases (nat_eq m n) (among (firsts ps) m) h) [ inl k ↦ or-left (nat_eq m n) (among rest m) k | inr k ↦ or-right (nat_eq m n) (among rest m) (f k) ]

  paired-written : (names : Names) (x : Target) (o : Option ValueType) (e : RawTree) (m : ℕ) (ps : List (ℕ × Formula)) (rest : List ℕ) → (among (firsts ps) m ≡ true → among rest m ≡ true) → among (firsts (paired_as int_max typing names x o e ps)) m ≡ true → among (number_of x ∷ rest) m ≡ true
  paired-written names x None e m ps rest f h = or-right (nat_eq m (number_of x)) (among rest m) (f h)
  paired-written names x (Some t) e m ps rest f h = with-written (number_of x) m (term_read int_max typing names t e) ps rest f h

  assigned-written : (names : Names) (xs : List RawName) (es : RawTrees) (m : ℕ) → among (firsts (assigned_pairs int_max typing names xs es)) m ≡ true → among (firsts (written_names names xs)) m ≡ true
  assigned-written names [] es m h = absurd (cc)
  assigned-written names (x ∷ xs) no_trees m h = absurd (cc)
  assigned-written names (x ∷ xs) (tree_and e es) m h = paired-written names (target names x.text) (type_at typing (target names x.text)) e m (assigned_pairs int_max typing names xs es) (firsts (written_names names xs)) (assigned-written names xs es m) h

  over-written : (f m : ℕ) (a b : Option Formula) → among (written (overridden f a b)) m ≡ true → among (f ∷ []) m ≡ true
  over-written f m None b h = absurd (cc)
  over-written f m (Some a) None h = absurd (cc)
  over-written f m (Some a) (Some b) h = h

  put-written : (names : Names) (f m : ℕ) (o : Option ValueType) (e v : RawTree) → among (written (put_read int_max typing names f o e v)) m ≡ true → among (f ∷ []) m ≡ true
  put-written names f m None e v h = absurd (cc)
  put-written names f m (Some int_type) e v h = absurd (cc)
  put-written names f m (Some bool_type) e v h = absurd (cc)
  put-written names f m (Some (enum_type n)) e v h = absurd (cc)
  put-written names f m (Some (pair_type t u)) e v h = absurd (cc)
  put-written names f m (Some (set_type int_type)) e v h = absurd (cc)
  put-written names f m (Some (set_type bool_type)) e v h = absurd (cc)
  put-written names f m (Some (set_type (enum_type n))) e v h = absurd (cc)
  put-written names f m (Some (set_type (set_type t))) e v h = absurd (cc)
  put-written names f m (Some (set_type (pair_type t u))) e v h = over-written f m (term_read int_max typing names t e) (term_read int_max typing names u v) h

  where-written : (c : Bool) (x z m : ℕ) (d : Formula) → among (written (chosen_where c x z d)) m ≡ true → among (x ∷ []) m ≡ true
  where-written true x z m d h = h
  where-written false x z m d h = absurd (cc)

  chosen-written : (x : ℕ) (t : Option ValueType) (z m : ℕ) (d : Option (Formula × ValueType)) → among (written (chosen_in typing x t z d)) m ≡ true → among (x ∷ []) m ≡ true
  chosen-written x t z m None h = absurd (cc)
  chosen-written x t z m (Some d) h = where-written (all_one_type t (typing z) d.1) x z m d.0 h

  such-written : (names : Names) (n : ℕ) (xs : List RawName) → firsts (old_pairs names n xs) ≡ firsts (written_names names xs)
  such-written names n [] = refl
  such-written names n (x ∷ xs) = ap (λ l. number_of (target names x.text) ∷ l) (such-written names (suc n) xs)

  mutual
    pub sub-written : (s : SubTree) (above names : Names) (n m : ℕ) → among (written (elaborated int_max typing above names n s)) m ≡ true → among (firsts (written_in names n s)) m ≡ true
    sub-written (sub at node) above names n m h = node-written node above names n m h

    node-written : (node : SubNode) (above names : Names) (n m : ℕ) → among (written (elaborated_node int_max typing above names n node)) m ≡ true → among (firsts (written_by names n node)) m ≡ true
    node-written sub_skip above names n m h = h
    node-written (sub_call ys o ts) above names n m h = h
    node-written (sub_assign xs es) above names n m h = assigned-written names xs es m h
    node-written (sub_assign_at x e v) above names n m h = put-written names (number_of (target names x.text)) m (type_at typing (target names x.text)) e v h
    node-written (sub_member x e) above names n m h = let c = chosen_in typing (number_of (target names x.text)) (type_at typing (target names x.text)) n (ask_domain 0 (outcome_of int_max typing names e)).answer in chosen-written (number_of (target names x.text)) (type_at typing (target names x.text)) n m (ask_domain 0 (outcome_of int_max typing names e)).answer (filter-passes (λ k. not (among (n ∷ []) k)) (written c) m h).1
    node-written (sub_such xs p) above names n m h = subst (λ l. among l m ≡ true) (such-written names n xs) h
    node-written (sub_begin s) above names n m h = sub-written s above names n m h
    node-written (sub_pre p s) above names n m h = sub-written s above names n m h
    node-written (sub_assert p s) above names n m h = sub-written s above names n m h
    node-written (sub_if p s bs) above names n m h = join-written (written (elaborated int_max typing above names n s)) (written (else_part int_max typing above names (n + binder_count s) bs)) (written_in names n s) (branches_written names (n + binder_count s) bs) m (sub-written s above names n m) (else-written bs above names (n + binder_count s) m) h
    node-written (sub_choice s cs) above names n m h = choices-written cs above names (n + binder_count s) m (elaborated int_max typing above names n s) (written_in names n s) (sub-written s above names n m) h
    node-written (sub_select p s bs) above names n m h = selected-written bs above names (n + binder_count s) m (unary Negation (predicate_read int_max typing names p)) (guard (predicate_read int_max typing names p) (elaborated int_max typing above names n s)) (written_in names n s) (sub-written s above names n m) h
    node-written (sub_any xs p s) above names n m h = filtered-written (interval n (length xs)) (written (elaborated int_max typing above (bind (numbered n xs) names) (n + length xs) s)) (written_in (bind (numbered n xs) names) (n + length xs) s) m (sub-written s above (bind (numbered n xs) names) (n + length xs) m) h
    node-written (sub_let xs p s) above names n m h = filtered-written (interval n (length xs)) (written (elaborated int_max typing above (bind (numbered n xs) names) (n + length xs) s)) (written_in (bind (numbered n xs) names) (n + length xs) s) m (sub-written s above (bind (numbered n xs) names) (n + length xs) m) h
    node-written (sub_var xs s) above names n m h = filtered-written (interval n (length xs)) (written (elaborated int_max typing above (bind (numbered n xs) names) (n + length xs) s)) (written_in (bind (numbered n xs) names) (n + length xs) s) m (sub-written s above (bind (numbered n xs) names) (n + length xs) m) h
    node-written (sub_while p s i v) above names n m h = sub-written s above names n m h
    node-written (sub_sequence s t) above names n m h = join-written (written (elaborated int_max typing above names n s)) (written (elaborated int_max typing above names (n + binder_count s) t)) (written_in names n s) (written_in names (n + binder_count s) t) m (sub-written s above names n m) (sub-written t above names (n + binder_count s) m) h
    node-written (sub_parallel s t) above names n m h = join-written (written (elaborated int_max typing above names n s)) (written (elaborated int_max typing above names (n + binder_count s) t)) (written_in names n s) (written_in names (n + binder_count s) t) m (sub-written s above names n m) (sub-written t above names (n + binder_count s) m) h

    else-written : (bs : Branches) (above names : Names) (n m : ℕ) → among (written (else_part int_max typing above names n bs)) m ≡ true → among (firsts (branches_written names n bs)) m ≡ true
    else-written no_branches above names n m h = h
    else-written (else_branch s) above names n m h = sub-written s above names n m h
    else-written (branch_and p s bs) above names n m h = join-written (written (elaborated int_max typing above names n s)) (written (else_part int_max typing above names (n + binder_count s) bs)) (written_in names n s) (branches_written names (n + binder_count s) bs) m (sub-written s above names n m) (else-written bs above names (n + binder_count s) m) h

    choices-written : (cs : Choices) (above names : Names) (n m : ℕ) (before : Substitution) (ws : List (ℕ × ℕ)) → (among (written before) m ≡ true → among (firsts ws) m ≡ true) → among (written (choices int_max typing above names n before cs)) m ≡ true → among (firsts (ws ++ choices_written names n cs)) m ≡ true
    choices-written no_choices above names n m before ws f h = subst (λ l. among (firsts l) m ≡ true) (sym (nothing-behind ws)) (f h)
    choices-written (choice_and s cs) above names n m before ws f h =
        subst (λ l. among (firsts l) m ≡ true) (sym (joined-behind ws (written_in names n s) (choices_written names (n + binder_count s) cs)))
        (choices-written cs above names (n + binder_count s) m (choice before (elaborated int_max typing above names n s)) (ws ++ written_in names n s) (join-written (written before) (written (elaborated int_max typing above names n s)) ws (written_in names n s) m f (sub-written s above names n m)) h)

    selected-written : (bs : Branches) (above names : Names) (n m : ℕ) (nots : Formula) (before : Substitution) (ws : List (ℕ × ℕ)) → (among (written before) m ≡ true → among (firsts ws) m ≡ true) → among (written (selected int_max typing above names n nots before bs)) m ≡ true → among (firsts (ws ++ branches_written names n bs)) m ≡ true
    selected-written no_branches above names n m nots before ws f h = subst (λ l. among (firsts l) m ≡ true) (sym (nothing-behind ws)) (f h)
    selected-written (else_branch s) above names n m nots before ws f h = join-written (written before) (written (elaborated int_max typing above names n s)) ws (written_in names n s) m f (sub-written s above names n m) h
    selected-written (branch_and p s bs) above names n m nots before ws f h =
        subst (λ l. among (firsts l) m ≡ true) (sym (joined-behind ws (written_in names n s) (branches_written names (n + binder_count s) bs)))
        (selected-written bs above names (n + binder_count s) m (binary Conjunction nots (unary Negation (predicate_read int_max typing names p))) (choice before (guard (predicate_read int_max typing names p) (elaborated int_max typing above names n s))) (ws ++ written_in names n s) (join-written (written before) (written (elaborated int_max typing above names n s)) ws (written_in names n s) m f (sub-written s above names n m)) h)

-- where both sides of || are without faults, neither writes what the other does
shared-none : (left : List ℕ) (ws : List (ℕ × ℕ)) (m : ℕ) → shared_faults left ws ≡ [] → among (firsts ws) m ≡ true → among left m ≡ false
shared-none left [] m e h = absurd (cc)
shared-none left (w ∷ ws) m e h =
    let k = shared-first (among left w.0) (wrong_write w.1) (shared_faults left ws) e in
    elim (or-cases (nat_eq m w.0) (among (firsts ws) m) h) [ inl l ↦ subst (λ y. among left y ≡ false) (sym (nat_eq-then m w.0 l)) k.0 | inr l ↦ shared-none left ws m k.1 l ]
  where
    shared-first : (c : Bool) (x : Fault) (fs : List Fault) → cond c (x ∷ []) [] ++ fs ≡ [] → (c ≡ false) × (fs ≡ [])
    shared-first true x fs h = some-fault x fs h
    shared-first false x fs h = (refl, h)

all-are : (p : ℕ → Bool) (ns : List ℕ) → ((m : ℕ) → among ns m ≡ true → p m ≡ true) → AllAre p ns
all-are p [] f = tt
all-are p (n ∷ ns) f = (f n (or-left (nat_eq n n) (among ns n) (grind (arith, nat_tests))), all-are p ns (λ m e. f m (or-right (nat_eq m n) (among ns m) e)))

not-both : (c : Bool) → (c ≡ true → ⊥) → not c ≡ true
not-both true f = absurd (f refl)
not-both false f = refl

pub apart : (left right : List ℕ) (a b : List (ℕ × ℕ)) → ((m : ℕ) → among left m ≡ true → among (firsts a) m ≡ true) → ((m : ℕ) → among right m ≡ true → among (firsts b) m ≡ true) → shared_faults (firsts a) b ≡ [] → AllAre (λ n. not (among right n)) left
apart left right a b f g e = all-are (λ n. not (among right n)) left (λ m h. not-both (among right m) (λ k. let no = shared-none (firsts a) b m e (g m k) in let yes = f m h in absurd (cc)))
