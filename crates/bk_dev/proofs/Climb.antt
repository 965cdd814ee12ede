-- From a run of the last level's body up to one of the machine's: each level's body runs where the one below it ended.
use Rattle.std.proofs.Common.{◌≡◌, ◌⊎◌, inl, inr, ◌<◌, ◌≤◌, ℕ, zero, suc, List, [], ◌∷◌, length, map, take, refl, sym, ◌∙◌, subst, Bool, true, false, ◌||◌, nat_eq, nat_lt, arith, Some, None, Option}
use Rattle.std.specs.Prelude.{slice_index_or}
use Rattle.std.specs.List.{flat_map}
use Rattle.std.proofs.lemmas.Bool.Decides.{nat_tests}
use Rattle.bk_val.specs.CmpLaws.{same_value}
use Rattle.bk_form.specs.Formula.{Formula}
use Rattle.bk_form.specs.Search.{Finder}
use Rattle.bk_form.specs.Environment.{State, IsTypedState, at_state}
use Rattle.bk_gsl.specs.Substitution.{Substitution}
use Rattle.bk_gsl.specs.State.{among}
use Rattle.bk_gsl.specs.Run.{Runs}
use Rattle.bk_gsl.proofs.States.{nat_eq-self}
use Rattle.bk_gsl.proofs.Runs.{run-typed}
use Rattle.bk_dev.specs.declared.kind.Home.{Home}
use Rattle.bk_dev.specs.declared.kind.Home.TheVariants.{Constant, Input, Abstract, Inner, Concrete}
use Rattle.bk_dev.specs.Development.{Level, Development, blank_level, level_at, last}
use Rattle.bk_dev.specs.Hypotheses.{joining}
use Rattle.bk_form.specs.Predicates.{AllHold, equation}
use Rattle.bk_dev.specs.Facts.{is_constant, is_input, is_variable_of, is_variable_above, is_inner_of, home_of, names_own, names_joined, writes_own, AllAre, IsSubOf, IsLawful}
use Rattle.bk_dev.specs.Claims.{beside, JoinsAt}
use Rattle.bk_dev.proofs.Levels.{level_fact}
use Rattle.bk_form.proofs.Members.{or-left, or-right}
use Rattle.bk_dev.proofs.Agree.{all-among, both-false, all-none, joining-same, unchanged}
use Rattle.bk_form.proofs.Conjuncts.{true-append, true-first, true-second}

-- ---- levels one by one
module _ (find : Finder) (dev : Development) (e : State) (F : Level → List Formula) where
  pub flat-then : (n : ℕ) (ls : List Level) → AllHold find (at_state dev.table e) (flat_map F (take n ls)) → (j : ℕ) → j < n → j < length ls → AllHold find (at_state dev.table e) (F (slice_index_or ls j blank_level))
  flat-then zero [] h j p q = absurd (omega arith)
  flat-then zero (l ∷ ls) h j p q = absurd (omega arith)
  flat-then (suc n) [] h j p q = absurd (omega arith)
  flat-then (suc n) (l ∷ ls) h zero p q = true-first find (at_state dev.table e) (F l) (flat_map F (take n ls)) h
  flat-then (suc n) (l ∷ ls) h (suc j) p q = flat-then n ls (true-second find (at_state dev.table e) (F l) (flat_map F (take n ls)) h) j (omega arith) (omega arith)

  pub flat-if : (n : ℕ) (ls : List Level) → ((j : ℕ) → j < n → j < length ls → AllHold find (at_state dev.table e) (F (slice_index_or ls j blank_level))) → AllHold find (at_state dev.table e) (flat_map F (take n ls))
  flat-if zero [] h = tt
  flat-if zero (l ∷ ls) h = tt
  flat-if (suc n) [] h = tt
  flat-if (suc n) (l ∷ ls) h = true-append find (at_state dev.table e) (F l) (flat_map F (take n ls)) (h zero (omega arith) (omega arith)) (flat-if n ls (λ j p q. h (suc j) (omega arith) (omega arith)))

-- ---- homes
-- a variable of the level, an input, or what the level binds
abbrev pub has_cell : ℕ → Option Home → Bool
has_cell k h = is_variable_of k h || is_input h || is_inner_of k h

-- no variable of level k or further down, and not bound there
abbrev pub is_before : ℕ → Option Home → Bool
is_before k (Some (Abstract j)) = nat_lt j k
is_before k (Some (Concrete j)) = nat_lt j k
is_before k (Some (Inner j)) = nat_lt j k
is_before k _ = true

pub before-more : (k : ℕ) (o : Option Home) → is_before k o ≡ true → is_before (suc k) o ≡ true
before-more k None h = refl
before-more k (Some Constant) h = refl
before-more k (Some Input) h = refl
before-more k (Some (Abstract j)) h = grind (arith, nat_tests)
before-more k (Some (Concrete j)) h = grind (arith, nat_tests)
before-more k (Some (Inner j)) h = grind (arith, nat_tests)

before-not-variable : (k i : ℕ) → k ≤ i → (o : Option Home) → is_before k o ≡ true → is_variable_of i o ≡ false
before-not-variable k i p None h = refl
before-not-variable k i p (Some Constant) h = refl
before-not-variable k i p (Some Input) h = refl
before-not-variable k i p (Some (Abstract j)) h = grind (arith, nat_tests)
before-not-variable k i p (Some (Concrete j)) h = grind (arith, nat_tests)
before-not-variable k i p (Some (Inner j)) h = refl

before-not-inner : (k i : ℕ) → k ≤ i → (o : Option Home) → is_before k o ≡ true → is_inner_of i o ≡ false
before-not-inner k i p None h = refl
before-not-inner k i p (Some Constant) h = refl
before-not-inner k i p (Some Input) h = refl
before-not-inner k i p (Some (Abstract j)) h = refl
before-not-inner k i p (Some (Concrete j)) h = refl
before-not-inner k i p (Some (Inner j)) h = grind (arith, nat_tests)

pub constant-before : (k : ℕ) (o : Option Home) → is_constant o ≡ true → is_before k o ≡ true
constant-before k None h = refl
constant-before k (Some Constant) h = refl
constant-before k (Some Input) h = refl
constant-before k (Some (Abstract j)) h = absurd (cc)
constant-before k (Some (Concrete j)) h = absurd (cc)
constant-before k (Some (Inner j)) h = absurd (cc)

pub input-before : (k : ℕ) (o : Option Home) → is_input o ≡ true → is_before k o ≡ true
input-before k None h = refl
input-before k (Some Constant) h = refl
input-before k (Some Input) h = refl
input-before k (Some (Abstract j)) h = absurd (cc)
input-before k (Some (Concrete j)) h = absurd (cc)
input-before k (Some (Inner j)) h = absurd (cc)

pub variable-before : (k i : ℕ) → i < k → (o : Option Home) → is_variable_of i o ≡ true → is_before k o ≡ true
variable-before k i p None h = refl
variable-before k i p (Some Constant) h = refl
variable-before k i p (Some Input) h = refl
variable-before k i p (Some (Abstract j)) h = grind (arith, nat_tests)
variable-before k i p (Some (Concrete j)) h = grind (arith, nat_tests)
variable-before k i p (Some (Inner j)) h = absurd (cc)

pub inner-before : (k i : ℕ) → i < k → (o : Option Home) → is_inner_of i o ≡ true → is_before k o ≡ true
inner-before k i p None h = refl
inner-before k i p (Some Constant) h = refl
inner-before k i p (Some Input) h = refl
inner-before k i p (Some (Abstract j)) h = absurd (cc)
inner-before k i p (Some (Concrete j)) h = absurd (cc)
inner-before k i p (Some (Inner j)) h = grind (arith, nat_tests)

pub above-before : (k i : ℕ) → i ≤ k → (o : Option Home) → is_variable_above i o ≡ true → is_before k o ≡ true
above-before k zero p o h = absurd (cc)
above-before k (suc i) p o h = variable-before k i (omega arith) o h

-- what has a cell of a level further down is not of level k
cell-not-variable : (k l : ℕ) → k < l → (o : Option Home) → has_cell l o ≡ true → is_variable_of k o ≡ false
cell-not-variable k l p None h = refl
cell-not-variable k l p (Some Constant) h = refl
cell-not-variable k l p (Some Input) h = refl
cell-not-variable k l p (Some (Abstract i)) h = by_test (nat_eq i l) refl h
  where
    by_test : (b : Bool) → nat_eq i l ≡ b → b || false || false ≡ true → nat_eq i k ≡ false
    by_test true q r = grind (arith, nat_tests)
    by_test false q r = absurd (cc)
cell-not-variable k l p (Some (Concrete i)) h = by_test (nat_eq i l) refl h
  where
    by_test : (b : Bool) → nat_eq i l ≡ b → b || false || false ≡ true → nat_eq i k ≡ false
    by_test true q r = grind (arith, nat_tests)
    by_test false q r = absurd (cc)
cell-not-variable k l p (Some (Inner i)) h = refl

cell-not-inner : (k l : ℕ) → k < l → (o : Option Home) → has_cell l o ≡ true → is_inner_of k o ≡ false
cell-not-inner k l p None h = refl
cell-not-inner k l p (Some Constant) h = refl
cell-not-inner k l p (Some Input) h = refl
cell-not-inner k l p (Some (Abstract i)) h = refl
cell-not-inner k l p (Some (Concrete i)) h = refl
cell-not-inner k l p (Some (Inner i)) h = grind (arith, nat_tests)

-- constants and variables are not bound
constant-not-variable : (k : ℕ) (o : Option Home) → is_constant o ≡ true → is_variable_of k o ≡ false
constant-not-variable k None h = refl
constant-not-variable k (Some Constant) h = refl
constant-not-variable k (Some Input) h = refl
constant-not-variable k (Some (Abstract j)) h = absurd (cc)
constant-not-variable k (Some (Concrete j)) h = absurd (cc)
constant-not-variable k (Some (Inner j)) h = refl

constant-not-inner : (k : ℕ) (o : Option Home) → is_constant o ≡ true → is_inner_of k o ≡ false
constant-not-inner k None h = refl
constant-not-inner k (Some Constant) h = refl
constant-not-inner k (Some Input) h = refl
constant-not-inner k (Some (Abstract j)) h = refl
constant-not-inner k (Some (Concrete j)) h = refl
constant-not-inner k (Some (Inner j)) h = absurd (cc)

later-not-variable : (k j : ℕ) → k < j → (o : Option Home) → is_variable_of j o ≡ true → is_variable_of k o ≡ false
later-not-variable k j p None h = refl
later-not-variable k j p (Some Constant) h = refl
later-not-variable k j p (Some Input) h = refl
later-not-variable k j p (Some (Abstract i)) h = grind (arith, nat_tests)
later-not-variable k j p (Some (Concrete i)) h = grind (arith, nat_tests)
later-not-variable k j p (Some (Inner i)) h = refl

later-variable-not-inner : (k j : ℕ) (o : Option Home) → is_variable_of j o ≡ true → is_inner_of k o ≡ false
later-variable-not-inner k j None h = refl
later-variable-not-inner k j (Some Constant) h = refl
later-variable-not-inner k j (Some Input) h = refl
later-variable-not-inner k j (Some (Abstract i)) h = refl
later-variable-not-inner k j (Some (Concrete i)) h = refl
later-variable-not-inner k j (Some (Inner i)) h = absurd (cc)

later-inner-not-variable : (k j : ℕ) (o : Option Home) → is_inner_of j o ≡ true → is_variable_of k o ≡ false
later-inner-not-variable k j None h = refl
later-inner-not-variable k j (Some Constant) h = refl
later-inner-not-variable k j (Some Input) h = refl
later-inner-not-variable k j (Some (Abstract i)) h = absurd (cc)
later-inner-not-variable k j (Some (Concrete i)) h = absurd (cc)
later-inner-not-variable k j (Some (Inner i)) h = refl

later-inner-not-inner : (k j : ℕ) → k < j → (o : Option Home) → is_inner_of j o ≡ true → is_inner_of k o ≡ false
later-inner-not-inner k j p None h = refl
later-inner-not-inner k j p (Some Constant) h = refl
later-inner-not-inner k j p (Some Input) h = refl
later-inner-not-inner k j p (Some (Abstract i)) h = refl
later-inner-not-inner k j p (Some (Concrete i)) h = refl
later-inner-not-inner k j p (Some (Inner i)) h = grind (arith, nat_tests)

-- ---- names
pub one_of_three : (a b c : Bool) (P : Type 0) → a || b || c ≡ true → (a ≡ true → P) → (b ≡ true → P) → (c ≡ true → P) → P
one_of_three true b c P h on_a on_b on_c = on_a refl
one_of_three false true c P h on_a on_b on_c = on_b refl
one_of_three false false c P h on_a on_b on_c = on_c h

pub one_of_four : (a b c d : Bool) (P : Type 0) → a || b || c || d ≡ true → (a ≡ true → P) → (b ≡ true → P) → (c ≡ true → P) → (d ≡ true → P) → P
one_of_four true b c d P h on_a on_b on_c on_d = on_a refl
one_of_four false true c d P h on_a on_b on_c on_d = on_b refl
one_of_four false false true d P h on_a on_b on_c on_d = on_c refl
one_of_four false false false d P h on_a on_b on_c on_d = on_d h

-- what an invariant of level j names is no variable further down than j
pub joined-before : (dev : Development) (k j : ℕ) → j < k → (n : ℕ) → names_joined dev j n ≡ true → is_before k (home_of dev n) ≡ true
joined-before dev k j p n h = one_of_three (is_constant (home_of dev n)) (is_variable_of j (home_of dev n)) (is_variable_above j (home_of dev n)) (is_before k (home_of dev n) ≡ true) h
    (constant-before k (home_of dev n)) (variable-before k j p (home_of dev n)) (above-before k j (omega arith) (home_of dev n))

-- what a body of level j names is neither
pub own-before : (dev : Development) (k j : ℕ) → j < k → (inputs outputs : List ℕ) → AllAre (λ n. is_input (home_of dev n)) inputs → AllAre (λ n. is_inner_of j (home_of dev n)) outputs → (n : ℕ) → names_own dev j inputs outputs n ≡ true → is_before k (home_of dev n) ≡ true
own-before dev k j p inputs outputs ins outs n h = one_of_four (is_constant (home_of dev n)) (among inputs n) (is_variable_of j (home_of dev n)) (among outputs n) (is_before k (home_of dev n) ≡ true) h
    (constant-before k (home_of dev n)) (λ q. input-before k (home_of dev n) (all-among (λ n. is_input (home_of dev n)) inputs ins n q))
    (variable-before k j p (home_of dev n)) (λ q. inner-before k j p (home_of dev n) (all-among (λ n. is_inner_of j (home_of dev n)) outputs outs n q))

-- ---- lists of values
pub map-same : (xs : List ℕ) (a b : State) → ((n : ℕ) → among xs n ≡ true → a n ≡ b n) → map a xs ≡ map b xs
map-same [] a b h = refl
map-same (x ∷ xs) a b h =
    let first = h x (or-left (nat_eq x x) (among xs x) (nat_eq-self x)) in
    let rest = map-same xs a b (λ n k. h n (or-right (nat_eq n x) (among xs n) k)) in
    λ i. first i ∷ rest i

beside-equal : (find : Finder) (dev : Development) (z : State) (xs ys : List ℕ) → length xs ≡ length ys → AllHold find (at_state dev.table z) (map equation (beside xs ys)) → map z xs ≡ map z ys
beside-equal find dev z [] [] many h = refl
beside-equal find dev z [] (y ∷ ys) many h = absurd (omega (arith, many))
beside-equal find dev z (x ∷ xs) [] many h = absurd (omega (arith, many))
beside-equal find dev z (x ∷ xs) (y ∷ ys) many h =
    let first = same_value (z x) (z y) h.0 in
    let rest = beside-equal find dev z xs ys (omega (arith, many)) h.1 in
    λ i. first i ∷ rest i

-- ---- the climb
-- a run of level k's body from a state that is e in all that is not further down; the levels below k are joined after it
pub record Climbed (find : Finder) (dev : Development) (sub : ℕ → Substitution) (outs : ℕ → List ℕ) (e top : State) (k : ℕ) : Type 0 where
  pub before : State
  pub after : State
  pub typed : IsTypedState dev.table before
  pub runs : Runs find dev.table (sub k) before after
  pub same : (n : ℕ) → is_before (suc k) (home_of dev n) ≡ true → before n ≡ e n
  -- the cells are those of the last level's run
  pub kept : (n : ℕ) → has_cell (last dev) (home_of dev n) ≡ true → after n ≡ top n
  pub joins : (j : ℕ) → k < j → j ≤ last dev → AllHold find (at_state dev.table after) (joining (level_at dev j))
  pub gives : map after (outs k) ≡ map top (outs (last dev))

-- each run of a level's body from a state that is e in all that is not further down is answered by one of the level above
abbrev pub Carry : Finder → Development → (ℕ → Substitution) → (ℕ → List ℕ) → State → Type 0
Carry find dev sub outs e = (k : ℕ) → suc k ≤ last dev → (x y : State) → IsTypedState dev.table x → ((n : ℕ) → is_before (suc (suc k)) (home_of dev n) ≡ true → x n ≡ e n) → Runs find dev.table (sub (suc k)) x y →
    (z : State) × Runs find dev.table (sub k) y z × JoinsAt find dev (suc k) (outs (suc k)) (outs k) z

module _ (find : Finder) (dev : Development) (facts : IsLawful dev) (inputs : List ℕ) (sub : ℕ → Substitution) (outs : ℕ → List ℕ)
    (subs : (k : ℕ) → k ≤ last dev → IsSubOf dev k inputs (outs k) (sub k)) (inner : (k : ℕ) → k ≤ last dev → AllAre (λ n. is_inner_of k (home_of dev n)) (outs k))
    (as_many : (k : ℕ) → suc k ≤ last dev → length (outs (suc k)) ≡ length (outs k)) where
  -- what level k's body leaves
  pub stays : (k : ℕ) → k ≤ last dev → (x y : State) → Runs find dev.table (sub k) x y → (n : ℕ) → is_variable_of k (home_of dev n) ≡ false → is_inner_of k (home_of dev n) ≡ false → y n ≡ x n
  stays k m x y r n v i = unchanged find dev.table (names_own dev k inputs (outs k)) (names_joined dev k) (writes_own dev k (outs k)) (sub k) (subs k m).stays x y r n
      (both-false (is_variable_of k (home_of dev n)) (among (outs k) n) v (all-none (λ n. is_inner_of k (home_of dev n)) (outs k) (inner k m) n i))

  pub stays-before : (k i : ℕ) → k ≤ i → i ≤ last dev → (x y : State) → Runs find dev.table (sub i) x y → (n : ℕ) → is_before k (home_of dev n) ≡ true → y n ≡ x n
  stays-before k i p m x y r n h = stays i m x y r n (before-not-variable k i p (home_of dev n) h) (before-not-inner k i p (home_of dev n) h)

  within : (k : ℕ) → k ≤ last dev → k < length dev.levels
  within k m = let some : 0 < length dev.levels = facts.some_level in omega arith

  module _ (e top : State) (carry : Carry find dev sub outs e) where
    climb-one : (k : ℕ) → suc k ≤ last dev → Climbed find dev sub outs e top (suc k) → Climbed find dev sub outs e top k
    climb-one k m c =
        let w = carry k m c.before c.after c.typed c.same c.runs in
        let z = w.0 in
        let joined : AllHold find (at_state dev.table z) (joining (level_at dev (suc k))) = true-first find (at_state dev.table z) (joining (level_at dev (suc k))) (map equation (beside (outs (suc k)) (outs k))) w.2 in
        let linked : AllHold find (at_state dev.table z) (map equation (beside (outs (suc k)) (outs k))) = true-second find (at_state dev.table z) (joining (level_at dev (suc k))) (map equation (beside (outs (suc k)) (outs k))) w.2 in
        record {
          before = c.after;
          after = z;
          typed = run-typed find dev.table facts.table (sub (suc k)) (subs (suc k) m).types c.before c.after c.typed c.runs;
          runs = w.1;
          same = λ n h. stays-before (suc k) (suc k) (omega arith) m c.before c.after c.runs n h ∙ c.same n (before-more (suc k) (home_of dev n) h);
          kept = λ n h. stays k (omega arith) c.after z w.1 n (cell-not-variable k (last dev) m (home_of dev n) h) (cell-not-inner k (last dev) m (home_of dev n) h) ∙ c.kept n h;
          joins = λ j p q. later z w.1 joined j p q (next-or-more k j p);
          gives = sym (beside-equal find dev z (outs (suc k)) (outs k) (as_many k m) linked) ∙ map-same (outs (suc k)) z c.after (λ n h. own_outputs z w.1 n (all-among (λ n. is_inner_of (suc k) (home_of dev n)) (outs (suc k)) (inner (suc k) m) n h)) ∙ c.gives;
        }
      where
        next-or-more : (k j : ℕ) → k < j → (j ≡ suc k) ⊎ (suc k < j)
        next-or-more k j h = by_test (nat_lt (suc k) j) refl
          where
            by_test : (b : Bool) → nat_lt (suc k) j ≡ b → (j ≡ suc k) ⊎ (suc k < j)
            by_test true x = inr (grind (arith, nat_tests))
            by_test false x = inl (grind (arith, nat_tests))

        own_outputs : (z : State) → Runs find dev.table (sub k) c.after z → (n : ℕ) → is_inner_of (suc k) (home_of dev n) ≡ true → z n ≡ c.after n
        own_outputs z r n h = stays k (omega arith) c.after z r n (later-inner-not-variable k (suc k) (home_of dev n) h) (later-inner-not-inner k (suc k) (omega arith) (home_of dev n) h)

        above-stays : (z : State) → Runs find dev.table (sub k) c.after z → (j : ℕ) → suc k < j → (n : ℕ) → is_variable_above j (home_of dev n) ≡ true → c.after n ≡ z n
        above-stays z r zero p n h = absurd (omega arith)
        above-stays z r (suc j) p n h = sym (stays k (omega arith) c.after z r n (later-not-variable k j (omega arith) (home_of dev n) h) (later-variable-not-inner k j (home_of dev n) h))

        named-stays : (z : State) → Runs find dev.table (sub k) c.after z → (j : ℕ) → suc k < j → (n : ℕ) → names_joined dev j n ≡ true → c.after n ≡ z n
        named-stays z r j p n h = one_of_three (is_constant (home_of dev n)) (is_variable_of j (home_of dev n)) (is_variable_above j (home_of dev n)) (c.after n ≡ z n) h
            (λ q. sym (stays k (omega arith) c.after z r n (constant-not-variable k (home_of dev n) q) (constant-not-inner k (home_of dev n) q)))
            (λ q. sym (stays k (omega arith) c.after z r n (later-not-variable k j (omega arith) (home_of dev n) q) (later-variable-not-inner k j (home_of dev n) q)))
            (above-stays z r j p n)

        later : (z : State) → Runs find dev.table (sub k) c.after z → AllHold find (at_state dev.table z) (joining (level_at dev (suc k))) → (j : ℕ) → k < j → j ≤ last dev → (j ≡ suc k) ⊎ (suc k < j) → AllHold find (at_state dev.table z) (joining (level_at dev j))
        later z r joined j p q (inl same) = subst (λ i. AllHold find (at_state dev.table z) (joining (level_at dev i))) (sym same) joined
        later z r joined j p q (inr more) =
            let l = level_fact dev facts j (within j q) in
            joining-same find dev.table dev j (level_at dev j) l.invariant.names l.links c.after z (named-stays z r j more) (c.joins j more q)

    climb : (k : ℕ) → k ≤ last dev → Climbed find dev sub outs e top k → Climbed find dev sub outs e top zero
    climb zero m c = c
    climb (suc k) m c = climb k (omega arith) (climb-one k m c)

    -- from the last level to the machine
    pub climbed : IsTypedState dev.table e → Runs find dev.table (sub (last dev)) e top → Climbed find dev sub outs e top zero
    climbed typed r = climb (last dev) (omega arith) (record {
      before = e;
      after = top;
      typed = typed;
      runs = r;
      same = λ n h. refl;
      kept = λ n h. refl;
      joins = λ j p q. absurd (omega arith);
      gives = refl;
    })
