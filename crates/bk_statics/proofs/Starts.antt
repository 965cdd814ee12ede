-- Without faults the initialisation types, and names and writes what it may.
use Rattle.std.proofs.Common.{◌≡◌, ℕ, zero, suc, ◌+◌, ◌<◌, ◌≤◌, List, [], ◌∷◌, ◌++◌, length, refl, sym, ◌∙◌, ap, subst, Bool, true, false, cond, ◌||◌, arith, nat_eq}
use Rattle.std.specs.Prelude.{Option, None, Some, slice_get, ℤ}
use Rattle.std.proofs.lemmas.Bool.Decides.{nat_tests}
use Rattle.std.proofs.lemmas.Option.{slice_get_past}
use Rattle.bk_val.specs.ValueType.{ValueType}
use Rattle.bk_form.specs.Role.{bind}
use Rattle.bk_form.specs.Table.{SetEntry, VariableEntry}
use Rattle.bk_gsl.specs.State.{among}
use Rattle.bk_dev.specs.declared.kind.Home.{Home}
use Rattle.bk_dev.specs.declared.kind.Home.TheVariants.{Constant, Input, Abstract, Concrete, Inner}
use Rattle.bk_dev.specs.Facts.{is_constant, is_variable_of, is_variable_above, home_of, names_own, names_joined}
use Rattle.bk_raw.specs.declared.term.RawName.{RawName}
use Rattle.bk_raw.specs.Meaning.Names.{Names, global}
use Rattle.bk_raw.specs.Meaning.Outcome.{no_type}
use Rattle.bk_raw.specs.Meaning.Binders.{has_type}
use Rattle.bk_raw.specs.Meaning.Speaking.{HasType, AreTyped}
use Rattle.bk_statics.specs.Settled.{AreSeen, IsBelow}
use Rattle.bk_statics.specs.Typings.{Typing, numbered, typed}
use Rattle.bk_statics.specs.SubFaults.{sub_faults}
use Rattle.bk_raw.proofs.RulesFit.{none-left, none-right, some-fault}
use Rattle.bk_statics.proofs.SubStays.{seen-more, seen-join}
use Rattle.bk_statics.proofs.SubTypes.{elaborated-types}
use Rattle.bk_statics.proofs.SubMay.{elaborated-stays}
use Rattle.bk_statics.specs.Components.{WrittenVariable, Component, initialisation}
use Rattle.bk_raw.specs.Meaning.ScopeReading.{element_names, set_names}
use Rattle.bk_raw.specs.Errors.Faults.{Fault, without_type}
use Rattle.bk_statics.specs.Above.{constants_from, globals_of}
use Rattle.bk_statics.specs.Plan.{Declared, names_from, entries_of, Plan, plan, operations_of, level_names, scope, invariant_scope}
use Rattle.bk_statics.specs.LevelOf.{types_at, made}
use Rattle.bk_statics.specs.ClauseFaults.{is_flat, constant_faults, variable_faults, declared_at, clause_faults, stated_faults, all_stated_faults, entry_faults, set_faults, place_or}
use Rattle.bk_statics.specs.NameFaults.{name_faults}
use Rattle.bk_statics.specs.OperationFaults.{operation_faults}
use Rattle.bk_statics.specs.StaticFaults.{all_body_faults, writes, static_faults}
use Rattle.bk_statics.specs.LevelLaws.{IsReady, StartsRight}
use Rattle.bk_statics.proofs.Listed.{of_entry, variable-entry}
use Rattle.bk_statics.proofs.Stands.{split-at, low-type, stands, scope-stands, upper-stands}
use Rattle.bk_statics.proofs.Homes.{IsInside, old-home, constant-home, variable-home, inside-home, IsHomeOf}
use Rattle.bk_dev.specs.Development.{Development}
use Rattle.bk_statics.specs.ValueFaults.{value_faults_of}

-- ---- lists of names
module _ (visible : ℕ → Bool) where
  seen-elements : (s i : ℕ) (xs : List (List ℕ)) → AreSeen visible (element_names s i xs)
  seen-elements s i [] = tt
  seen-elements s i (x ∷ xs) = (tt, seen-elements s (suc i) xs)

  pub seen-sets : (s : ℕ) (es : List SetEntry) → AreSeen visible (set_names s es)
  seen-sets s [] = tt
  seen-sets s (e ∷ es) = (tt, seen-join visible (element_names s 0 e.elements) (set_names (suc s) es) (seen-elements s 0 e.elements) (seen-sets (suc s) es))

  pub seen-constants : (n : ℕ) (hs : List Home) (vs : List VariableEntry) → ((i : ℕ) → i < length vs → slice_get hs i ≡ Some Constant → visible (n + i) ≡ true) → AreSeen visible (constants_from n hs vs)
  seen-constants n [] vs f = tt
  seen-constants n (h ∷ hs) [] f = tt
  seen-constants n (Constant ∷ hs) (v ∷ vs) f = (at-first n (f 0 (omega arith) refl), seen-constants (suc n) hs vs (λ i l e. at-next n i (f (suc i) (omega arith) e)))
    where
      at-first : (n : ℕ) → visible (n + 0) ≡ true → visible n ≡ true
      at-first n h = let e : n + 0 ≡ n = omega arith in subst (λ m. visible m ≡ true) e h

      at-next : (n i : ℕ) → visible (n + suc i) ≡ true → visible (suc n + i) ≡ true
      at-next n i h = let e : n + suc i ≡ suc n + i = omega arith in subst (λ m. visible m ≡ true) e h
  seen-constants n (Input ∷ hs) (v ∷ vs) f = seen-constants (suc n) hs vs (λ i l e. next n i (f (suc i) (omega arith) e))
    where
      next : (n i : ℕ) → visible (n + suc i) ≡ true → visible (suc n + i) ≡ true
      next n i h = let e : n + suc i ≡ suc n + i = omega arith in subst (λ m. visible m ≡ true) e h
  seen-constants n (Abstract k ∷ hs) (v ∷ vs) f = seen-constants (suc n) hs vs (λ i l e. next n i (f (suc i) (omega arith) e))
    where
      next : (n i : ℕ) → visible (n + suc i) ≡ true → visible (suc n + i) ≡ true
      next n i h = let e : n + suc i ≡ suc n + i = omega arith in subst (λ m. visible m ≡ true) e h
  seen-constants n (Concrete k ∷ hs) (v ∷ vs) f = seen-constants (suc n) hs vs (λ i l e. next n i (f (suc i) (omega arith) e))
    where
      next : (n i : ℕ) → visible (n + suc i) ≡ true → visible (suc n + i) ≡ true
      next n i h = let e : n + suc i ≡ suc n + i = omega arith in subst (λ m. visible m ≡ true) e h
  seen-constants n (Inner k ∷ hs) (v ∷ vs) f = seen-constants (suc n) hs vs (λ i l e. next n i (f (suc i) (omega arith) e))
    where
      next : (n i : ℕ) → visible (n + suc i) ≡ true → visible (suc n + i) ≡ true
      next n i h = let e : n + suc i ≡ suc n + i = omega arith in subst (λ m. visible m ≡ true) e h

  pub seen-numbered : (n : ℕ) (xs : List RawName) (names : Names) → ((m : ℕ) → n ≤ m → m < n + length xs → visible m ≡ true) → AreSeen visible names → AreSeen visible (bind (numbered n xs) names)
  seen-numbered n [] names f h = h
  seen-numbered n (x ∷ xs) names f h = seen-numbered (suc n) xs (record { text = x.text; meaning = global n None } ∷ names) (λ m a b. f m (omega arith) (omega arith)) (f n (omega arith) (omega arith), h)

  pub seen-declared : (n : ℕ) (ds : List Declared) → ((m : ℕ) → n ≤ m → m < n + length ds → visible m ≡ true) → AreSeen visible (names_from n ds)
  seen-declared n [] f = tt
  seen-declared n (d ∷ ds) f = (f n (omega arith) (omega arith), seen-declared (suc n) ds (λ m a b. f m (omega arith) (omega arith)))

module _ (typing : Typing) where
  typed-one : (o : Option ValueType) (n : ℕ) → has_type o ≡ true → HasType (global n o)
  typed-one None n h = absurd (cc)
  typed-one (Some t) n h = tt

  flat-typed : (o : Option ValueType) → is_flat o ≡ true → has_type o ≡ true
  flat-typed None h = h
  flat-typed (Some t) h = refl

  has-it : (c : Bool) (at : ℕ) (fs : List Fault) → cond c [] (no_type at) ++ fs ≡ [] → (c ≡ true) × (fs ≡ [])
  has-it true at fs h = (refl, h)
  has-it false at fs h = some-fault (without_type at) fs h

  typed-join : (a b : Names) → AreTyped (typed typing a) → AreTyped (typed typing b) → AreTyped (typed typing (a ++ b))
  typed-join [] b h k = k
  typed-join (n ∷ ns) b h k = (h.0, typed-join ns b h.1 k)

  pub typed-declared : (here : ℕ) (vs : List WrittenVariable) (n : ℕ) (ds : List Declared) → variable_faults typing here vs n ds ≡ [] → AreTyped (typed typing (names_from n ds))
  typed-declared here vs n [] e = tt
  typed-declared here vs n (d ∷ ds) e = let k = has-it (has_type (typing n)) (place_or here (declared_at vs d.text)) (variable_faults typing here vs (suc n) ds) e in (typed-one (typing n) n k.0, typed-declared here vs (suc n) ds k.1)

  pub typed-new : (n : ℕ) (xs : List RawName) (names : Names) → constant_faults typing n xs ≡ [] → AreTyped (typed typing names) → AreTyped (typed typing (bind (numbered n xs) names))
  typed-new n [] names e h = h
  typed-new n (x ∷ xs) names e h = let k = has-it (is_flat (typing n)) x.at (constant_faults typing (suc n) xs) e in typed-new (suc n) xs (record { text = x.text; meaning = global n None } ∷ names) k.1 (typed-one (typing n) n (flat-typed (typing n) k.0), h)

  typed-elements : (s i : ℕ) (xs : List (List ℕ)) → AreTyped (typed typing (element_names s i xs))
  typed-elements s i [] = tt
  typed-elements s i (x ∷ xs) = (tt, typed-elements s (suc i) xs)

  pub typed-sets : (s : ℕ) (es : List SetEntry) → AreTyped (typed typing (set_names s es))
  typed-sets s [] = tt
  typed-sets s (e ∷ es) = (tt, typed-join (element_names s 0 e.elements) (set_names (suc s) es) (typed-elements s 0 e.elements) (typed-sets (suc s) es))

  pub typed-constants : (n : ℕ) (hs : List Home) (vs : List VariableEntry) → ((m : ℕ) → n ≤ m → m < n + length vs → has_type (typing m) ≡ true) → AreTyped (typed typing (constants_from n hs vs))
  typed-constants n [] vs f = tt
  typed-constants n (h ∷ hs) [] f = tt
  typed-constants n (Constant ∷ hs) (v ∷ vs) f = (typed-one (typing n) n (f n (omega arith) (omega arith)), typed-constants (suc n) hs vs (λ m a b. f m (omega arith) (omega arith)))
  typed-constants n (Input ∷ hs) (v ∷ vs) f = typed-constants (suc n) hs vs (λ m a b. f m (omega arith) (omega arith))
  typed-constants n (Abstract k ∷ hs) (v ∷ vs) f = typed-constants (suc n) hs vs (λ m a b. f m (omega arith) (omega arith))
  typed-constants n (Concrete k ∷ hs) (v ∷ vs) f = typed-constants (suc n) hs vs (λ m a b. f m (omega arith) (omega arith))
  typed-constants n (Inner k ∷ hs) (v ∷ vs) f = typed-constants (suc n) hs vs (λ m a b. f m (omega arith) (omega arith))

  pub typed-all : (a b : Names) → AreTyped (typed typing a) → AreTyped (typed typing b) → AreTyped (typed typing (a ++ b))
  typed-all a b h k = typed-join a b h k

-- ---- what is visible, by a variable's home
abbrev own_by : ℕ → ℕ → Option Home → Bool
own_by k n o = is_constant o || among [] n || is_variable_of k o || among [] n

own-variable : (k n : ℕ) (o : Option Home) → IsHomeOf k o → own_by k n o ≡ true
own-variable k n (Some (Abstract j)) h = let s : j ≡ k = h in let e : nat_eq j k ≡ true = grind (arith, nat_tests) in ap (λ b. is_constant (Some (Abstract j)) || among [] n || b || among [] n) e
own-variable k n (Some (Concrete j)) h = let s : j ≡ k = h in let e : nat_eq j k ≡ true = grind (arith, nat_tests) in ap (λ b. is_constant (Some (Concrete j)) || among [] n || b || among [] n) e
own-variable k n None h = absurd h
own-variable k n (Some Constant) h = absurd h
own-variable k n (Some Input) h = absurd h
own-variable k n (Some (Inner j)) h = absurd h

own-inside : (k n : ℕ) (o : Option Home) → IsInside o → own_by k n o ≡ true → ⊥
own-inside k n None h e = absurd (cc)
own-inside k n (Some Input) h e = absurd (cc)
own-inside k n (Some (Inner j)) h e = absurd (cc)
own-inside k n (Some Constant) h e = h
own-inside k n (Some (Abstract j)) h e = h
own-inside k n (Some (Concrete j)) h e = h

pub above-none : (k : ℕ) → is_variable_above k None ≡ true → ⊥
above-none zero h = absurd (cc)
above-none (suc k) h = absurd (cc)

pub joined-above : (a b c : Bool) → c ≡ true → (a || b || c) ≡ true
joined-above true b c h = refl
joined-above false true c h = refl
joined-above false false c h = h

pub entry-typed : (vs : List VariableEntry) (i : ℕ) → i < length vs → has_type (of_entry (slice_get vs i)) ≡ true
entry-typed [] i h = absurd (omega arith)
entry-typed (v ∷ vs) zero h = refl
entry-typed (v ∷ vs) (suc i) h = entry-typed vs i (omega arith)

pub starts-right : (int_max : ℤ) (higher : Development) (comp : Component) → IsReady higher → static_faults int_max higher comp ≡ [] → StartsRight int_max higher comp
starts-right int_max higher comp ready none =
    let p = plan higher comp in
    let old = higher in
    let new = made int_max higher comp p in
    let typing = types_at int_max higher comp p in
    let base = length old.table.variables in
    let visible : ℕ → Bool = names_own new p.level [] [] in
    let st = stands int_max higher comp ready.table in
    let clauses = clause_faults int_max typing p comp in
    let operations = operation_faults higher comp p in
    let start = sub_faults int_max typing p.upper (scope p) (writes int_max higher comp p []) p.binders_at (initialisation comp) in
    let after = all_body_faults int_max higher comp typing p (operations_of p comp) ++ value_faults_of int_max higher typing p comp in
    let e1 = none-right (name_faults higher comp) (clauses ++ (operations ++ (start ++ after))) none in
    let all-said = none-left clauses (operations ++ (start ++ after)) e1 in
    let begun = none-left start after (none-right operations (start ++ after) (none-right clauses (operations ++ (start ++ after)) e1)) in
    let more = stated_faults int_max typing p.globals comp.properties ++ (stated_faults int_max typing (invariant_scope p) comp.invariant ++ (all_stated_faults int_max typing (invariant_scope p) comp.assertions ++ entry_faults int_max typing p.globals comp.values)) in
    let vars = variable_faults typing comp.name.at comp.variables p.variables_at p.variables in
    let said = none-right (set_faults comp.sets) (constant_faults typing p.constants_at comp.constants ++ (vars ++ more)) all-said in
    let constants-none = none-left (constant_faults typing p.constants_at comp.constants) (vars ++ more) said in
    let vars-none = none-left vars more (none-right (constant_faults typing p.constants_at comp.constants) (vars ++ more) said) in
    let old-typed : (m : ℕ) → m < base → has_type (typing m) ≡ true = λ m h. ap has_type (low-type int_max higher comp ready.table m h ∙ variable-entry old.table m) ∙ entry-typed old.table.variables m h in
    let names-typed = typed-all typing (level_names p) p.globals (typed-declared typing comp.name.at comp.variables p.variables_at p.variables vars-none)
    (typed-new typing base comp.constants (set_names (length old.table.sets) (entries_of comp.sets) ++ globals_of old) constants-none
    (typed-all typing (set_names (length old.table.sets) (entries_of comp.sets)) (globals_of old) (typed-sets typing (length old.table.sets) (entries_of comp.sets))
    (typed-all typing (set_names 0 old.table.sets) (constants_from 0 old.homes old.table.variables) (typed-sets typing 0 old.table.sets) (typed-constants typing 0 old.homes old.table.variables (λ m a b. old-typed m (omega arith)))))) in
    let by : (n : ℕ) (o : Option Home) → home_of new n ≡ o → own_by p.level n o ≡ true → visible n ≡ true = λ n o e h. ap (own_by p.level n) e ∙ h in
    let old-constant : (i : ℕ) → i < length old.table.variables → slice_get old.homes i ≡ Some Constant → visible (0 + i) ≡ true = λ i l e. (let z : 0 + i ≡ i = omega arith in subst (λ m. visible m ≡ true) (sym z) (by i (Some Constant) (old-home int_max higher comp ready.homes i l ∙ e) refl)) in
    let seen = seen-join visible (level_names p) p.globals (seen-declared visible p.variables_at p.variables (λ m a b. own-variable p.level m (home_of new m) (variable-home int_max higher comp ready.homes m a b)))
    (seen-numbered visible base comp.constants (set_names (length old.table.sets) (entries_of comp.sets) ++ globals_of old) (λ m a b. by m (Some Constant) (constant-home int_max higher comp ready.homes m a b) refl)
    (seen-join visible (set_names (length old.table.sets) (entries_of comp.sets)) (globals_of old) (seen-sets visible (length old.table.sets) (entries_of comp.sets))
    (seen-join visible (set_names 0 old.table.sets) (constants_from 0 old.homes old.table.variables) (seen-sets visible 0 old.table.sets) (seen-constants visible 0 old.homes old.table.variables old-constant)))) in
    let low : IsBelow p.binders_at visible = λ m h. split-at (m < p.binders_at) m p.inputs_at (λ a. omega arith) (λ a. absurd (own-inside p.level m (home_of new m) (inside-home int_max higher comp ready.homes m a) h)) in
    let old-above : (n : ℕ) → is_variable_above (length old.levels) (home_of old n) ≡ true → names_joined new p.level n ≡ true = λ n h. split-at (names_joined new p.level n ≡ true) n base
    (λ a. joined-above (is_constant (home_of new n)) (is_variable_of p.level (home_of new n)) (is_variable_above p.level (home_of new n)) (ap (is_variable_above p.level) (old-home int_max higher comp ready.homes n a) ∙ h))
    (λ a. (let past : length old.homes ≤ n = (let hs = ready.homes in omega arith) in absurd (above-none (length old.levels) (ap (is_variable_above (length old.levels)) (sym (slice_get_past old.homes n past)) ∙ h)))) in
    let upper-seen = seen-more (λ n. is_variable_above (length old.levels) (home_of old n)) (names_joined new p.level) p.upper old-above ready.upper in
    record {
      types = elaborated-types int_max new.table typing st.settled p.upper (upper-stands int_max higher comp) (initialisation comp) (scope p) (writes int_max higher comp p []) p.binders_at (scope-stands int_max higher comp ready.table.counted) names-typed begun;
      stays = elaborated-stays int_max new.table typing st.settled p.upper (upper-stands int_max higher comp) (names_joined new p.level) upper-seen (initialisation comp) (scope p) visible (writes int_max higher comp p []) p.binders_at (scope-stands int_max higher comp ready.table.counted) names-typed seen low begun;
    }
