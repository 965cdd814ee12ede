-- The values of an implementation's constants: each constant has one, and it is of its type. And each set above has a size.
use Rattle.std.proofs.Common.{◌≡◌, ◌⊎◌, inl, inr, ℕ, zero, suc, ◌+◌, ◌-◌, ◌<◌, ◌≤◌, ◌≤ℤ◌, List, [], ◌∷◌, ◌++◌, length, refl, sym, ◌∙◌, ap, subst, Bool, true, false, cond, not, ◌&&◌, ◌||◌, arith, nat_eq}
use Rattle.std.specs.Prelude.{Option, None, Some, ℤ, pos, ◌-ℤ◌, int_le, slice_get}
use Rattle.std.specs.Str.{bytes_eq}
use Rattle.std.proofs.lemmas.Bool.Decides.{nat_tests}
use Rattle.std.proofs.lemmas.Int.{ints}
use Rattle.std.proofs.lemmas.List.Elements.{All-nil, All-cons}
use Rattle.bk_val.specs.ValueType.{ValueType}
use Rattle.bk_form.specs.Each.{Each}
use Rattle.bk_form.specs.Formula.{Formula, variable, bound, literal, truth_value, element, empty_set, named, btrue, bfalse, unary, binary, for_all, for_some, comprehension, lambda}
use Rattle.bk_form.specs.Role.{bind, same_type}
use Rattle.bk_form.specs.Table.{SetEntry, VariableEntry}
use Rattle.bk_form.specs.Sized.{HasSizes}
use Rattle.bk_form.proofs.Roles.{same_type-then}
use Rattle.bk_gsl.specs.State.{among, firsts}
use Rattle.bk_dev.specs.declared.kind.Home.{Home}
use Rattle.bk_dev.specs.declared.kind.Home.TheVariants.{Constant, Input, Abstract, Concrete, Inner}
use Rattle.bk_dev.specs.Development.{Development, is_implementing, int_max as machine_max}
use Rattle.bk_dev.specs.Facts.{AreDistinct, is_constant, home_of, IsLiteral, IsValue, HasItsValues}
use Rattle.bk_raw.specs.declared.component.RawValue.{RawValue}
use Rattle.bk_raw.specs.declared.term.RawName.{RawName}
use Rattle.bk_raw.specs.Meaning.Names.{Names, Meaning, local, global, set_name, element_name, nothing}
use Rattle.bk_raw.specs.Meaning.Outcome.{Partial, whole, hollow, single_of, pair_of, joint_of, Outcome, partial, ranging, holding, silent}
use Rattle.bk_raw.specs.Meaning.RightReading.{IsRight}
use Rattle.bk_raw.specs.Meaning.ScopeReading.{set_names}
use Rattle.bk_raw.proofs.Filled.{and-both}
use Rattle.bk_raw.proofs.RulesFit.{none-left, none-right, some-fault}
use Rattle.bk_raw.specs.Errors.Faults.{Fault, wrong_value}
use Rattle.bk_statics.specs.Components.{Component}
use Rattle.bk_statics.specs.Typings.{Typing, numbered, variable_in, Target, unknown, no_variable, variable_target, target_in, target, set_in, set_named, as_number, type_at, type_named, variable_named, outcome_of}
use Rattle.bk_statics.specs.SubFaults.{is_again, with_target}
use Rattle.bk_statics.specs.Above.{constants_from, globals_of}
use Rattle.bk_statics.specs.Plan.{entries_of, Plan, plan}
use Rattle.bk_statics.specs.LevelOf.{is_value_form, is_of, where_value, value_in, value_of, with_value, values_made, types_at, made}
use Rattle.bk_statics.specs.ValueFaults.{is_there, entry_value_faults, with_number, valued, is_missing, without_value, is_number, is_entered, lacks_size, without_size, missing_values, value_faults_of}
use Rattle.bk_statics.specs.LevelLaws.{IsReady}
use Rattle.bk_statics.proofs.SubStays.{nat_eq-then, or-cases, or-left, or-right}
use Rattle.bk_statics.proofs.SubTypes.{outcome-right}
use Rattle.bk_statics.proofs.Stands.{split-at, stands, globals-stand}
use Rattle.bk_statics.proofs.Homes.{IsInside, IsHomeOf, old-home, variable-home, inside-home}
use Rattle.bk_statics.proofs.States.{globals-seen}
use Rattle.bk_statics.proofs.Links.{named-seen}

-- ---- what is told of one entry
entry-then : (c : Bool) (at : ℕ) (fs : List Fault) → cond {A = List Fault} c [] (wrong_value at ∷ []) ++ fs ≡ [] → (c ≡ true) × (fs ≡ [])
entry-then true at fs h = (refl, h)
entry-then false at fs h = some-fault (wrong_value at) fs h

there-then : (o : Option Formula) → is_there o ≡ true → (f : Formula) × (o ≡ Some f)
there-then None h = absurd (cc)
there-then (Some f) h = (f, refl)

where-then : (b : Bool) (g f : Formula) → where_value b g ≡ Some f → (b ≡ true) × (g ≡ f)
where-then true g f h = let e : g ≡ f = cc in (refl, e)
where-then false g f h = absurd (cc)

of-then : (t : Option ValueType) (u : ValueType) → is_of t u ≡ true → t ≡ Some u
of-then None u h = absurd (cc)
of-then (Some w) u h = ap Some (same_type-then w u h)

-- the type of a value, its term, and its form
value-then : (int_max : ℤ) (t : Option ValueType) (o : Outcome) (f : Formula) → value_in int_max t o ≡ Some f → (u : ValueType) × (t ≡ Some u) × (o ≡ partial (whole f u)) × (is_value_form int_max f ≡ true)
value-then int_max t (partial (whole g u)) f h =
    let k = where-then (is_value_form int_max g && is_of t u) g f h in
    let b = and-both (is_value_form int_max g) (is_of t u) k.0 in
    (u, of-then t u b.1, ap (λ x. partial (whole x u)) k.1, subst (λ x. is_value_form int_max x ≡ true) k.1 b.0)
value-then int_max t (partial hollow) f h = absurd (cc)
value-then int_max t (partial (single_of q)) f h = absurd (cc)
value-then int_max t (partial (pair_of q r)) f h = absurd (cc)
value-then int_max t (partial (joint_of j q r)) f h = absurd (cc)
value-then int_max t (ranging g u at) f h = absurd (cc)
value-then int_max t (holding g) f h = absurd (cc)
value-then int_max t silent f h = absurd (cc)

number-then : (typing : Typing) (g : Target) (u : ValueType) → type_at typing g ≡ Some u → (n : ℕ) × (g ≡ variable_target n) × (typing n ≡ Some u)
number-then typing unknown u h = absurd (cc)
number-then typing no_variable u h = absurd (cc)
number-then typing (variable_target n) u h = (n, refl, h)

le-then : (x y : ℤ) → int_le x y ≡ true → x ≤ℤ y
le-then x y h = grind (arith, ints)

form-literal : (dev : Development) (f : Formula) → is_value_form (machine_max dev) f ≡ true → IsLiteral dev f
form-literal dev (literal z) h = let b = and-both (int_le (pos 0 -ℤ machine_max dev) z) (int_le z (machine_max dev)) h in (le-then (pos 0 -ℤ machine_max dev) z b.0, le-then z (machine_max dev) b.1)
form-literal dev (truth_value b) h = tt
form-literal dev (element s i) h = tt
form-literal dev (variable n) h = absurd (cc)
form-literal dev (bound n) h = absurd (cc)
form-literal dev (empty_set t) h = absurd (cc)
form-literal dev (named d) h = absurd (cc)
form-literal dev btrue h = absurd (cc)
form-literal dev bfalse h = absurd (cc)
form-literal dev (unary o a) h = absurd (cc)
form-literal dev (binary o a b) h = absurd (cc)
form-literal dev (for_all ts a) h = absurd (cc)
form-literal dev (for_some ts a) h = absurd (cc)
form-literal dev (comprehension fs a) h = absurd (cc)
form-literal dev (lambda fs a b) h = absurd (cc)

-- ---- the numbers of names
-- the number stands among the names
abbrev pub IsNumberIn : ℕ → Names → Type 0
IsNumberIn n [] = ⊥
IsNumberIn n (m ∷ ms) = (variable_in m.meaning ≡ Some n) ⊎ IsNumberIn n ms

in-right : (n : ℕ) (a b : Names) → IsNumberIn n b → IsNumberIn n (a ++ b)
in-right n [] b h = h
in-right n (m ∷ ms) b h = inr (in-right n ms b h)

bind-right : (n : ℕ) (a b : Names) → IsNumberIn n b → IsNumberIn n (bind a b)
bind-right n [] b h = h
bind-right n (m ∷ ms) b h = bind-right n ms (m ∷ b) (inr h)

bind-left : (n : ℕ) (a b : Names) → IsNumberIn n a → IsNumberIn n (bind a b)
bind-left n [] b h = absurd h
bind-left n (m ∷ ms) b h = elim h [ inl e ↦ bind-right n ms (m ∷ b) (inl e) | inr i ↦ bind-left n ms (m ∷ b) i ]

numbered-in : (n k : ℕ) (xs : List RawName) → k ≤ n → n < k + length xs → IsNumberIn n (numbered k xs)
numbered-in n k [] a b = absurd (omega arith)
numbered-in n k (x ∷ xs) a b = split-at (IsNumberIn n (numbered k (x ∷ xs))) k n (λ l. inr (numbered-in n (suc k) xs (omega arith) (omega arith))) (λ l. (let e : k ≡ n = omega arith in inl (ap Some e)))

constants-in : (k : ℕ) (hs : List Home) (vs : List VariableEntry) (i : ℕ) → slice_get hs i ≡ Some Constant → i < length vs → IsNumberIn (k + i) (constants_from k hs vs)
constants-in k [] vs i h l = absurd (cc)
constants-in k (o ∷ hs) [] i h l = absurd (omega arith)
constants-in k (Constant ∷ hs) (v ∷ vs) zero h l = let e : k ≡ k + 0 = omega arith in inl (ap Some e)
constants-in k (Input ∷ hs) (v ∷ vs) zero h l = absurd (cc)
constants-in k (Abstract j ∷ hs) (v ∷ vs) zero h l = absurd (cc)
constants-in k (Concrete j ∷ hs) (v ∷ vs) zero h l = absurd (cc)
constants-in k (Inner j ∷ hs) (v ∷ vs) zero h l = absurd (cc)
constants-in k (Constant ∷ hs) (v ∷ vs) (suc i) h l = let e : suc k + i ≡ k + suc i = omega arith in inr (subst (λ n. IsNumberIn n (constants_from (suc k) hs vs)) e (constants-in (suc k) hs vs i h (omega arith)))
constants-in k (Input ∷ hs) (v ∷ vs) (suc i) h l = let e : suc k + i ≡ k + suc i = omega arith in subst (λ n. IsNumberIn n (constants_from (suc k) hs vs)) e (constants-in (suc k) hs vs i h (omega arith))
constants-in k (Abstract j ∷ hs) (v ∷ vs) (suc i) h l = let e : suc k + i ≡ k + suc i = omega arith in subst (λ n. IsNumberIn n (constants_from (suc k) hs vs)) e (constants-in (suc k) hs vs i h (omega arith))
constants-in k (Concrete j ∷ hs) (v ∷ vs) (suc i) h l = let e : suc k + i ≡ k + suc i = omega arith in subst (λ n. IsNumberIn n (constants_from (suc k) hs vs)) e (constants-in (suc k) hs vs i h (omega arith))
constants-in k (Inner j ∷ hs) (v ∷ vs) (suc i) h l = let e : suc k + i ≡ k + suc i = omega arith in subst (λ n. IsNumberIn n (constants_from (suc k) hs vs)) e (constants-in (suc k) hs vs i h (omega arith))

-- ---- constants without a value
missing-then : (c : Bool) (at : ℕ) → cond {A = List Fault} c (wrong_value at ∷ []) [] ≡ [] → c ≡ false
missing-then true at h = absurd (cc)
missing-then false at h = refl

not-false : (b : Bool) → not b ≡ false → b ≡ true
not-false true h = refl
not-false false h = absurd (cc)

has-value : (at : ℕ) (entries : List ℕ) (ns : Names) (n : ℕ) → without_value at entries ns ≡ [] → IsNumberIn n ns → among entries n ≡ true
has-value at entries [] n h i = absurd i
has-value at entries (m ∷ ms) n h i =
    let now : List Fault = cond (is_missing entries (variable_in m.meaning)) (wrong_value at ∷ []) [] in
    let no = missing-then (is_missing entries (variable_in m.meaning)) at (none-left now (without_value at entries ms) h) in
    elim i [
      | inl e ↦ not-false (among entries n) (sym (ap (is_missing entries) e) ∙ no)
      | inr j ↦ has-value at entries ms n (none-right now (without_value at entries ms) h) j
    ]

constant-then : (o : Option Home) → is_constant o ≡ true → o ≡ Some Constant
constant-then None h = absurd (cc)
constant-then (Some Constant) h = refl
constant-then (Some Input) h = absurd (cc)
constant-then (Some (Abstract j)) h = absurd (cc)
constant-then (Some (Concrete j)) h = absurd (cc)
constant-then (Some (Inner j)) h = absurd (cc)

not-variable : (k : ℕ) (o : Option Home) → IsHomeOf k o → is_constant o ≡ true → ⊥
not-variable k None h e = absurd (cc)
not-variable k (Some Constant) h e = h
not-variable k (Some Input) h e = absurd (cc)
not-variable k (Some (Abstract j)) h e = absurd (cc)
not-variable k (Some (Concrete j)) h e = absurd (cc)
not-variable k (Some (Inner j)) h e = absurd (cc)

not-inside : (o : Option Home) → IsInside o → is_constant o ≡ true → ⊥
not-inside None h e = absurd (cc)
not-inside (Some Constant) h e = h
not-inside (Some Input) h e = absurd (cc)
not-inside (Some (Abstract j)) h e = absurd (cc)
not-inside (Some (Concrete j)) h e = absurd (cc)
not-inside (Some (Inner j)) h e = absurd (cc)

-- ---- sets without a size
-- the name of a variable is no set's
no-set : (ns : Names) (x : List ℕ) (n : ℕ) → target ns x ≡ variable_target n → set_named ns x ≡ None
no-set [] x n h = absurd (cc)
no-set (m ∷ ms) x n h = by-test (bytes_eq m.text x) m.meaning (no-set ms x n) h
  where
    by-test : (c : Bool) (w : Meaning) → (target ms x ≡ variable_target n → set_named ms x ≡ None) → cond c (target_in w) (target ms x) ≡ variable_target n → cond c (set_in w) (set_named ms x) ≡ None
    by-test true (local t) rest h = refl
    by-test true (global k t) rest h = refl
    by-test true (set_name s) rest h = absurd (cc)
    by-test true (element_name s e) rest h = refl
    by-test true nothing rest h = refl
    by-test false w rest h = rest h

-- what has a value is a constant, and so no entry is for a set
none-entered : (int_max : ℤ) (typing : Typing) (names : Names) (before : List ℕ) (vs : List RawValue) → entry_value_faults int_max typing names before vs ≡ [] → (n : ℕ) → is_entered names vs n ≡ false
none-entered int_max typing names before [] h n = refl
none-entered int_max typing names before (v ∷ vs) h n =
    let g = target names v.name.text in
    let o = value_of int_max typing names v in
    let k = entry-then (is_there o && not (is_again before g)) v.name.at (entry_value_faults int_max typing names (with_target g before) vs) h in
    let f = there-then o (and-both (is_there o) (not (is_again before g)) k.0).0 in
    let w = value-then int_max (type_named typing names v.name.text) (outcome_of int_max typing names v.value) f.0 f.1 in
    let m = number-then typing g w.0 w.1 in
    ap (λ a. is_number n a || is_entered names vs n) (no-set names v.name.text m.0 m.1) ∙ none-entered int_max typing names (with_target g before) vs k.1 n

has-size : (n : ℕ) (b : Bool) → b ≡ false → (nat_eq n 0 && not b) ≡ false → 0 < n
has-size zero b e h = let k : true ≡ false = sym (ap not e) ∙ h in absurd (cc)
has-size (suc n) b e h = omega arith

sized : (at : ℕ) (names : Names) (vs : List RawValue) → ((n : ℕ) → is_entered names vs n ≡ false) → (n : ℕ) (ss : List SetEntry) → without_size at names vs n ss ≡ [] → HasSizes ss
sized at names vs none n [] h = All-nil (λ (s : SetEntry). 0 < s.size)
sized at names vs none n (s ∷ ss) h =
    let now : List Fault = cond (lacks_size names vs n s.size) (wrong_value at ∷ []) [] in
    let rest = without_size at names vs (suc n) ss in
    All-cons (λ (s : SetEntry). 0 < s.size) s ss (has-size s.size (is_entered names vs n) (none n) (missing-then (lacks_size names vs n s.size) at (none-left now rest h))) (sized at names vs none (suc n) ss (none-right now rest h))

-- the faults of an implementation's entries, and those of what has none
value-parts : (int_max : ℤ) (higher : Development) (typing : Typing) (p : Plan) (comp : Component) → is_implementing comp.kind ≡ true → value_faults_of int_max higher typing p comp ≡ [] → (entry_value_faults int_max typing p.globals [] comp.values ≡ []) × (missing_values higher p comp ≡ [])
value-parts int_max higher typing p comp kind h =
    let entries = entry_value_faults int_max typing p.globals [] comp.values in
    let missing = missing_values higher p comp in
    let all : entries ++ missing ≡ [] = sym (ap (λ c. cond c (entries ++ missing) []) kind) ∙ h in
    (none-left entries missing all, none-right entries missing all)

-- each set above an implementation without faults has a size
pub sizes-above : (int_max : ℤ) (higher : Development) (typing : Typing) (p : Plan) (comp : Component) → is_implementing comp.kind ≡ true → value_faults_of int_max higher typing p comp ≡ [] → HasSizes higher.table.sets
sizes-above int_max higher typing p comp kind h =
    let told = value-parts int_max higher typing p comp kind h in
    let missing = without_value comp.name.at (valued p.globals comp.values) p.globals in
    let unsized = without_size comp.name.at p.globals comp.values 0 higher.table.sets in
    sized comp.name.at p.globals comp.values (none-entered int_max typing p.globals [] comp.values told.0) 0 higher.table.sets (none-right missing unsized told.1)

-- ---- the values
module _ (higher : Development) (comp : Component) (ready : IsReady higher) where
  abbrev most : ℤ
  most = machine_max higher

  abbrev new : Development
  new = made most higher comp (plan higher comp)

  abbrev typing : Typing
  typing = types_at most higher comp (plan higher comp)

  abbrev names : Names
  names = (plan higher comp).globals

  constant-in : (n : ℕ) → is_constant (home_of new n) ≡ true → IsNumberIn n names
  constant-in n h =
      let p = plan higher comp in
      let base = length higher.table.variables in
      let behind = set_names (length higher.table.sets) (entries_of comp.sets) ++ globals_of higher in
      split-at (IsNumberIn n names) n base
      (λ a. (let z : 0 + n ≡ n = omega arith in
      let old : slice_get higher.homes n ≡ Some Constant = constant-then (home_of higher n) (sym (ap is_constant (old-home most higher comp ready.homes n a)) ∙ h) in
      bind-right n (numbered base comp.constants) behind (in-right n (set_names (length higher.table.sets) (entries_of comp.sets)) (globals_of higher) (in-right n (set_names 0 higher.table.sets) (constants_from 0 higher.homes higher.table.variables) (subst (λ m. IsNumberIn m (constants_from 0 higher.homes higher.table.variables)) z (constants-in 0 higher.homes higher.table.variables n old a))))))
      (λ a. split-at (IsNumberIn n names) n p.variables_at (λ b. bind-left n (numbered base comp.constants) behind (numbered-in n base comp.constants a b))
      (λ b. split-at (IsNumberIn n names) n p.inputs_at (λ c. absurd (not-variable p.level (home_of new n) (variable-home most higher comp ready.homes n b c) h)) (λ c. absurd (not-inside (home_of new n) (inside-home most higher comp ready.homes n c) h))))

  -- each entry gives its constant's value, and no constant has two
  values-right : (before : List ℕ) (vs : List RawValue) → entry_value_faults most typing names before vs ≡ []
      → Each (IsValue new) (values_made most typing names vs) × (firsts (values_made most typing names vs) ≡ valued names vs) × AreDistinct (valued names vs) × ((n : ℕ) → among before n ≡ true → among (valued names vs) n ≡ false)
  values-right before [] h = (tt, refl, tt, λ n e. refl)
  values-right before (v ∷ vs) h =
      let g = target names v.name.text in
      let o = value_of most typing names v in
      let k = entry-then (is_there o && not (is_again before g)) v.name.at (entry_value_faults most typing names (with_target g before) vs) h in
      let b = and-both (is_there o) (not (is_again before g)) k.0 in
      let f = there-then o b.0 in
      let w = value-then most (type_named typing names v.name.text) (outcome_of most typing names v.value) f.0 f.1 in
      let m = number-then typing g w.0 w.1 in
      let n = m.0 in
      let named-so : variable_named names v.name.text ≡ Some n = ap as_number m.1 in
      let fresh : among before n ≡ false = not-true (among before n) (sym (ap (λ x. not (is_again before x)) m.1) ∙ b.1) in
      let r = values-right (n ∷ before) vs (subst (λ x. entry_value_faults most typing names (with_target x before) vs ≡ []) m.1 k.1) in
      let rest = values_made most typing names vs in
      let made-so : values_made most typing names (v ∷ vs) ≡ (n, f.0) ∷ rest = ap (λ a. with_value a o rest) named-so ∙ ap (λ a. with_value (Some n) a rest) f.1 in
      let valued-so : valued names (v ∷ vs) ≡ n ∷ valued names vs = ap (λ a. with_number a (valued names vs)) named-so in
      let st = stands most higher comp ready.table in
      let right : IsRight new.table [] (partial (whole f.0 w.0)) = subst (IsRight new.table []) w.2 (outcome-right most new.table typing st.settled names false v.value (globals-stand most higher comp ready.table.counted)) in
      let constant = named-seen (λ x. is_constant (home_of new x)) names v.name.text n (globals-seen most higher comp ready.homes (λ x. is_constant (home_of new x)) (λ x e. ap is_constant e)) named-so in
      let one : IsValue new (n, f.0) = record { constant = constant; is_literal = form-literal new f.0 w.3; of_type = (w.0, st.settled.types n w.0 m.2, right.0) } in (
        subst (Each (IsValue new)) (sym made-so) (one, r.0),
        ap firsts made-so ∙ (ap (λ l. n ∷ l) r.1 ∙ sym valued-so),
        subst AreDistinct (sym valued-so) (r.3 n (or-left (nat_eq n n) (among before n) (grind (arith, nat_tests))), r.2),
        λ x e. ap (λ l. among l x) valued-so ∙ neither (nat_eq x n) (among (valued names vs) x) (differ x n before e fresh) (r.3 x (or-right (nat_eq x n) (among before x) e)),
      )
    where
      not-true : (b : Bool) → not b ≡ true → b ≡ false
      not-true true h = absurd (cc)
      not-true false h = refl

      neither : (a b : Bool) → a ≡ false → b ≡ false → (a || b) ≡ false
      neither true b h k = absurd (cc)
      neither false b h k = k

      differ : (x n : ℕ) (before : List ℕ) → among before x ≡ true → among before n ≡ false → nat_eq x n ≡ false
      differ x n before e k = by-case (nat_eq x n) refl
        where
          by-case : (c : Bool) → nat_eq x n ≡ c → c ≡ false
          by-case false q = refl
          by-case true q = let s : x ≡ n = nat_eq-then x n q in let w : among before n ≡ true = ap (among before) (sym s) ∙ e in absurd (cc)

  pub values-stand : is_implementing comp.kind ≡ true → value_faults_of most higher typing (plan higher comp) comp ≡ [] → Each (IsValue new) new.values × HasItsValues new true
  values-stand kind h =
      let told = value-parts most higher typing (plan higher comp) comp kind h in
      let missing = without_value comp.name.at (valued names comp.values) names in
      let unsized = without_size comp.name.at names comp.values 0 higher.table.sets in
      let r = values-right [] comp.values told.0 in (
        r.0,
        (subst AreDistinct (sym r.1) r.2, λ n c. ap (λ l. among l n) r.1 ∙ has-value comp.name.at (valued names comp.values) names n (none-left missing unsized told.1) (constant-in n c)),
      )
