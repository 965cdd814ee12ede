-- A resolved substitution whose names and terms have types, types.
use Rattle.std.proofs.Common.{◌≡◌, ◌⊎◌, inl, inr, ℕ, List, [], ◌∷◌, ◌++◌, map, refl, sym, ◌∙◌, subst, Bool, true, false, cond}
use Rattle.std.specs.Prelude.{Option, None, Some}
use Rattle.bk_val.specs.ValueType.{ValueType, int_type, bool_type, enum_type, pair_type, set_type}
use Rattle.bk_form.specs.Each.{Each}
use Rattle.bk_form.specs.Table.{Table, variable_type, lists_type}
use Rattle.bk_form.specs.Formula.{Formula, variable, btrue, unary, binary}
use Rattle.bk_form.specs.Role.{role, gives, ranges_over, predicate, same_type}
use Rattle.bk_form.specs.Predicates.{IsPredicate}
use Rattle.bk_form.specs.declared.operator.UnOp.TheVariants.{Not as Negation}
use Rattle.bk_form.specs.declared.operator.BinOp.TheVariants.{In, And as Conjunction}
use Rattle.bk_form.proofs.Roles.{same_type-then}
use Rattle.bk_gsl.specs.Substitution.{Substitution, skip, assign, pre, guard, choice, if_else, any, seq, par, assert, becomes_such, loop}
use Rattle.bk_gsl.specs.Typed.{IsTerm, AreListed, AreTypedTerms, AreTypedPairs, Types as TypesIn}
use Rattle.bk_raw.specs.Errors.Faults.{Fault, without_type}
use Rattle.bk_raw.specs.Trees.RawTree.{RawTree}
use Rattle.bk_raw.specs.Meaning.Outcome.{Outcome, Reading, silently, answered, refused, no_type, unvalued, ask, ask_domain, ask_predicate}
use Rattle.bk_raw.specs.Meaning.TermReading.{reading, part, is_alike, is_predicate, place_of}
use Rattle.bk_raw.specs.Meaning.RightReading.{Whenever}
use Rattle.bk_raw.specs.Meaning.Speaking.{Fits, Speaks}
use Rattle.bk_raw.specs.Errors.Faults.{not_predicate}
use Rattle.bk_raw.proofs.Filled.{Gives, and-both, same_type-self}
use Rattle.bk_raw.proofs.Asks.{Right, IsDomain, ask-right, ask_domain-right, ask_predicate-right}
use Rattle.bk_raw.proofs.RulesFit.{none-left, none-right, some-fault, Answered, ask-answers, ask_domain-answers}
use Rattle.bk_raw.proofs.ReadingFits.{reading-speaks}
use Rattle.bk_statics.specs.Typings.{Target, unknown, no_variable, variable_target, typed, type_at, or_else, as_number}
use Rattle.bk_statics.specs.Settled.{IsSettled}
use Rattle.bk_statics.proofs.SubTypes.{outcome-right}
use Rattle.bk_phases.specs.Scope.{Local, numbers, Written}
use Rattle.bk_phases.specs.Term.{Wanted, a_predicate, a_number, value_for, domain_for, index_for, element_for, Term, place, wants_predicate}
use Rattle.bk_phases.specs.Statement.{Statement, skip_at, assign_at, update_at, member_at, such_at, call_at, pre_at, assert_at, if_at, guard_at, choice_at, else_at, branches_at, any_at, var_at, loop_at, par_at, seq_at, within}
use Rattle.bk_phases.specs.Types.{Types}
use Rattle.bk_phases.specs.Formulas.{over_type, ask_like, over, ask_part, asked, formula, untyped_in}
use Rattle.bk_phases.specs.LevelOf.{assignments, old_pairs, overridden, guards, and_none_of, none_of, elaborated}
use Rattle.bk_phases.specs.Typed.{AskValues, AsksRight, IsTypedTerm, IsTypedVariable, HasTypeOf, IsTypedHere}
use Rattle.bk_phases.proofs.Lists.{each-left, each-right, each-append}

-- ---- parts in their places
alike-same : (wanted is : Bool) → is_alike wanted is ≡ true → is ≡ wanted
alike-same true true h = refl
alike-same true false h = absurd (cc)
alike-same false false h = refl
alike-same false true h = absurd (cc)

either-speaks : (c wanted is : Bool) (r : Reading) (x : Fault) (fs : List Fault) → (c ≡ true → is ≡ wanted) → Speaks is r → Speaks wanted (cond c r (silently (x ∷ fs)))
either-speaks true wanted is r x fs h k = subst (λ b. Speaks b r) (h refl) k
either-speaks false wanted is r x fs h k = λ e. some-fault x fs e

part-speaks : (wanted : Bool) (t : RawTree) (r : Reading) → Speaks (is_predicate t) r → Speaks wanted (part wanted t r)
part-speaks wanted t r h = either-speaks (is_alike wanted (is_predicate t)) wanted (is_predicate t) r (not_predicate (place_of t)) r.faults (alike-same wanted (is_predicate t)) h

none-of-map : (fs : List Fault) → map (λ (f : Fault). f.1) fs ≡ [] → fs ≡ []
none-of-map [] h = refl
none-of-map (f ∷ fs) h = some-fault f.1 (map (λ (g : Fault). g.1) fs) h

abbrev number_in : Target → ℕ
number_in v = or_else 0 (as_number v)

-- ---- negations of guards
module _ (table : Table) where
  negation-typed : (p : Formula) → IsPredicate table p → IsPredicate table (unary Negation p)
  negation-typed p h = rw h refl

  conjunction-typed : (p q : Formula) → IsPredicate table p → IsPredicate table q → IsPredicate table (binary Conjunction p q)
  conjunction-typed p q h k = rw (h, k) refl

  and-none-typed : (before : Formula) (ps : List Formula) → IsPredicate table before → Each (IsPredicate table) ps → IsPredicate table (and_none_of before ps)
  and-none-typed before [] h k = h
  and-none-typed before (p ∷ ps) h k = and-none-typed (binary Conjunction before (unary Negation p)) ps (conjunction-typed before (unary Negation p) h (negation-typed p k.0)) k.1

  none-typed : (ps : List Formula) → Each (IsPredicate table) ps → IsPredicate table (none_of ps)
  none-typed [] h = refl
  none-typed (p ∷ ps) h = and-none-typed (unary Negation p) ps (negation-typed p h.0) h.1

  guards-typed : (s : Substitution) → TypesIn table s → Each (IsPredicate table) (guards s)
  guards-typed (guard p s) h = (h.0, tt)
  guards-typed (choice s t) h = each-append (IsPredicate table) (guards s) (guards t) (guards-typed s h.0) (guards-typed t h.1)
  guards-typed skip h = tt
  guards-typed (assign ps) h = tt
  guards-typed (pre p s) h = tt
  guards-typed (if_else p s t) h = tt
  guards-typed (any zs s) h = tt
  guards-typed (seq s t) h = tt
  guards-typed (par s t) h = tt
  guards-typed (assert p s) h = tt
  guards-typed (becomes_such xs p) h = tt
  guards-typed (loop p s i v) h = tt

module _ (table : Table) (types : Types) (settled : IsSettled table types.of) where
  -- ---- terms
  -- where the term in a place that asks this has no fault, its formula is so
  abbrev Reads : Term → Wanted → (Formula → Type 0) → Type 0
  Reads t w P =
      map (λ (f : Fault). f.1) ((part (wants_predicate w) t.tree (reading types.max (typed types.of t.names) t.tree)).faults ++ (asked types.of w (place t) (part (wants_predicate w) t.tree (reading types.max (typed types.of t.names) t.tree)).outcome).faults) ≡ []
      → P (or_else btrue (asked types.of w (place t) (part (wants_predicate w) t.tree (reading types.max (typed types.of t.names) t.tree)).outcome).answer)

  reads : (t : Term) (w : Wanted) (P : Formula → Type 0) → t.wanted ≡ w → untyped_in types t ≡ [] → Reads t w P → P (formula types t)
  reads t w P e h k = subst (λ v. Reads t v P) (sym e) k h

  answered-typed : (u : ValueType) (a : Option Formula) → Whenever (Gives table [] u) a → Answered a → IsTerm table u (or_else btrue a)
  answered-typed u None h k = absurd k
  answered-typed u (Some f) h k = h

  ask-typed : (at : ℕ) (o : Outcome) (u : ValueType) → Right table [] o → Fits false o → lists_type table u ≡ true → (ask at o u).faults ≡ [] → IsTerm table u (or_else btrue (ask at o u).answer)
  ask-typed at o u r f l h = answered-typed u (ask at o u).answer (ask-right table [] at o u r l) (ask-answers at o u f h)

  or-btrue : (o : Option Formula) → Whenever (λ p. role table [] p ≡ predicate) o → IsPredicate table (or_else btrue o)
  or-btrue None h = refl
  or-btrue (Some p) h = h

  predicate-typed : (t : Term) → t.wanted ≡ a_predicate → IsTypedTerm types table t → IsPredicate table (formula types t)
  predicate-typed t e h =
      let o = (part true t.tree (reading types.max (typed types.of t.names) t.tree)).outcome in
      reads t a_predicate (IsPredicate table) e h.right (λ none. or-btrue (ask_predicate o).answer (ask_predicate-right table [] o (outcome-right types.max table types.of settled t.names true t.tree h.of)))

  -- an expression in its place: its outcome is right, there is one, and the place has no fault
  record IsReadIn (t : Term) (asks : Outcome → List Fault) : Type 0 where
    right : Right table [] (part false t.tree (reading types.max (typed types.of t.names) t.tree)).outcome
    fits : Fits false (part false t.tree (reading types.max (typed types.of t.names) t.tree)).outcome
    none : asks (part false t.tree (reading types.max (typed types.of t.names) t.tree)).outcome ≡ []

  read-in : (t : Term) (asks : Outcome → List Fault) → IsTypedTerm types table t → map (λ (f : Fault). f.1) ((part false t.tree (reading types.max (typed types.of t.names) t.tree)).faults ++ asks (part false t.tree (reading types.max (typed types.of t.names) t.tree)).outcome) ≡ [] → IsReadIn t asks
  read-in t asks h e =
      let r = reading types.max (typed types.of t.names) t.tree in
      let q = part false t.tree r in
      let all = none-of-map (q.faults ++ asks q.outcome) e in
      record {
        right = outcome-right types.max table types.of settled t.names false t.tree h.of;
        fits = part-speaks false t.tree r (reading-speaks types.max t.tree (typed types.of t.names) h.names) (none-left q.faults (asks q.outcome) all);
        none = none-right q.faults (asks q.outcome) all;
      }

  number-typed : (t : Term) → t.wanted ≡ a_number → IsTypedTerm types table t → IsTerm table int_type (formula types t)
  number-typed t e h = reads t a_number (IsTerm table int_type) e h.right (λ none.
      let k = read-in t (λ o. (ask (place t) o int_type).faults) h none in
      ask-typed (place t) (part false t.tree (reading types.max (typed types.of t.names) t.tree)).outcome int_type k.right k.fits refl k.none)

  like-typed : (v : Option ValueType) (u : ValueType) → v ≡ Some u → (at : ℕ) (o : Outcome) → Right table [] o → Fits false o → lists_type table u ≡ true → (ask_like v at o).faults ≡ [] → IsTerm table u (or_else btrue (ask_like v at o).answer)
  like-typed v u m at o r f l h = subst (λ w. (ask_like w at o).faults ≡ [] → IsTerm table u (or_else btrue (ask_like w at o).answer)) (sym m) (ask-typed at o u r f l) h

  value-typed : (t : Term) (x : Target) (u : ValueType) → t.wanted ≡ value_for x → IsTypedTerm types table t → type_at types.of x ≡ Some u → lists_type table u ≡ true → IsTerm table u (formula types t)
  value-typed t x u e h m l = reads t (value_for x) (IsTerm table u) e h.right (λ none.
      let k = read-in t (λ o. (ask_like (type_at types.of x) (place t) o).faults) h none in
      like-typed (type_at types.of x) u m (place t) (part false t.tree (reading types.max (typed types.of t.names) t.tree)).outcome k.right k.fits l k.none)

  -- ---- f(e) := v
  abbrev IsFirstPart : ValueType → Formula → Type 0
  IsFirstPart (set_type (pair_type s u)) e = IsTerm table s e
  IsFirstPart _ e = ⊥

  abbrev IsSecondPart : ValueType → Formula → Type 0
  IsSecondPart (set_type (pair_type s u)) e = IsTerm table u e
  IsSecondPart _ e = ⊥

  first-typed : (f : Written) (w : ValueType) (at : ℕ) (o : Outcome) → Right table [] o → Fits false o → lists_type table w ≡ true → (ask_part (λ t u. t) f (Some w) at o).faults ≡ [] → IsFirstPart w (or_else btrue (ask_part (λ t u. t) f (Some w) at o).answer)
  first-typed f (set_type (pair_type s u)) at o r k l h = ask-typed at o s r k (and-both (lists_type table s) (lists_type table u) l).0 h
  first-typed f int_type at o r k l h = some-fault (without_type f.name.at) (unvalued o) h
  first-typed f bool_type at o r k l h = some-fault (without_type f.name.at) (unvalued o) h
  first-typed f (enum_type n) at o r k l h = some-fault (without_type f.name.at) (unvalued o) h
  first-typed f (pair_type t u) at o r k l h = some-fault (without_type f.name.at) (unvalued o) h
  first-typed f (set_type int_type) at o r k l h = some-fault (without_type f.name.at) (unvalued o) h
  first-typed f (set_type bool_type) at o r k l h = some-fault (without_type f.name.at) (unvalued o) h
  first-typed f (set_type (enum_type n)) at o r k l h = some-fault (without_type f.name.at) (unvalued o) h
  first-typed f (set_type (set_type t)) at o r k l h = some-fault (without_type f.name.at) (unvalued o) h

  second-typed : (f : Written) (w : ValueType) (at : ℕ) (o : Outcome) → Right table [] o → Fits false o → lists_type table w ≡ true → (ask_part (λ t u. u) f (Some w) at o).faults ≡ [] → IsSecondPart w (or_else btrue (ask_part (λ t u. u) f (Some w) at o).answer)
  second-typed f (set_type (pair_type s u)) at o r k l h = ask-typed at o u r k (and-both (lists_type table s) (lists_type table u) l).1 h
  second-typed f int_type at o r k l h = some-fault (without_type f.name.at) (unvalued o) h
  second-typed f bool_type at o r k l h = some-fault (without_type f.name.at) (unvalued o) h
  second-typed f (enum_type n) at o r k l h = some-fault (without_type f.name.at) (unvalued o) h
  second-typed f (pair_type t u) at o r k l h = some-fault (without_type f.name.at) (unvalued o) h
  second-typed f (set_type int_type) at o r k l h = some-fault (without_type f.name.at) (unvalued o) h
  second-typed f (set_type bool_type) at o r k l h = some-fault (without_type f.name.at) (unvalued o) h
  second-typed f (set_type (enum_type n)) at o r k l h = some-fault (without_type f.name.at) (unvalued o) h
  second-typed f (set_type (set_type t)) at o r k l h = some-fault (without_type f.name.at) (unvalued o) h

  index-typed : (t : Term) (f : Written) (w : ValueType) → t.wanted ≡ index_for f → IsTypedTerm types table t → type_at types.of f.target ≡ Some w → lists_type table w ≡ true → IsFirstPart w (formula types t)
  index-typed t f w e h m l = reads t (index_for f) (IsFirstPart w) e h.right (λ none.
      let k = read-in t (λ o. (ask_part (λ s u. s) f (type_at types.of f.target) (place t) o).faults) h none in
      let o = (part false t.tree (reading types.max (typed types.of t.names) t.tree)).outcome in
      subst (λ v. (ask_part (λ s u. s) f v (place t) o).faults ≡ [] → IsFirstPart w (or_else btrue (ask_part (λ s u. s) f v (place t) o).answer)) (sym m) (first-typed f w (place t) o k.right k.fits l) k.none)

  element-typed : (t : Term) (f : Written) (w : ValueType) → t.wanted ≡ element_for f → IsTypedTerm types table t → type_at types.of f.target ≡ Some w → lists_type table w ≡ true → IsSecondPart w (formula types t)
  element-typed t f w e h m l = reads t (element_for f) (IsSecondPart w) e h.right (λ none.
      let k = read-in t (λ o. (ask_part (λ s u. u) f (type_at types.of f.target) (place t) o).faults) h none in
      let o = (part false t.tree (reading types.max (typed types.of t.names) t.tree)).outcome in
      subst (λ v. (ask_part (λ s u. u) f v (place t) o).faults ≡ [] → IsSecondPart w (or_else btrue (ask_part (λ s u. u) f v (place t) o).answer)) (sym m) (second-typed f w (place t) o k.right k.fits l) k.none)

  over-typed : (n : ℕ) (w : ValueType) (e v : Formula) → variable_type table n ≡ Some w → IsFirstPart w e → IsSecondPart w v → AreTypedTerms table ((n, overridden n e v) ∷ [])
  over-typed n (set_type (pair_type s u)) e v m h k = ((set_type (pair_type s u), m, rw (m, h, k, same_type-self s, same_type-self u) refl), tt)
  over-typed n int_type e v m h k = absurd h
  over-typed n bool_type e v m h k = absurd h
  over-typed n (enum_type i) e v m h k = absurd h
  over-typed n (pair_type t u) e v m h k = absurd h
  over-typed n (set_type int_type) e v m h k = absurd h
  over-typed n (set_type bool_type) e v m h k = absurd h
  over-typed n (set_type (enum_type i)) e v m h k = absurd h
  over-typed n (set_type (set_type t)) e v m h k = absurd h

  -- ---- x :: E
  abbrev RangesOver : ValueType → Formula → Type 0
  RangesOver u d = (role table [] d ≡ gives (set_type u)) ⊎ (role table [] d ≡ ranges_over u)

  over-cond : (u : ValueType) (at : ℕ) (d : Formula × ValueType) (c : Bool) → same_type u d.1 ≡ c → IsDomain table [] d → (cond c (answered d.0) (refused (no_type at))).faults ≡ [] → RangesOver u (or_else btrue (cond c (answered d.0) (refused (no_type at))).answer)
  over-cond u at d true e h none = subst (λ v. RangesOver v d.0) (sym (same_type-then u d.1 e)) h.form
  over-cond u at d false e h none = some-fault (without_type at) [] none

  over-domain : (u : ValueType) (at : ℕ) (a : Option (Formula × ValueType)) (fs : List Fault) → Whenever (IsDomain table []) a → (fs ≡ [] → Answered a) → (over_type u at a fs).faults ≡ [] → RangesOver u (or_else btrue (over_type u at a fs).answer)
  over-domain u at None fs h k none = absurd (k none)
  over-domain u at (Some d) fs h k none = over-cond u at d (same_type u d.1) refl h none

  domain-typed : (t : Term) (x : Target) (u : ValueType) → t.wanted ≡ domain_for x → IsTypedTerm types table t → type_at types.of x ≡ Some u → RangesOver u (formula types t)
  domain-typed t x u e h m = reads t (domain_for x) (RangesOver u) e h.right (λ none.
      let k = read-in t (λ o. (over (type_at types.of x) (place t) (ask_domain (place t) o)).faults) h none in
      let o = (part false t.tree (reading types.max (typed types.of t.names) t.tree)).outcome in
      let a = ask_domain (place t) o in
      subst (λ v. (over v (place t) a).faults ≡ [] → RangesOver u (or_else btrue (over v (place t) a).answer)) (sym m)
      (over-domain u (place t) a.answer a.faults (ask_domain-right table [] (place t) o k.right) (ask_domain-answers (place t) o k.fits)) k.none)

  member-typed : (z : ℕ) (u : ValueType) (d : Formula) → variable_type table z ≡ Some u → RangesOver u d → IsPredicate table (binary In (variable z) d)
  member-typed z u d m (inl a) = rw (m, a, same_type-self u) refl
  member-typed z u d m (inr a) = rw (m, a, same_type-self u) refl

  -- ---- written names
  record HasItsType (v : Target) : Type 0 where
    of : ValueType
    at : type_at types.of v ≡ Some of
    entry : variable_type table (number_in v) ≡ Some of
    listed : lists_type table of ≡ true

  its-type : (v : Target) → IsTypedVariable types v → HasItsType v
  its-type (variable_target n) h = record { of = h.0; at = h.1; entry = settled.types n h.0 h.1; listed = settled.listed n h.0 h.1 }
  its-type unknown h = absurd h
  its-type no_variable h = absurd h

  values-typed : (xs : List Written) (es : List Term) → AskValues xs es → Each (λ (x : Written). IsTypedVariable types x.target) xs → Each (IsTypedTerm types table) es → AreTypedTerms table (assignments types xs es)
  values-typed [] es a h k = tt
  values-typed (x ∷ xs) [] a h k = tt
  values-typed (x ∷ xs) (e ∷ es) a h k =
      let v = its-type x.target h.0 in
      ((v.of, v.entry, value-typed e x.target v.of a.0 k.0 v.at v.listed), values-typed xs es a.1 h.1 k.1)

  inner-entry : (x : Written) (z : Local) (v : HasItsType x.target) → HasTypeOf types x z → variable_type table z.number ≡ Some v.of
  inner-entry x z v h = settled.types z.number v.of (h ∙ v.at)

  pairs-typed : (xs : List (Written × Local)) → Each (λ (x : Written). IsTypedVariable types x.target) (map (λ (x : Written × Local). x.0) xs) → Each (λ (x : Written × Local). HasTypeOf types x.0 x.1) xs → AreTypedPairs table (old_pairs xs)
  pairs-typed [] h k = tt
  pairs-typed (x ∷ xs) h k =
      let v = its-type x.0.target h.0 in
      ((v.of, v.entry, inner-entry x.0 x.1 v k.0), pairs-typed xs h.1 k.1)

  all-listed : (xs : List Local) → Each (λ (x : Local). (t : ValueType) × (types.of x.number ≡ Some t)) xs → AreListed table (numbers xs)
  all-listed [] h = tt
  all-listed (x ∷ xs) h = ((h.0.0, settled.types x.number h.0.0 h.0.1), all-listed xs h.1)

  -- ---- substitutions
  statement-types : (s : Statement) → Each AsksRight (within s) → Each (IsTypedHere types table) (within s) → TypesIn table (elaborated types s)
  statement-types (skip_at at) a h = tt
  statement-types (assign_at at xs es) a h = let k = h.0 in values-typed xs es a.0 k.left k.terms
  statement-types (update_at at f e v) a h =
      let k = h.0 in
      let w = its-type f.target k.left.0 in
      over-typed (number_in f.target) w.of (formula types e) (formula types v) w.entry (index-typed e f w.of a.0.0 k.terms.0 w.at w.listed) (element-typed v f w.of a.0.1 k.terms.1.0 w.at w.listed)
  statement-types (member_at at x z e) a h =
      let k = h.0 in
      let w = its-type x.target k.left.0 in
      let entry = inner-entry x z w k.inner in
      (((w.of, entry), tt), (member-typed z.number w.of (formula types e) entry (domain-typed e x.target w.of a.0 k.terms.0 w.at), ((w.of, w.entry, rw entry refl), tt)))
  statement-types (such_at at xs p) a h = let k = h.0 in (pairs-typed xs k.left k.inner, predicate-typed p a.0 k.terms.0)
  statement-types (call_at at es) a h = tt
  statement-types (pre_at at p s) a h = let k = h.0 in (predicate-typed p a.0 k.terms.0, statement-types s a.1 h.1)
  statement-types (assert_at at p s) a h = let k = h.0 in (predicate-typed p a.0 k.terms.0, statement-types s a.1 h.1)
  statement-types (if_at at p s t) a h = let k = h.0 in let first = statement-types s (each-left AsksRight (within s) (within t) a.1) (each-left (IsTypedHere types table) (within s) (within t) h.1) in let second = statement-types t (each-right AsksRight (within s) (within t) a.1) (each-right (IsTypedHere types table) (within s) (within t) h.1) in (predicate-typed p a.0 k.terms.0, first, second)
  statement-types (guard_at at p s) a h = let k = h.0 in (predicate-typed p a.0 k.terms.0, statement-types s a.1 h.1)
  statement-types (choice_at at s t) a h = let first = statement-types s (each-left AsksRight (within s) (within t) a.1) (each-left (IsTypedHere types table) (within s) (within t) h.1) in let second = statement-types t (each-right AsksRight (within s) (within t) a.1) (each-right (IsTypedHere types table) (within s) (within t) h.1) in (first, second)
  statement-types (else_at at s t) a h = let first = statement-types s (each-left AsksRight (within s) (within t) a.1) (each-left (IsTypedHere types table) (within s) (within t) h.1) in let second = statement-types t (each-right AsksRight (within s) (within t) a.1) (each-right (IsTypedHere types table) (within s) (within t) h.1) in (first, (none-typed table (guards (elaborated types s)) (guards-typed table (elaborated types s) first), second))
  statement-types (branches_at at s) a h = statement-types s a.1 h.1
  statement-types (any_at at xs p s) a h = let k = h.0 in (all-listed xs k.bound, (predicate-typed p a.0 k.terms.0, statement-types s a.1 h.1))
  statement-types (var_at at xs s) a h = let k = h.0 in (all-listed xs k.bound, statement-types s a.1 h.1)
  statement-types (loop_at at p s i v) a h = let k = h.0 in (predicate-typed p a.0.0 k.terms.0, statement-types s a.1 h.1, predicate-typed i a.0.1 k.terms.1.0, number-typed v a.0.2 k.terms.1.1.0)
  statement-types (par_at at s t) a h = let first = statement-types s (each-left AsksRight (within s) (within t) a.1) (each-left (IsTypedHere types table) (within s) (within t) h.1) in let second = statement-types t (each-right AsksRight (within s) (within t) a.1) (each-right (IsTypedHere types table) (within s) (within t) h.1) in (first, second)
  statement-types (seq_at at s t) a h = let first = statement-types s (each-left AsksRight (within s) (within t) a.1) (each-left (IsTypedHere types table) (within s) (within t) h.1) in let second = statement-types t (each-right AsksRight (within s) (within t) a.1) (each-right (IsTypedHere types table) (within s) (within t) h.1) in (first, second)

pub statements-type : (types : Types) (table : Table) → IsSettled table types.of → (s : Statement) → Each AsksRight (within s) → Each (IsTypedHere types table) (within s) → TypesIn table (elaborated types s)
statements-type types table settled s a h = statement-types table types settled s a h
