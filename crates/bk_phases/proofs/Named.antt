-- The formula of a term names only what is in scope of it, and has no loose bound number.
use Rattle.std.proofs.Common.{◌≡◌, ◌⊎◌, inl, inr, ℕ, List, [], refl, Bool, true, false, cond}
use Rattle.std.specs.Prelude.{Option, None, Some}
use Rattle.bk_val.specs.ValueType.{ValueType, int_type, bool_type, enum_type, pair_type, set_type}
use Rattle.bk_form.specs.Table.{Table, lists_type}
use Rattle.bk_form.specs.Formula.{Formula, empty_set, btrue, unary, binary}
use Rattle.bk_form.specs.Replacement.{IsClosed}
use Rattle.bk_form.specs.Role.{role, gives, ranges_over, predicate, same_type}
use Rattle.bk_form.specs.declared.operator.UnOp.TheVariants.{Pow as PowerOf}
use Rattle.bk_form.specs.declared.operator.BinOp.TheVariants.{In}
use Rattle.bk_form.proofs.Closed.{term-closed, predicate-closed}
use Rattle.bk_dev.specs.Facts.{Names as NamesOnly}
use Rattle.bk_raw.specs.Errors.Faults.{Fault}
use Rattle.bk_raw.specs.Meaning.Outcome.{Outcome, answered, refused, no_type, ask, ask_value, ask_domain, ask_predicate}
use Rattle.bk_raw.specs.Meaning.TermReading.{reading}
use Rattle.bk_raw.specs.Meaning.RightReading.{Whenever}
use Rattle.bk_raw.specs.Meaning.Built.{IsVisible, OutcomeHas}
use Rattle.bk_raw.proofs.Filled.{Gives, and-both, same_type-self}
use Rattle.bk_raw.proofs.Asks.{Right, Of, IsDomain, ask-right, ask_value-right, ask_domain-right, ask_predicate-right}
use Rattle.bk_raw.proofs.RulesBuilt.{ask-has, ask_value-has, ask_domain-has, ask_predicate-has}
use Rattle.bk_raw.proofs.ReadingBuilt.{reading-has, part-has, visible-built}
use Rattle.bk_statics.specs.Typings.{Target, unknown, no_variable, variable_target, typed, type_at, or_else}
use Rattle.bk_statics.specs.Settled.{IsSettled, AreOf, AreSeen}
use Rattle.bk_statics.proofs.SubTypes.{outcome-right}
use Rattle.bk_statics.proofs.SubStays.{seen-names}
use Rattle.bk_phases.specs.Scope.{Written}
use Rattle.bk_phases.specs.Term.{Wanted, a_predicate, a_value, a_number, value_for, domain_for, index_for, element_for, Term, place, wants_predicate}
use Rattle.bk_phases.specs.Types.{Types}
use Rattle.bk_phases.specs.Formulas.{reading_of, only_formula, over_type, over, ask_like, ask_part, asked, formula}

-- ---- closed
domain-closed : (table : Table) (d : Formula) (t : ValueType) → (role table [] d ≡ gives (set_type t)) ⊎ (role table [] d ≡ ranges_over t) → lists_type table t ≡ true → IsClosed 0 d
domain-closed table d t (inl h) l = term-closed table (set_type t) d h
domain-closed table d t (inr h) l =
    let made = binary In (empty_set (set_type t)) (unary PowerOf d) in
    let types : role table [] made ≡ predicate = rw (h, l, same_type-self t) refl in
    let closed = predicate-closed table made types in
    closed.1

module _ (visible : ℕ → Bool) where
  both-named : (o : Option Formula) → Whenever (IsClosed 0) o → Whenever (IsVisible visible) o → Whenever (NamesOnly visible) o
  both-named None h k = tt
  both-named (Some f) h k = record { closed = h; visible_only = k }

  pairs-named : (o : Option (Formula × ValueType)) → Whenever (λ p. IsClosed 0 p.0) o → Whenever (λ p. IsVisible visible p.0) o → Whenever (λ p. NamesOnly visible p.0) o
  pairs-named None h k = tt
  pairs-named (Some d) h k = record { closed = h; visible_only = k }

  or-btrue : (o : Option Formula) → Whenever (NamesOnly visible) o → NamesOnly visible (or_else btrue o)
  or-btrue None h = record { closed = tt; visible_only = λ n e. absurd (cc) }
  or-btrue (Some f) h = h

  -- ---- what is asked of an outcome
  -- all that its place may ask of it names only what may be seen
  record AnswersNamed (table : Table) (at : ℕ) (o : Outcome) : Type 0 where
    typed_one : (t : ValueType) → lists_type table t ≡ true → Whenever (NamesOnly visible) (ask at o t).answer
    value : Whenever (λ p. NamesOnly visible p.0) (ask_value at o).answer
    domain : Whenever (λ p. NamesOnly visible p.0) (ask_domain at o).answer
    holds : Whenever (NamesOnly visible) (ask_predicate o).answer

  only-named : (o : Option (Formula × ValueType)) → Whenever (λ p. NamesOnly visible p.0) o → Whenever (NamesOnly visible) (only_formula o)
  only-named None h = tt
  only-named (Some d) h = h

  cond-named : (c : Bool) (f : Formula) (fs : List Fault) → NamesOnly visible f → Whenever (NamesOnly visible) (cond c (answered f) (refused fs)).answer
  cond-named true f fs h = h
  cond-named false f fs h = tt

  over-named : (t : ValueType) (at : ℕ) (o : Option (Formula × ValueType)) (fs : List Fault) → Whenever (λ p. NamesOnly visible p.0) o → Whenever (NamesOnly visible) (over_type t at o fs).answer
  over-named t at None fs h = tt
  over-named t at (Some d) fs h = cond-named (same_type t d.1) d.0 (no_type at) h

module _ (table : Table) (types : Types) (settled : IsSettled table types.of) (visible : ℕ → Bool) where
  -- ---- the answers
  gives-closed : (t : ValueType) (o : Option Formula) → Whenever (Gives table [] t) o → Whenever (IsClosed 0) o
  gives-closed t None h = tt
  gives-closed t (Some f) h = term-closed table t f h

  value-closed : (o : Option (Formula × ValueType)) → Whenever (λ p. Of table [] p.0 p.1) o → Whenever (λ p. IsClosed 0 p.0) o
  value-closed None h = tt
  value-closed (Some d) h = term-closed table d.1 d.0 h.0

  domains-closed : (o : Option (Formula × ValueType)) → Whenever (IsDomain table []) o → Whenever (λ p. IsClosed 0 p.0) o
  domains-closed None h = tt
  domains-closed (Some d) h = domain-closed table d.0 d.1 h.form h.listed

  holds-closed : (o : Option Formula) → Whenever (λ p. role table [] p ≡ predicate) o → Whenever (IsClosed 0) o
  holds-closed None h = tt
  holds-closed (Some p) h = predicate-closed table p h

  answers-named : (at : ℕ) (o : Outcome) → Right table [] o → OutcomeHas (IsVisible visible) o → AnswersNamed visible table at o
  answers-named at o h k = record {
    typed_one = λ t l. both-named visible (ask at o t).answer (gives-closed t (ask at o t).answer (ask-right table [] at o t h l)) (ask-has (IsVisible visible) (visible-built visible) at o t k);
    value = pairs-named visible (ask_value at o).answer (value-closed (ask_value at o).answer (ask_value-right table [] at o h)) (ask_value-has (IsVisible visible) (visible-built visible) at o k);
    domain = pairs-named visible (ask_domain at o).answer (domains-closed (ask_domain at o).answer (ask_domain-right table [] at o h)) (ask_domain-has (IsVisible visible) (visible-built visible) at o k);
    holds = both-named visible (ask_predicate o).answer (holds-closed (ask_predicate o).answer (ask_predicate-right table [] o h)) (ask_predicate-has (IsVisible visible) (visible-built visible) o k);
  }

  -- ---- by the place
  at-listed : (x : Target) (t : ValueType) → type_at types.of x ≡ Some t → lists_type table t ≡ true
  at-listed (variable_target n) t h = settled.listed n t h
  at-listed unknown t h = absurd (cc)
  at-listed no_variable t h = absurd (cc)

  like-named : (u : Option ValueType) (at : ℕ) (o : Outcome) → ((t : ValueType) → u ≡ Some t → lists_type table t ≡ true) → AnswersNamed visible table at o → Whenever (NamesOnly visible) (ask_like u at o).answer
  like-named None at o l a = tt
  like-named (Some t) at o l a = a.typed_one t (l t refl)

  domain-named : (u : Option ValueType) (at : ℕ) (o : Outcome) → AnswersNamed visible table at o → Whenever (NamesOnly visible) (over u at (ask_domain at o)).answer
  domain-named None at o a = only-named visible (ask_domain at o).answer a.domain
  domain-named (Some t) at o a = over-named visible t at (ask_domain at o).answer (ask_domain at o).faults a.domain

  -- both parts of a relation's type are listed
  both-listed : (t u : ValueType) → lists_type table (set_type (pair_type t u)) ≡ true → (lists_type table t ≡ true) × (lists_type table u ≡ true)
  both-listed t u h = and-both (lists_type table t) (lists_type table u) h

  part-named : (side : ValueType → ValueType → ValueType) → ((t u : ValueType) → lists_type table (set_type (pair_type t u)) ≡ true → lists_type table (side t u) ≡ true) → (f : Written) (r : Option ValueType) (at : ℕ) (o : Outcome) → ((t : ValueType) → r ≡ Some t → lists_type table t ≡ true) → AnswersNamed visible table at o → Whenever (NamesOnly visible) (ask_part side f r at o).answer
  part-named side s f None at o l a = tt
  part-named side s f (Some int_type) at o l a = tt
  part-named side s f (Some bool_type) at o l a = tt
  part-named side s f (Some (enum_type n)) at o l a = tt
  part-named side s f (Some (pair_type t u)) at o l a = tt
  part-named side s f (Some (set_type int_type)) at o l a = tt
  part-named side s f (Some (set_type bool_type)) at o l a = tt
  part-named side s f (Some (set_type (enum_type n))) at o l a = tt
  part-named side s f (Some (set_type (set_type t))) at o l a = tt
  part-named side s f (Some (set_type (pair_type t u))) at o l a = a.typed_one (side t u) (s t u (l (set_type (pair_type t u)) refl))

  asked-named : (w : Wanted) (at : ℕ) (o : Outcome) → AnswersNamed visible table at o → Whenever (NamesOnly visible) (asked types.of w at o).answer
  asked-named a_predicate at o a = a.holds
  asked-named a_value at o a = only-named visible (ask_value at o).answer a.value
  asked-named a_number at o a = a.typed_one int_type refl
  asked-named (value_for x) at o a = like-named (type_at types.of x) at o (at-listed x) a
  asked-named (domain_for x) at o a = domain-named (type_at types.of x) at o a
  asked-named (index_for f) at o a = part-named (λ t u. t) (λ t u h. (both-listed t u h).0) f (type_at types.of f.target) at o (at-listed f.target) a
  asked-named (element_for f) at o a = part-named (λ t u. u) (λ t u h. (both-listed t u h).1) f (type_at types.of f.target) at o (at-listed f.target) a

  pub formula-names : (t : Term) → AreOf table t.names → AreSeen visible t.names → NamesOnly visible (formula types t)
  formula-names t h s =
      let wanted = wants_predicate t.wanted in
      let r = reading types.max (typed types.of t.names) t.tree in
      let o = (reading_of types t).outcome in
      let right : Right table [] o = outcome-right types.max table types.of settled t.names wanted t.tree h in
      let has : OutcomeHas (IsVisible visible) o = part-has types.max (IsVisible visible) (visible-built visible) wanted t.tree r (reading-has types.max (IsVisible visible) (visible-built visible) t.tree (typed types.of t.names) (seen-names visible types.of t.names s)) in
      or-btrue visible (asked types.of t.wanted (place t) o).answer (asked-named t.wanted (place t) o (answers-named (place t) o right has))
