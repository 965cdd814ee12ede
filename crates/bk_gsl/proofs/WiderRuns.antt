-- Over a wider table a substitution that types runs, ends and is clean as before. Each is a path between the two statements, so
-- that both directions, and loops, come at once.
use Rattle.std.proofs.Common.{◌≡◌, ◌↔◌, ◌⊎◌, ℕ, List, [], ◌∷◌, map, refl, sym, ◌∙◌, ap, subst, Bool, true, false, cond, nat_eq}
use Rattle.std.specs.Prelude.{Option, Some, None, unwrap_or}
use Rattle.bk_val.specs.Value.{MathValue}
use Rattle.bk_val.specs.ValueType.{ValueType, bool_type, are_of_types}
use Rattle.bk_form.specs.Table.{Table, lists_type, set_size, IsWellFormed}
use Rattle.bk_form.specs.ArrayTable.{ArrayTable, row_of}
use Rattle.bk_form.specs.Formula.{Formula, variable, unary, binary}
use Rattle.bk_form.specs.Search.{Finder}
use Rattle.bk_form.specs.Environment.{State, IsTypedState}
use Rattle.bk_form.specs.Replacement.{looked_up}
use Rattle.bk_form.specs.Role.{gives, predicate, all_listed, role}
use Rattle.bk_form.specs.Defined.{is_index}
use Rattle.bk_form.specs.declared.operator.UnOp.TheVariants.{Single}
use Rattle.bk_form.specs.declared.operator.BinOp.TheVariants.{Over, Maps}
use Rattle.bk_form.specs.declared.arrays.ArrayRow.{ArrayRow}
use Rattle.bk_form.proofs.Members.{and-true}
use Rattle.bk_gsl.proofs.Listed.{firsts-listed}
use Rattle.bk_gsl.specs.Substitution.{Substitution, skip, assign, pre, guard, choice, if_else, any, seq, par, assert, becomes_such, loop}
use Rattle.bk_gsl.specs.State.{holds, value_at, declared_type, are_values_for, with_values, among, over, firsts}
use Rattle.bk_gsl.specs.Writes.{written}
use Rattle.bk_gsl.specs.Run.{assigned, with_old, Turns, Bounded, Runs, Ends}
use Rattle.bk_gsl.specs.Clean.{IsEvaluable, write_of, IsCleanWrite, IsCleanAt, IsCleanTerm, AreCleanTerms, Reached, Clean}
use Rattle.bk_form.specs.Predicates.{IsPredicate}
use Rattle.bk_gsl.specs.Typed.{IsTerm, AreListed, AreTypedTerms, AreTypedPairs, Types}
use Rattle.bk_form.specs.Wider.{IsWider, IsTypedRole}
use Rattle.bk_form.proofs.Operands.{unary-op, binary-op}
use Rattle.bk_form.proofs.Widening.{variable-wider, variables_listed, types-same, value-same, meaning-wider, widening_roles}
use Rattle.bk_form.proofs.WiderDefined.{defined-wider, fits-wider}

-- the index and the value of a write type
write-typed : (table : Table) (x : ℕ) (f : Formula) (w : Formula × Formula) → write_of x f ≡ Some w → IsTypedRole (role table [] f) → IsTypedRole (role table [] w.0) × IsTypedRole (role table [] w.1)
write-typed table x (binary Over (variable y) (unary Single (binary Maps i v))) w q h = by_name (nat_eq x y) q
  where
    parts : IsTypedRole (role table [] i) × IsTypedRole (role table [] v)
    parts = binary-op Maps (role table [] i) (role table [] v) (unary-op Single (role table [] (binary Maps i v)) (binary-op Over (role table [] (variable y)) (role table [] (unary Single (binary Maps i v))) h).1)

    by_name : (b : Bool) → cond b (Some (i, v)) None ≡ Some w → IsTypedRole (role table [] w.0) × IsTypedRole (role table [] w.1)
    by_name true q = let e : (i, v) ≡ w = cc q in subst (λ u. IsTypedRole (role table [] u.0) × IsTypedRole (role table [] u.1)) e parts
    by_name false q = absurd (cc q)
write-typed table x f w q h = absurd (cc q)

module _ (small large : Table) (well : IsWellFormed small) (wider : IsWider small large) where
  typed-type : (f : Formula) (t : ValueType) → role small [] f ≡ gives t → IsTypedRole (role small [] f)
  typed-type f t h = subst IsTypedRole (sym h) tt

  typed-predicate : (f : Formula) → role small [] f ≡ predicate → IsTypedRole (role small [] f)
  typed-predicate f h = subst IsTypedRole (sym h) tt

  -- ---- typing
  pub predicate-wider : (p : Formula) → IsPredicate small p → IsPredicate large p
  predicate-wider p h = widening_roles small large well wider [] p (typed-predicate p h) ∙ h

  pub term-wider : (t : ValueType) (f : Formula) → IsTerm small t f → IsTerm large t f
  term-wider t f h = widening_roles small large well wider [] f (typed-type f t h) ∙ h

  listed-wider : (ns : List ℕ) → AreListed small ns → AreListed large ns
  listed-wider [] h = tt
  listed-wider (n ∷ ns) h = ((h.0.0, variable-wider small large well wider n h.0.0 h.0.1), listed-wider ns h.1)

  terms-wider : (ps : List (ℕ × Formula)) → AreTypedTerms small ps → AreTypedTerms large ps
  terms-wider [] h = tt
  terms-wider (p ∷ ps) h = ((h.0.0, variable-wider small large well wider p.0 h.0.0 h.0.1, term-wider h.0.0 p.1 h.0.2), terms-wider ps h.1)

  pairs-wider : (xs : List (ℕ × ℕ)) → AreTypedPairs small xs → AreTypedPairs large xs
  pairs-wider [] h = tt
  pairs-wider (x ∷ xs) h = ((h.0.0, variable-wider small large well wider x.0 h.0.0 h.0.1, variable-wider small large well wider x.1 h.0.0 h.0.2), pairs-wider xs h.1)

  pub types-wider : (s : Substitution) → Types small s → Types large s
  types-wider skip w = tt
  types-wider (assign ps) w = terms-wider ps w
  types-wider (pre p s) w = (predicate-wider p w.0, types-wider s w.1)
  types-wider (guard p s) w = (predicate-wider p w.0, types-wider s w.1)
  types-wider (choice s t) w = (types-wider s w.0, types-wider t w.1)
  types-wider (if_else p s t) w = (predicate-wider p w.0, types-wider s w.1, types-wider t w.2)
  types-wider (any zs s) w = (listed-wider zs w.0, types-wider s w.1)
  types-wider (seq s t) w = (types-wider s w.0, types-wider t w.1)
  types-wider (par s t) w = (types-wider s w.0, types-wider t w.1)
  types-wider (assert p s) w = (predicate-wider p w.0, types-wider s w.1)
  types-wider (becomes_such xs p) w = (pairs-wider xs w.0, predicate-wider p w.1)
  types-wider (loop p s i v) w = (predicate-wider p w.0, types-wider s w.1, predicate-wider i w.2, term-wider Rattle.bk_val.specs.ValueType.int_type v w.3)

  -- a typed state of the wider table is one of the narrower
  pub state-narrower : (e : State) → IsTypedState large e → IsTypedState small e
  state-narrower e h = record { typed = λ n t q. sym (value-same small large well wider t (variables_listed small large well wider n t q) (e n)) ∙ h.typed n t (variable-wider small large well wider n t q) }

  module _ (find : Finder) where
    module _ (e : State) where
      pub holds-wider : (p : Formula) → IsPredicate small p → holds find large e p ≡ holds find small e p
      holds-wider p h = λ i. (meaning-wider small large well wider find e e (λ n t q. refl) [] p (typed-predicate p h) i).truth

      value-wider : (f : Formula) → IsTypedRole (role small [] f) → value_at find large e f ≡ value_at find small e f
      value-wider f h = λ i. (meaning-wider small large well wider find e e (λ n t q. refl) [] f h i).value

      assigned-at : (ps : List (ℕ × Formula)) → AreTypedTerms small ps → (n : ℕ) → value_at find large e (looked_up ps n) ≡ value_at find small e (looked_up ps n)
      assigned-at [] w n = refl
      assigned-at (p ∷ ps) w n = elim (nat_eq n p.0) as (λ b. value_at find large e (cond b p.1 (looked_up ps n)) ≡ value_at find small e (cond b p.1 (looked_up ps n))) [
        | true ↦ value-wider p.1 (typed-type p.1 w.0.0 w.0.2)
        | false ↦ assigned-at ps w.1 n
      ]

      assigned-wider : (ps : List (ℕ × Formula)) → AreTypedTerms small ps → assigned find large ps e ≡ assigned find small ps e
      assigned-wider ps w = λ i n. assigned-at ps w n i

      write-wider : (arrays : ArrayTable) (row : ArrayRow) (f : Formula) → IsTypedRole (role small [] f) → (o : Option (Formula × Formula)) → ((w : Formula × Formula) → o ≡ Some w → IsTypedRole (role small [] w.0) × IsTypedRole (role small [] w.1)) → IsCleanWrite find large arrays row e o f ≡ IsCleanWrite find small arrays row e o f
      write-wider arrays row f h (Some w) k = let m = k w refl in λ i. fits-wider small large well wider find e arrays [] w.0 m.0 i × (is_index (Some row) (value-wider w.0 m.0 i) ≡ true) × fits-wider small large well wider find e arrays [] w.1 m.1 i
      write-wider arrays row f h None k = fits-wider small large well wider find e arrays [] f h

      clean-at-wider : (arrays : ArrayTable) (o : Option ArrayRow) (x : ℕ) (f : Formula) → IsTypedRole (role small [] f) → IsCleanAt find large arrays o e x f ≡ IsCleanAt find small arrays o e x f
      clean-at-wider arrays None x f h = fits-wider small large well wider find e arrays [] f h
      clean-at-wider arrays (Some row) x f h = write-wider arrays row f h (write_of x f) (λ w q. write-typed small x f w q h)

      clean-term-wider : (arrays : Option ArrayTable) (x : ℕ) (f : Formula) → IsTypedRole (role small [] f) → IsCleanTerm find large arrays e x f ≡ IsCleanTerm find small arrays e x f
      clean-term-wider None x f h = defined-wider small large well wider find e [] f h
      clean-term-wider (Some arrays) x f h = clean-at-wider arrays (row_of arrays x) x f h

      clean-terms-wider : (arrays : Option ArrayTable) (ps : List (ℕ × Formula)) → AreTypedTerms small ps → AreCleanTerms find large arrays e ps ≡ AreCleanTerms find small arrays e ps
      clean-terms-wider arrays [] w = refl
      clean-terms-wider arrays (p ∷ ps) w = λ i. clean-term-wider arrays p.0 p.1 (typed-type p.1 w.0.0 w.0.2) i × clean-terms-wider arrays ps w.1 i

      evaluable-wider : (arrays : Option ArrayTable) (p : Formula) → IsPredicate small p → IsEvaluable find large arrays e p ≡ IsEvaluable find small arrays e p
      evaluable-wider None p h = defined-wider small large well wider find e [] p (typed-predicate p h)
      evaluable-wider (Some arrays) p h = fits-wider small large well wider find e arrays [] p (typed-predicate p h)

    declared-wider : (zs : List ℕ) → AreListed small zs → map (declared_type large) zs ≡ map (declared_type small) zs
    declared-wider [] h = refl
    declared-wider (z ∷ zs) h = λ i. unwrap_or ((variable-wider small large well wider z h.0.0 h.0.1 ∙ sym h.0.1) i) bool_type ∷ declared-wider zs h.1 i

    declared-listed : (zs : List ℕ) → AreListed small zs → all_listed small (map (declared_type small) zs) ≡ true
    declared-listed [] h = refl
    declared-listed (z ∷ zs) h = and-true (lists_type small (declared_type small z)) (all_listed small (map (declared_type small) zs)) (subst (λ o. lists_type small (unwrap_or o bool_type) ≡ true) (sym h.0.1) (variables_listed small large well wider z h.0.0 h.0.1)) (declared-listed zs h.1)

    pub values-for : (zs : List ℕ) → AreListed small zs → (vs : List MathValue) → are_values_for large zs vs ≡ are_values_for small zs vs
    values-for zs h vs = ap (λ ts. are_of_types (set_size large) ts vs) (declared-wider zs h) ∙ types-same small large well wider (map (declared_type small) zs) (declared-listed zs h) vs

    pub runs-wider : (s : Substitution) → Types small s → (e f : State) → Runs find large s e f ≡ Runs find small s e f
    runs-wider skip w e f = refl
    runs-wider (assign ps) w e f = λ i. f ≡ assigned-wider e ps w i
    runs-wider (pre p s) w e f = runs-wider s w.1 e f
    runs-wider (guard p s) w e f = λ i. (holds-wider e p w.0 i ≡ true) × runs-wider s w.1 e f i
    runs-wider (choice s t) w e f = λ i. runs-wider s w.0 e f i ⊎ runs-wider t w.1 e f i
    runs-wider (if_else p s t) w e f = λ i. ((holds-wider e p w.0 i ≡ true) × runs-wider s w.1 e f i) ⊎ ((holds-wider e p w.0 i ≡ false) × runs-wider t w.2 e f i)
    runs-wider (any zs s) w e f = λ i. (vs : List MathValue) × (values-for zs w.0 vs i ≡ true) × ((g : State) × runs-wider s w.1 (with_values e zs vs) g i × (f ≡ over (among zs) e g))
    runs-wider (seq s t) w e f = λ i. (g : State) × runs-wider s w.0 e g i × runs-wider t w.1 g f i
    runs-wider (par s t) w e f = λ i. (g : State) × (h : State) × runs-wider s w.0 e g i × runs-wider t w.1 e h i × (f ≡ over (among (written s)) g h)
    runs-wider (assert p s) w e f = runs-wider s w.1 e f
    runs-wider (becomes_such xs p) w e f = λ i. (vs : List MathValue) × (values-for (firsts xs) (firsts-listed small xs w.0) vs i ≡ true) × (holds-wider (with_old xs e vs) p w.1 i ≡ true) × (f ≡ with_values e (firsts xs) vs)
    runs-wider (loop p s j v) w e f = λ i. (n : ℕ) × Turns (λ x y. runs-wider s w.1 x y i) (λ x. holds-wider x p w.0 i) n e f

    pub ends-wider : (s : Substitution) → Types small s → (e : State) → Ends find large s e ≡ Ends find small s e
    ends-wider skip w e = refl
    ends-wider (assign ps) w e = refl
    ends-wider (pre p s) w e = λ i. (holds-wider e p w.0 i ≡ true) × ends-wider s w.1 e i
    ends-wider (guard p s) w e = λ i. holds-wider e p w.0 i ≡ true → ends-wider s w.1 e i
    ends-wider (choice s t) w e = λ i. ends-wider s w.0 e i × ends-wider t w.1 e i
    ends-wider (if_else p s t) w e = λ i. (holds-wider e p w.0 i ≡ true → ends-wider s w.1 e i) × (holds-wider e p w.0 i ≡ false → ends-wider t w.2 e i)
    ends-wider (any zs s) w e = λ i. (vs : List MathValue) → values-for zs w.0 vs i ≡ true → ends-wider s w.1 (with_values e zs vs) i
    ends-wider (seq s t) w e = λ i. ends-wider s w.0 e i × ((g : State) → runs-wider s w.0 e g i → ends-wider t w.1 g i)
    ends-wider (par s t) w e = λ i. ends-wider s w.0 e i × ends-wider t w.1 e i
    ends-wider (assert p s) w e = λ i. (holds-wider e p w.0 i ≡ true) × ends-wider s w.1 e i
    ends-wider (becomes_such xs p) w e = refl
    ends-wider (loop p s j v) w e = λ i. (n : ℕ) × Bounded (λ x y. runs-wider s w.1 x y i) (λ x. ends-wider s w.1 x i) (λ x. holds-wider x p w.0 i) n e

    pub clean-wider : (arrays : Option ArrayTable) (s : Substitution) → Types small s → (e : State) → Clean find large arrays s e ≡ Clean find small arrays s e
    clean-wider arrays skip w e = refl
    clean-wider arrays (assign ps) w e = clean-terms-wider e arrays ps w
    clean-wider arrays (pre p s) w e = λ i. defined-wider small large well wider find e [] p (typed-predicate p w.0) i × clean-wider arrays s w.1 e i
    clean-wider arrays (guard p s) w e = λ i. defined-wider small large well wider find e [] p (typed-predicate p w.0) i × (holds-wider e p w.0 i ≡ true → clean-wider arrays s w.1 e i)
    clean-wider arrays (choice s t) w e = λ i. clean-wider arrays s w.0 e i × clean-wider arrays t w.1 e i
    clean-wider arrays (if_else p s t) w e = λ i. evaluable-wider e arrays p w.0 i × (holds-wider e p w.0 i ≡ true → clean-wider arrays s w.1 e i) × (holds-wider e p w.0 i ≡ false → clean-wider arrays t w.2 e i)
    clean-wider arrays (any zs s) w e = λ i. (vs : List MathValue) → values-for zs w.0 vs i ≡ true → clean-wider arrays s w.1 (with_values e zs vs) i
    clean-wider arrays (seq s t) w e = λ i. clean-wider arrays s w.0 e i × ((g : State) → runs-wider s w.0 e g i → clean-wider arrays t w.1 g i)
    clean-wider arrays (par s t) w e = λ i. clean-wider arrays s w.0 e i × ((g : State) → runs-wider s w.0 e g i → clean-wider arrays t w.1 e i)
    clean-wider arrays (assert p s) w e = λ i. defined-wider small large well wider find e [] p (typed-predicate p w.0) i × clean-wider arrays s w.1 e i
    clean-wider arrays (becomes_such xs p) w e = λ i. (vs : List MathValue) → values-for (firsts xs) (firsts-listed small xs w.0) vs i ≡ true → defined-wider small large well wider find (with_old xs e vs) [] p (typed-predicate p w.1) i
    clean-wider arrays (loop p s j v) w e = λ i. (n : ℕ) (f : State) → Reached (λ x y. runs-wider s w.1 x y i) (λ x. holds-wider x p w.0 i) n e f →
        defined-wider small large well wider find f [] j (typed-predicate j w.2) i × evaluable-wider f arrays p w.0 i × (holds-wider f p w.0 i ≡ true → clean-wider arrays s w.1 f i × defined-wider small large well wider find f [] v (typed-type v Rattle.bk_val.specs.ValueType.int_type w.3) i)

-- ---- the two directions
moved : {A B : Type 0} → A ≡ B → (A → B) × (B → A)
moved {A} {B} p = ((λ a. subst (λ X. X) p a), (λ b. subst (λ X. X) (sym p) b))

pub runs_wider : (small large : Table) → IsWellFormed small → IsWider small large → (find : Finder) (s : Substitution) → Types small s → (e f : State) → Runs find large s e f ↔ Runs find small s e f
runs_wider small large well wider find s w e f = moved (runs-wider small large well wider find s w e f)

pub ends_wider : (small large : Table) → IsWellFormed small → IsWider small large → (find : Finder) (s : Substitution) → Types small s → (e : State) → Ends find large s e ↔ Ends find small s e
ends_wider small large well wider find s w e = moved (ends-wider small large well wider find s w e)

pub clean_wider : (small large : Table) → IsWellFormed small → IsWider small large → (find : Finder) (arrays : Option ArrayTable) (s : Substitution) → Types small s → (e : State) → Clean find large arrays s e ↔ Clean find small arrays s e
clean_wider small large well wider find arrays s w e = moved (clean-wider small large well wider find arrays s w e)
