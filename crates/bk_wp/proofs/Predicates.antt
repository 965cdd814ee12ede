-- Box and diamond of a predicate are predicates, with locals and x :(P) too.
use Rattle.std.proofs.Common.{◌≡◌, ℕ, zero, suc, ◌+◌, ◌<◌, List, [], ◌∷◌, length, refl, sym, ◌∙◌, ap, subst, Bool, true, false, cond, nat_eq, arith}
use Rattle.std.specs.Prelude.{Some, slice_get, unwrap_or}
use Rattle.bk_val.specs.ValueType.{ValueType, bool_type}
use Rattle.bk_form.specs.Table.{Table, lists_type, variable_type, IsWellFormed}
use Rattle.bk_form.specs.Formula.{Formula, variable, bound, unary, binary, for_all, for_some, comprehension, lambda, Formulas, no_formulas, formula_and}
use Rattle.bk_form.specs.Role.{role, roles, bind, bound_role, given_by, predicate, if_predicate, if_holds, unary_role, binary_role, connective_role, quantifier_role, comprehension_role, lambda_role, all_listed, element_types}
use Rattle.bk_form.specs.Replacement.{replaced, looked_up, count, IsClosed, AreClosed}
use Rattle.bk_form.specs.declared.operator.UnOp.TheVariants.{Not}
use Rattle.bk_form.specs.declared.operator.BinOp.TheVariants.{And, Imp}
use Rattle.bk_form.proofs.Replaced.{role-under}
use Rattle.bk_form.proofs.Members.{and-true}
use Rattle.bk_gsl.specs.Substitution.{Substitution, skip, assign, pre, guard, choice, if_else, any, seq, par, assert, becomes_such, loop}
use Rattle.bk_gsl.specs.State.{declared_type, firsts}
use Rattle.bk_gsl.specs.Run.{old_of}
use Rattle.bk_form.specs.Predicates.{IsPredicate}
use Rattle.bk_gsl.specs.Typed.{AreListed, AreTypedTerms, AreTypedPairs, Types}
use Rattle.bk_gsl.proofs.States.{nat_eq-same}
use Rattle.bk_bind.specs.Closing.{closed_over, all_closed_over, closed_over_each}
use Rattle.bk_wp.specs.Quantifiers.{types_of, all_of, some_of}
use Rattle.bk_wp.specs.Box.{diamond, new_values, all_new, some_new}
use Rattle.bk_wp.specs.Shapes.{HasNoLoop}
use Rattle.bk_wp.proofs.Closing.{declared-listed, closed-each, length-types}
use Rattle.bk_form.proofs.Closed.{predicate-closed}
use Rattle.bk_gsl.proofs.Listed.{firsts-listed}
use Rattle.bk_wp.proofs.Steps.{terms-replace, olds-replace}
use Rattle.bk_form.proofs.Widening.{type-listed}

-- one type more behind the innermost k
pub record ClosingTypes (k : ℕ) (t : ValueType) (a b : List ValueType) : Type 0 where
  pub same : (i : ℕ) → i < k → slice_get b i ≡ slice_get a i
  pub last : slice_get b k ≡ Some t

types-cons : {k : ℕ} {t : ValueType} {a b : List ValueType} (u : ValueType) → ClosingTypes k t a b → ClosingTypes (suc k) t (u ∷ a) (u ∷ b)
types-cons {k} {t} {a} {b} u h = record { same = at; last = h.last }
  where
    at : (i : ℕ) → i < suc k → slice_get (u ∷ b) i ≡ slice_get (u ∷ a) i
    at zero p = refl
    at (suc i) p = h.same i (omega arith)

pub types-bound : (ts : List ValueType) {k : ℕ} {t : ValueType} {a b : List ValueType} → ClosingTypes k t a b → ClosingTypes (length ts + k) t (bind ts a) (bind ts b)
types-bound [] {k} h = let e : zero + k ≡ k = omega arith in rw e h
types-bound (u ∷ ts) {k} h = let e : suc (length ts) + k ≡ length ts + suc k = omega arith in rw e (types-bound ts (types-cons u h))

module _ (table : Table) (z : ℕ) (t : ValueType) (given : bound_role table (Some t) ≡ given_by (variable_type table z)) where
  count-types : (around : List ValueType) (rs : Formulas) → length (element_types (roles table around rs)) ≡ count rs
  count-types around no_formulas = refl
  count-types around (formula_and r rs) = ap suc (count-types around rs)

  pub ranged : (a : List ValueType) (rs : Formulas) (us : List ValueType) {k : ℕ} {b : List ValueType} → us ≡ element_types (roles table a rs) → ClosingTypes k t a b → ClosingTypes (count rs + k) t (bind (element_types (roles table a rs)) a) (bind us b)
  ranged a rs us {k} {b} e h =
      subst (λ x. ClosingTypes (count rs + k) t (bind (element_types (roles table a rs)) a) (bind x b)) (sym e)
      (subst (λ n. ClosingTypes (n + k) t (bind (element_types (roles table a rs)) a) (bind (element_types (roles table a rs)) b)) (count-types a rs) (types-bound (element_types (roles table a rs)) h))

  mutual
    pub role-closing : (k : ℕ) (a b : List ValueType) (f : Formula) → IsClosed k f → ClosingTypes k t a b → role table b (closed_over z k f) ≡ role table a f
    role-closing k a b (variable n) c h = by_test (nat_eq n z) refl
      where
        by_test : (x : Bool) → nat_eq n z ≡ x → role table b (cond x (bound k) (variable n)) ≡ given_by (variable_type table n)
        by_test true q = ap (bound_role table) h.last ∙ given ∙ ap (λ m. given_by (variable_type table m)) (sym (nat_eq-same n z q))
        by_test false q = refl
    role-closing k a b (bound n) c h = ap (bound_role table) (h.same n c)
    role-closing k a b (unary o f) c h = ap (unary_role o) (role-closing k a b f c h)
    role-closing k a b (binary o f g) c h = λ i. binary_role o (role-closing k a b f c.0 h i) (role-closing k a b g c.1 h i)
    role-closing k a b (for_all ts p) c h = ap (quantifier_role table ts) (role-closing (length ts + k) (bind ts a) (bind ts b) p c (types-bound ts h))
    role-closing k a b (for_some ts p) c h = ap (quantifier_role table ts) (role-closing (length ts + k) (bind ts a) (bind ts b) p c (types-bound ts h))
    role-closing k a b (comprehension rs p) c h =
        let r = roles-closing k a b rs c.0 h in
        let us = element_types (roles table b (all_closed_over z k rs)) in
        λ i. comprehension_role (r i) (role-closing (count rs + k) (bind (element_types (roles table a rs)) a) (bind us b) p c.1 (ranged a rs us (ap element_types r) h) i)
    role-closing k a b (lambda rs p v) c h =
        let r = roles-closing k a b rs c.0 h in
        let us = element_types (roles table b (all_closed_over z k rs)) in
        λ i. lambda_role (r i) (role-closing (count rs + k) (bind (element_types (roles table a rs)) a) (bind us b) p c.1 (ranged a rs us (ap element_types r) h) i) (role-closing (count rs + k) (bind (element_types (roles table a rs)) a) (bind us b) v c.2 (ranged a rs us (ap element_types r) h) i)
    role-closing k a b _ c h = refl

    pub roles-closing : (k : ℕ) (a b : List ValueType) (fs : Formulas) → AreClosed k fs → ClosingTypes k t a b → roles table b (all_closed_over z k fs) ≡ roles table a fs
    roles-closing k a b no_formulas c h = refl
    roles-closing k a b (formula_and f fs) c h = λ i. role-closing k a b f c.0 h i ∷ roles-closing k a b fs c.1 h i

module _ (table : Table) where
  -- terms of their variables' types leave a formula's role as it is
  pub terms-predicate : (ps : List (ℕ × Formula)) (r : Formula) → AreTypedTerms table ps → IsPredicate table r → IsPredicate table (replaced (looked_up ps) r)
  terms-predicate ps r w h = role-under table [] (looked_up ps) (terms-replace table ps w) r ∙ h

module _ (table : Table) (facts : IsWellFormed table) where
  pub role-each : (zs : List ℕ) (f : Formula) → IsClosed 0 f → AreListed table zs → role table (bind (types_of table zs) []) (closed_over_each zs f) ≡ role table [] f
  role-each [] f c l = refl
  role-each (z ∷ zs) f c l =
      let t = declared_type table z in
      let ts = types_of table zs in
      let k : length ts + 0 ≡ length zs = omega (arith, length-types table zs) in
      let start : ClosingTypes 0 t [] (t ∷ []) = record { same = λ i p. absurd (omega arith); last = refl } in
      let g = subst (λ n. ClosingTypes n t (bind ts []) (bind ts (t ∷ []))) k (types-bound ts start) in
      role-closing table z t (declared-listed table facts z l.0) (length zs) (bind ts []) (bind ts (t ∷ [])) (closed_over_each zs f) (closed-each zs f c) g
      ∙ role-each zs f c l.1

  pub types-listed : (zs : List ℕ) → AreListed table zs → all_listed table (types_of table zs) ≡ true
  types-listed [] l = refl
  types-listed (z ∷ zs) l = and-true (lists_type table (declared_type table z)) (all_listed table (types_of table zs)) (subst (λ o. lists_type table (unwrap_or o bool_type) ≡ true) (sym l.0.1) (type-listed table facts z l.0.0 l.0.1)) (types-listed zs l.1)

  quantified : (zs : List ℕ) (f : Formula) → AreListed table zs → role table (bind (types_of table zs) []) f ≡ predicate → quantifier_role table (types_of table zs) (role table (bind (types_of table zs) []) f) ≡ predicate
  quantified zs f l h = λ i. if_holds (types-listed zs l i) (if_predicate predicate (h i))

  pub all-predicate : (zs : List ℕ) (f : Formula) → AreListed table zs → IsPredicate table f → IsPredicate table (all_of table zs f)
  all-predicate zs f l h = quantified zs (closed_over_each zs f) l (role-each zs f (predicate-closed table f h) l ∙ h)

  some-predicate : (zs : List ℕ) (f : Formula) → AreListed table zs → IsPredicate table f → IsPredicate table (some_of table zs f)
  some-predicate zs f l h = quantified zs (closed_over_each zs f) l (role-each zs f (predicate-closed table f h) l ∙ h)

  pub new-role : (xs : List (ℕ × ℕ)) (p : Formula) → AreTypedPairs table xs → IsPredicate table p → role table (bind (types_of table (firsts xs)) []) (new_values xs p) ≡ predicate
  new-role xs p w h =
      role-under table (bind (types_of table (firsts xs)) []) (λ n. variable (old_of xs n)) (olds-replace table xs w) (closed_over_each (firsts xs) p)
      ∙ role-each (firsts xs) p (predicate-closed table p h) (firsts-listed table xs w) ∙ h

  pub all_new-predicate : (xs : List (ℕ × ℕ)) (p r : Formula) → AreTypedPairs table xs → IsPredicate table p → IsPredicate table r → IsPredicate table (all_new table xs p r)
  all_new-predicate xs p r w h k =
      let zs = firsts xs in
      let l = firsts-listed table xs w in
      let a = new-role xs p w h in
      let b = role-each zs r (predicate-closed table r k) l ∙ k in
      quantified zs (binary Imp (new_values xs p) (closed_over_each zs r)) l (λ i. connective_role (a i) (b i))

  some_new-predicate : (xs : List (ℕ × ℕ)) (p r : Formula) → AreTypedPairs table xs → IsPredicate table p → IsPredicate table r → IsPredicate table (some_new table xs p r)
  some_new-predicate xs p r w h k =
      let zs = firsts xs in
      let l = firsts-listed table xs w in
      let a = new-role xs p w h in
      let b = role-each zs r (predicate-closed table r k) l ∙ k in
      quantified zs (binary And (new_values xs p) (closed_over_each zs r)) l (λ i. connective_role (a i) (b i))

  pub diamond-predicate : (s : Substitution) (r : Formula) → Types table s → HasNoLoop s → IsPredicate table r → IsPredicate table (diamond table s r)
  diamond-predicate skip r w n h = h
  diamond-predicate (assign ps) r w n h = terms-predicate table ps r w h
  diamond-predicate (pre p s) r w n h = λ i. connective_role (w.0 i) (diamond-predicate s r w.1 n h i)
  diamond-predicate (guard p s) r w n h = λ i. connective_role (w.0 i) (diamond-predicate s r w.1 n h i)
  diamond-predicate (choice s t) r w n h = λ i. connective_role (diamond-predicate s r w.0 n.0 h i) (diamond-predicate t r w.1 n.1 h i)
  diamond-predicate (if_else p s t) r w n h = λ i. connective_role (connective_role (w.0 i) (diamond-predicate s r w.1 n.0 h i)) (connective_role (unary_role Not (w.0 i)) (diamond-predicate t r w.2 n.1 h i))
  diamond-predicate (any zs s) r w n h = some-predicate zs (diamond table s r) w.0 (diamond-predicate s r w.1 n h)
  diamond-predicate (seq s t) r w n h = diamond-predicate s (diamond table t r) w.0 n.0 (diamond-predicate t r w.1 n.1 h)
  diamond-predicate (par s t) r w n h = absurd n
  diamond-predicate (assert p s) r w n h = λ i. connective_role (w.0 i) (connective_role (w.0 i) (diamond-predicate s r w.1 n h i))
  diamond-predicate (becomes_such xs p) r w n h = some_new-predicate xs p r w.0 w.1 h
  diamond-predicate (loop p s i v) r w n h = absurd n
