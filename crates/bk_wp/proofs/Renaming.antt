-- WD is the same formula whether variables are bound before or after: so W of x :(P) says of P what WD(P) says.
use Rattle.std.proofs.Common.{◌≡◌, ◌≤◌, ℕ, suc, ◌+◌, List, [], ◌∷◌, length, refl, sym, ◌∙◌, ap, subst, Bool, true, false, cond, nat_eq, nat_lt, arith, Some}
use Rattle.std.proofs.lemmas.Bool.Decides.{nat_tests}
use Rattle.bk_val.specs.ValueType.{ValueType, int_type, bool_type, enum_type, pair_type, set_type}
use Rattle.bk_form.specs.Table.{Table, variable_type, IsWellFormed}
use Rattle.bk_form.specs.Formula.{Formula, variable, bound, btrue, unary, binary, for_all, for_some, comprehension, lambda, Formulas, no_formulas, formula_and}
use Rattle.bk_form.specs.Predicates.{IsPredicate}
use Rattle.bk_form.specs.Role.{Role, gives, role, roles, bind, bound_role, given_by, element_types}
use Rattle.bk_form.specs.Replacement.{count, replaced, all_replaced, IsClosed, AreClosed, IsReplacement}
use Rattle.bk_form.specs.declared.operator.UnOp.{UnOp}
use Rattle.bk_form.specs.declared.operator.UnOp.TheVariants.{Not, Min, Max, Dom, Pow}
use Rattle.bk_form.specs.declared.operator.BinOp.{BinOp}
use Rattle.bk_form.specs.declared.operator.BinOp.TheVariants.{And, Imp, In, PartialFunctions, Times, Div, Mod, Power, Apply}
use Rattle.bk_form.proofs.Closed.{predicate-closed}
use Rattle.bk_form.proofs.Replaced.{role-under}
use Rattle.bk_bind.specs.Closing.{closed_over, all_closed_over, closed_over_each}
use Rattle.bk_form.specs.Lifting.{lifted, all_lifted}
use Rattle.bk_bind.proofs.Raised.{count-types}
use Rattle.bk_wd.specs.Joining.{both, where_true, all_over}
use Rattle.bk_wd.specs.Operands.{WhenMet, always_met, met_where_true, met_where_false, right_met, sides_asked}
use Rattle.bk_wd.specs.WellDefined.{domain_of, functions_of, unary_own, binary_own, ranges_onto, in_ranges, defined, all_defined}
use Rattle.bk_gsl.specs.State.{declared_type, firsts}
use Rattle.bk_gsl.specs.Run.{old_of}
use Rattle.bk_gsl.specs.Typed.{AreListed, AreTypedPairs}
use Rattle.bk_gsl.proofs.Listed.{firsts-listed}
use Rattle.bk_wp.specs.Box.{new_values}
use Rattle.bk_wp.specs.Guarded.{such_condition}
use Rattle.bk_wp.specs.Quantifiers.{types_of}
use Rattle.bk_wp.proofs.Closing.{declared-listed, closed-each, length-types}
use Rattle.bk_wp.proofs.Predicates.{ClosingTypes, types-bound, ranged, role-closing, roles-closing}
use Rattle.bk_wp.proofs.Steps.{olds-replace}

-- !z.D over the variables of x :(P), for what is asked of P, with the new values bound after; btrue where D is
abbrev pub such_after : Table → List (ℕ × ℕ) → Formula → Formula
such_after table xs btrue = btrue
such_after table xs d = all_over (types_of table (firsts xs)) (new_values xs d)

-- ---- what is put together, by tests
abbrev is_true : Formula → Bool
is_true btrue = true
is_true _ = false

both-is : (p q : Formula) → both p q ≡ cond (is_true p) q (cond (is_true q) p (binary And p q))
both-is btrue q = refl
both-is p btrue = by_form p
  where
    by_form : (p : Formula) → both p btrue ≡ cond (is_true p) btrue p
    by_form btrue = refl
    by_form _ = refl
both-is p q = refl

where-is : (p q : Formula) → where_true p q ≡ cond (is_true q) btrue (cond (is_true p) q (binary Imp p q))
where-is p btrue = refl
where-is btrue q = refl
where-is p q = refl

over-is : (ts : List ValueType) (p : Formula) → all_over ts p ≡ cond (is_true p) btrue (for_all ts p)
over-is ts btrue = refl
over-is ts p = refl

-- a map of formulas that keeps the forms commutes with them
module _ (F : Formula → Formula) (same : (p : Formula) → is_true (F p) ≡ is_true p) (true-kept : F btrue ≡ btrue) (binaries : (o : BinOp) (p q : Formula) → F (binary o p q) ≡ binary o (F p) (F q)) where
  both-map : (p q : Formula) → F (both p q) ≡ both (F p) (F q)
  both-map p q = ap F (both-is p q) ∙ by_tests (is_true p) (is_true q) ∙ (λ i. cond (sym (same p) i) (F q) (cond (sym (same q) i) (F p) (binary And (F p) (F q)))) ∙ sym (both-is (F p) (F q))
    where
      by_tests : (a b : Bool) → F (cond a q (cond b p (binary And p q))) ≡ cond a (F q) (cond b (F p) (binary And (F p) (F q)))
      by_tests true b = refl
      by_tests false true = refl
      by_tests false false = binaries And p q

  where-map : (p q : Formula) → F (where_true p q) ≡ where_true (F p) (F q)
  where-map p q = ap F (where-is p q) ∙ by_tests (is_true p) (is_true q) ∙ (λ i. cond (sym (same q) i) btrue (cond (sym (same p) i) (F q) (binary Imp (F p) (F q)))) ∙ sym (where-is (F p) (F q))
    where
      by_tests : (a b : Bool) → F (cond b btrue (cond a q (binary Imp p q))) ≡ cond b btrue (cond a (F q) (binary Imp (F p) (F q)))
      by_tests a true = true-kept
      by_tests true false = refl
      by_tests false false = binaries Imp p q

-- what stands under a binder is mapped by another map
module _ (F G : Formula → Formula) (same : (p : Formula) → is_true (G p) ≡ is_true p) (true-kept : F btrue ≡ btrue) (ts : List ValueType) (quantified : (p : Formula) → F (for_all ts p) ≡ for_all ts (G p)) where
  over-map : (p : Formula) → F (all_over ts p) ≡ all_over ts (G p)
  over-map p = ap F (over-is ts p) ∙ by_test (is_true p) ∙ (λ i. cond (sym (same p) i) btrue (for_all ts (G p))) ∙ sym (over-is ts (G p))
    where
      by_test : (a : Bool) → F (cond a btrue (for_all ts p)) ≡ cond a btrue (for_all ts (G p))
      by_test true = true-kept
      by_test false = quantified p

-- ---- a variable bound
module _ (z : ℕ) where
  closing-true : (k : ℕ) (p : Formula) → is_true (closed_over z k p) ≡ is_true p
  closing-true k (variable n) = by_test (nat_eq n z)
    where
      by_test : (b : Bool) → is_true (cond b (bound k) (variable n)) ≡ false
      by_test true = refl
      by_test false = refl
  closing-true k _ = refl

  domain-closing : (k : ℕ) (t : ValueType) → closed_over z k (domain_of t) ≡ domain_of t
  domain-closing k int_type = refl
  domain-closing k bool_type = refl
  domain-closing k (enum_type n) = refl
  domain-closing k (pair_type t u) = λ i. binary Times (domain-closing k t i) (domain-closing k u i)
  domain-closing k (set_type t) = ap (unary Pow) (domain-closing k t)

  functions-closing : (k : ℕ) (r : Role) → closed_over z k (functions_of r) ≡ functions_of r
  functions-closing k (gives (set_type (pair_type t u))) = λ i. binary PartialFunctions (domain-closing k t i) (domain-closing k u i)
  functions-closing k _ = refl

  unary-closing : (k : ℕ) (o : UnOp) (a : Formula) → closed_over z k (unary_own o a) ≡ unary_own o (closed_over z k a)
  unary-closing k Min a = refl
  unary-closing k Max a = refl
  unary-closing k _ a = refl

  binary-closing : (k : ℕ) (o : BinOp) (r : Role) (a b : Formula) → closed_over z k (binary_own o r a b) ≡ binary_own o r (closed_over z k a) (closed_over z k b)
  binary-closing k Div r a b = refl
  binary-closing k Mod r a b = refl
  binary-closing k Power r a b = refl
  binary-closing k Apply r a b = λ i. binary And (binary In (closed_over z k a) (functions-closing k r i)) (binary In (closed_over z k b) (unary Dom (closed_over z k a)))
  binary-closing k _ r a b = refl

  both-closing : (k : ℕ) (p q : Formula) → closed_over z k (both p q) ≡ both (closed_over z k p) (closed_over z k q)
  both-closing k p q = both-map (closed_over z k) (closing-true k) refl (λ o p q. refl) p q

  where-closing : (k : ℕ) (p q : Formula) → closed_over z k (where_true p q) ≡ where_true (closed_over z k p) (closed_over z k q)
  where-closing k p q = where-map (closed_over z k) (closing-true k) refl (λ o p q. refl) p q

  over-closing : (k : ℕ) (ts : List ValueType) (p : Formula) → closed_over z k (all_over ts p) ≡ all_over ts (closed_over z (length ts + k) p)
  over-closing k ts p = over-map (closed_over z k) (closed_over z (length ts + k)) (closing-true (length ts + k)) refl ts (λ p. refl) p

  sides-closing : (k : ℕ) (m : WhenMet) (a p q : Formula) → closed_over z k (sides_asked m a p q) ≡ sides_asked m (closed_over z k a) (closed_over z k p) (closed_over z k q)
  sides-closing k always_met a p q = both-closing k p q
  sides-closing k met_where_true a p q = both-closing k p (where_true a q) ∙ ap (both (closed_over z k p)) (where-closing k a q)
  sides-closing k met_where_false a p q = both-closing k p (where_true (unary Not a) q) ∙ ap (both (closed_over z k p)) (where-closing k (unary Not a) q)

  connected-closing : (k : ℕ) (o : BinOp) (r : Role) (a b p q : Formula) → closed_over z k (both (sides_asked (right_met o) a p q) (binary_own o r a b)) ≡ both (sides_asked (right_met o) (closed_over z k a) (closed_over z k p) (closed_over z k q)) (binary_own o r (closed_over z k a) (closed_over z k b))
  connected-closing k o r a b p q = both-closing k (sides_asked (right_met o) a p q) (binary_own o r a b) ∙ (λ i. both (sides-closing k (right_met o) a p q i) (binary-closing k o r a b i))

  -- ---- lifted formulas
  count-closing : (k : ℕ) (rs : Formulas) → count (all_closed_over z k rs) ≡ count rs
  count-closing k no_formulas = refl
  count-closing k (formula_and r rs) = ap suc (count-closing k rs)

  count-lifting : (n j : ℕ) (rs : Formulas) → count (all_lifted n j rs) ≡ count rs
  count-lifting n j no_formulas = refl
  count-lifting n j (formula_and r rs) = ap suc (count-lifting n j rs)

  mutual
    lifted-closing : (n j k l : ℕ) → j ≤ k → l ≡ n + k → (f : Formula) → closed_over z l (lifted n j f) ≡ lifted n j (closed_over z k f)
    lifted-closing n j k l m e (variable x) = by_test (nat_eq x z)
      where
        no : (k j : ℕ) → j ≤ k → nat_lt k j ≡ false
        no k j m = grind (arith, nat_tests)

        by_test : (b : Bool) → cond b (bound l) (variable x) ≡ lifted n j (cond b (bound k) (variable x))
        by_test true = let same : l ≡ k + n = omega (arith, e) in ap bound same ∙ sym (ap (λ c. bound (cond c k (k + n))) (no k j m))
        by_test false = refl
    lifted-closing n j k l m e (unary o a) = ap (unary o) (lifted-closing n j k l m e a)
    lifted-closing n j k l m e (binary o a b) = λ i. binary o (lifted-closing n j k l m e a i) (lifted-closing n j k l m e b i)
    lifted-closing n j k l m e (for_all ts p) = ap (for_all ts) (lifted-closing n (length ts + j) (length ts + k) (length ts + l) (omega (arith, m)) (omega (arith, e)) p)
    lifted-closing n j k l m e (for_some ts p) = ap (for_some ts) (lifted-closing n (length ts + j) (length ts + k) (length ts + l) (omega (arith, m)) (omega (arith, e)) p)
    lifted-closing n j k l m e (comprehension rs p) =
        let r = all-lifted-closing n j k l m e rs in
        let c = count-lifting n j rs in
        let d = count-closing k rs in
        let body = ap (λ x. closed_over z (x + l) (lifted n (count rs + j) p)) c ∙ lifted-closing n (count rs + j) (count rs + k) (count rs + l) (omega (arith, m)) (omega (arith, e)) p ∙ ap (λ x. lifted n (x + j) (closed_over z (count rs + k) p)) (sym d) in
        λ i. comprehension (r i) (body i)
    lifted-closing n j k l m e (lambda rs p v) =
        let r = all-lifted-closing n j k l m e rs in
        let c = count-lifting n j rs in
        let d = count-closing k rs in
        let body = ap (λ x. closed_over z (x + l) (lifted n (count rs + j) p)) c ∙ lifted-closing n (count rs + j) (count rs + k) (count rs + l) (omega (arith, m)) (omega (arith, e)) p ∙ ap (λ x. lifted n (x + j) (closed_over z (count rs + k) p)) (sym d) in
        let image = ap (λ x. closed_over z (x + l) (lifted n (count rs + j) v)) c ∙ lifted-closing n (count rs + j) (count rs + k) (count rs + l) (omega (arith, m)) (omega (arith, e)) v ∙ ap (λ x. lifted n (x + j) (closed_over z (count rs + k) v)) (sym d) in
        λ i. lambda (r i) (body i) (image i)
    lifted-closing n j k l m e _ = refl

    all-lifted-closing : (n j k l : ℕ) → j ≤ k → l ≡ n + k → (fs : Formulas) → all_closed_over z l (all_lifted n j fs) ≡ all_lifted n j (all_closed_over z k fs)
    all-lifted-closing n j k l m e no_formulas = refl
    all-lifted-closing n j k l m e (formula_and f fs) = λ i. formula_and (lifted-closing n j k l m e f i) (all-lifted-closing n j k l m e fs i)

  onto-closing : (n k : ℕ) (f : Formula) (rs : Formulas) → closed_over z (n + k) (ranges_onto n f rs) ≡ ranges_onto n (closed_over z (n + k) f) (all_closed_over z k rs)
  onto-closing n k f no_formulas = refl
  onto-closing n k f (formula_and r rs) =
      onto-closing n k (binary And f (binary In (bound (count rs)) (lifted n 0 r))) rs
      ∙ (λ i. ranges_onto n (binary And (closed_over z (n + k) f) (binary In (bound (sym (count-closing k rs) i)) (lifted-closing n 0 k (n + k) (omega arith) refl r i))) (all_closed_over z k rs))

  ranges-closing : (n k : ℕ) (rs : Formulas) → closed_over z (n + k) (in_ranges n rs) ≡ in_ranges n (all_closed_over z k rs)
  ranges-closing n k no_formulas = refl
  ranges-closing n k (formula_and r rs) =
      onto-closing n k (binary In (bound (count rs)) (lifted n 0 r)) rs
      ∙ (λ i. ranges_onto n (binary In (bound (sym (count-closing k rs) i)) (lifted-closing n 0 k (n + k) (omega arith) refl r i)) (all_closed_over z k rs))

-- ---- WD of a formula with a variable bound
module _ (table : Table) (z : ℕ) (t : ValueType) (given : bound_role table (Some t) ≡ given_by (variable_type table z)) where
  mutual
    defined-closing : (k : ℕ) (a b : List ValueType) (f : Formula) → IsClosed k f → ClosingTypes k t a b → defined table b (closed_over z k f) ≡ closed_over z k (defined table a f)
    defined-closing k a b (variable n) c h = by_test (nat_eq n z)
      where
        by_test : (x : Bool) → defined table b (cond x (bound k) (variable n)) ≡ btrue
        by_test true = refl
        by_test false = refl
    defined-closing k a b (unary o f) c h = (λ i. both (defined-closing k a b f c h i) (sym (unary-closing z k o f) i)) ∙ sym (both-closing z k (defined table a f) (unary_own o f))
    defined-closing k a b (binary o f g) c h =
        (λ i. both (sides_asked (right_met o) (closed_over z k f) (defined-closing k a b f c.0 h i) (defined-closing k a b g c.1 h i)) (binary_own o (role-closing table z t given k a b f c.0 h i) (closed_over z k f) (closed_over z k g)))
        ∙ sym (connected-closing z k o (role table a f) f g (defined table a f) (defined table a g))
    defined-closing k a b (for_all ts p) c h = ap (all_over ts) (defined-closing (length ts + k) (bind ts a) (bind ts b) p c (types-bound ts h)) ∙ sym (over-closing z k ts (defined table (bind ts a) p))
    defined-closing k a b (for_some ts p) c h = ap (all_over ts) (defined-closing (length ts + k) (bind ts a) (bind ts b) p c (types-bound ts h)) ∙ sym (over-closing z k ts (defined table (bind ts a) p))
    defined-closing k a b (comprehension rs p) c h =
        let ts = element_types (roles table a rs) in
        let us = element_types (roles table b (all_closed_over z k rs)) in
        let same : us ≡ ts = ap element_types (roles-closing table z t given k a b rs c.0 h) in
        let many = count-types table a rs in
        let inner = defined-closing (count rs + k) (bind ts a) (bind us b) p c.1 (ranged table z t given a rs us same h) in
        let body : where_true (in_ranges (count (all_closed_over z k rs)) (all_closed_over z k rs)) (defined table (bind us b) (closed_over z (count rs + k) p)) ≡ closed_over z (count rs + k) (where_true (in_ranges (count rs) rs) (defined table (bind ts a) p)) =
        (λ i. where_true (in_ranges (count-closing z k rs i) (all_closed_over z k rs)) (inner i)) ∙ (λ i. where_true (sym (ranges-closing z (count rs) k rs) i) (closed_over z (count rs + k) (defined table (bind ts a) p))) ∙ sym (where-closing z (count rs + k) (in_ranges (count rs) rs) (defined table (bind ts a) p)) in
        let quantified : all_over us (where_true (in_ranges (count (all_closed_over z k rs)) (all_closed_over z k rs)) (defined table (bind us b) (closed_over z (count rs + k) p))) ≡ closed_over z k (all_over ts (where_true (in_ranges (count rs) rs) (defined table (bind ts a) p))) =
        (λ i. all_over (same i) (body i)) ∙ ap (λ m. all_over ts (closed_over z (m + k) (where_true (in_ranges (count rs) rs) (defined table (bind ts a) p)))) (sym many) ∙ sym (over-closing z k ts (where_true (in_ranges (count rs) rs) (defined table (bind ts a) p))) in
        (λ i. both (defineds-closing k a b btrue rs c.0 h i) (quantified i)) ∙ sym (both-closing z k (all_defined table a btrue rs) (all_over ts (where_true (in_ranges (count rs) rs) (defined table (bind ts a) p))))
    defined-closing k a b (lambda rs p v) c h =
        let ts = element_types (roles table a rs) in
        let us = element_types (roles table b (all_closed_over z k rs)) in
        let same : us ≡ ts = ap element_types (roles-closing table z t given k a b rs c.0 h) in
        let many = count-types table a rs in
        let l = count rs + k in
        let inner = defined-closing l (bind ts a) (bind us b) p c.1 (ranged table z t given a rs us same h) in
        let image = defined-closing l (bind ts a) (bind us b) v c.2 (ranged table z t given a rs us same h) in
        let dp = defined table (bind ts a) p in
        let dv = defined table (bind ts a) v in
        let parts : both (defined table (bind us b) (closed_over z l p)) (where_true (closed_over z l p) (defined table (bind us b) (closed_over z l v))) ≡ closed_over z l (both dp (where_true p dv)) =
        (λ i. both (inner i) (where_true (closed_over z l p) (image i))) ∙ (λ i. both (closed_over z l dp) (sym (where-closing z l p dv) i)) ∙ sym (both-closing z l dp (where_true p dv)) in
        let whole = where_true (in_ranges (count rs) rs) (both dp (where_true p dv)) in
        let body : where_true (in_ranges (count (all_closed_over z k rs)) (all_closed_over z k rs)) (both (defined table (bind us b) (closed_over z l p)) (where_true (closed_over z l p) (defined table (bind us b) (closed_over z l v)))) ≡ closed_over z l whole =
        (λ i. where_true (in_ranges (count-closing z k rs i) (all_closed_over z k rs)) (parts i)) ∙ (λ i. where_true (sym (ranges-closing z (count rs) k rs) i) (closed_over z l (both dp (where_true p dv)))) ∙ sym (where-closing z l (in_ranges (count rs) rs) (both dp (where_true p dv))) in
        (λ i. both (defineds-closing k a b btrue rs c.0 h i) (((λ j. all_over (same j) (body j)) ∙ ap (λ m. all_over ts (closed_over z (m + k) whole)) (sym many) ∙ sym (over-closing z k ts whole)) i))
        ∙ sym (both-closing z k (all_defined table a btrue rs) (all_over ts whole))
    defined-closing k a b _ c h = refl

    -- and of several, after a condition
    defineds-closing : (k : ℕ) (a b : List ValueType) (d : Formula) (fs : Formulas) → AreClosed k fs → ClosingTypes k t a b → all_defined table b (closed_over z k d) (all_closed_over z k fs) ≡ closed_over z k (all_defined table a d fs)
    defineds-closing k a b d no_formulas c h = refl
    defineds-closing k a b d (formula_and f fs) c h =
        ap (λ x. all_defined table b (both (closed_over z k d) x) (all_closed_over z k fs)) (defined-closing k a b f c.0 h)
        ∙ ap (λ x. all_defined table b x (all_closed_over z k fs)) (sym (both-closing z k d (defined table a f)))
        ∙ defineds-closing k a b (both d (defined table a f)) fs c.1 h

-- several variables bound
each-closing : (table : Table) → IsWellFormed table → (zs : List ℕ) (f : Formula) → IsClosed 0 f → AreListed table zs → defined table (bind (types_of table zs) []) (closed_over_each zs f) ≡ closed_over_each zs (defined table [] f)
each-closing table facts [] f c l = refl
each-closing table facts (z ∷ zs) f c l =
    let t = declared_type table z in
    let ts = types_of table zs in
    let k : length ts + 0 ≡ length zs = omega (arith, length-types table zs) in
    let start : ClosingTypes 0 t [] (t ∷ []) = record { same = λ i p. absurd (omega arith); last = refl } in
    let g = subst (λ n. ClosingTypes n t (bind ts []) (bind ts (t ∷ []))) k (types-bound ts start) in
    defined-closing table z t (declared-listed table facts z l.0) (length zs) (bind ts []) (bind ts (t ∷ [])) (closed_over_each zs f) (closed-each zs f c) g
    ∙ ap (closed_over z (length zs)) (each-closing table facts zs f c l.1)

-- ---- variables renamed
module _ (by : ℕ → ℕ) where
  abbrev to : ℕ → Formula
  to n = variable (by n)

  renaming-true : (p : Formula) → is_true (replaced to p) ≡ is_true p
  renaming-true (variable n) = refl
  renaming-true _ = refl

  domain-renaming : (t : ValueType) → replaced to (domain_of t) ≡ domain_of t
  domain-renaming int_type = refl
  domain-renaming bool_type = refl
  domain-renaming (enum_type n) = refl
  domain-renaming (pair_type t u) = λ i. binary Times (domain-renaming t i) (domain-renaming u i)
  domain-renaming (set_type t) = ap (unary Pow) (domain-renaming t)

  functions-renaming : (r : Role) → replaced to (functions_of r) ≡ functions_of r
  functions-renaming (gives (set_type (pair_type t u))) = λ i. binary PartialFunctions (domain-renaming t i) (domain-renaming u i)
  functions-renaming _ = refl

  unary-renaming : (o : UnOp) (a : Formula) → replaced to (unary_own o a) ≡ unary_own o (replaced to a)
  unary-renaming Min a = refl
  unary-renaming Max a = refl
  unary-renaming _ a = refl

  binary-renaming : (o : BinOp) (r : Role) (a b : Formula) → replaced to (binary_own o r a b) ≡ binary_own o r (replaced to a) (replaced to b)
  binary-renaming Div r a b = refl
  binary-renaming Mod r a b = refl
  binary-renaming Power r a b = refl
  binary-renaming Apply r a b = λ i. binary And (binary In (replaced to a) (functions-renaming r i)) (binary In (replaced to b) (unary Dom (replaced to a)))
  binary-renaming _ r a b = refl

  both-renaming : (p q : Formula) → replaced to (both p q) ≡ both (replaced to p) (replaced to q)
  both-renaming p q = both-map (replaced to) renaming-true refl (λ o p q. refl) p q

  where-renaming : (p q : Formula) → replaced to (where_true p q) ≡ where_true (replaced to p) (replaced to q)
  where-renaming p q = where-map (replaced to) renaming-true refl (λ o p q. refl) p q

  over-renaming : (ts : List ValueType) (p : Formula) → replaced to (all_over ts p) ≡ all_over ts (replaced to p)
  over-renaming ts p = over-map (replaced to) (replaced to) renaming-true refl ts (λ p. refl) p

  sides-renaming : (m : WhenMet) (a p q : Formula) → replaced to (sides_asked m a p q) ≡ sides_asked m (replaced to a) (replaced to p) (replaced to q)
  sides-renaming always_met a p q = both-renaming p q
  sides-renaming met_where_true a p q = both-renaming p (where_true a q) ∙ ap (both (replaced to p)) (where-renaming a q)
  sides-renaming met_where_false a p q = both-renaming p (where_true (unary Not a) q) ∙ ap (both (replaced to p)) (where-renaming (unary Not a) q)

  connected-renaming : (o : BinOp) (r : Role) (a b p q : Formula) → replaced to (both (sides_asked (right_met o) a p q) (binary_own o r a b)) ≡ both (sides_asked (right_met o) (replaced to a) (replaced to p) (replaced to q)) (binary_own o r (replaced to a) (replaced to b))
  connected-renaming o r a b p q = both-renaming (sides_asked (right_met o) a p q) (binary_own o r a b) ∙ (λ i. both (sides-renaming (right_met o) a p q i) (binary-renaming o r a b i))

  count-renaming : (rs : Formulas) → count (all_replaced to rs) ≡ count rs
  count-renaming no_formulas = refl
  count-renaming (formula_and r rs) = ap suc (count-renaming rs)

  mutual
    lifted-renaming : (n j : ℕ) (f : Formula) → replaced to (lifted n j f) ≡ lifted n j (replaced to f)
    lifted-renaming n j (unary o a) = ap (unary o) (lifted-renaming n j a)
    lifted-renaming n j (binary o a b) = λ i. binary o (lifted-renaming n j a i) (lifted-renaming n j b i)
    lifted-renaming n j (for_all ts p) = ap (for_all ts) (lifted-renaming n (length ts + j) p)
    lifted-renaming n j (for_some ts p) = ap (for_some ts) (lifted-renaming n (length ts + j) p)
    lifted-renaming n j (comprehension rs p) =
        let r = all-lifted-renaming n j rs in
        let body = lifted-renaming n (count rs + j) p ∙ ap (λ x. lifted n (x + j) (replaced to p)) (sym (count-renaming rs)) in
        λ i. comprehension (r i) (body i)
    lifted-renaming n j (lambda rs p v) =
        let r = all-lifted-renaming n j rs in
        let body = lifted-renaming n (count rs + j) p ∙ ap (λ x. lifted n (x + j) (replaced to p)) (sym (count-renaming rs)) in
        let image = lifted-renaming n (count rs + j) v ∙ ap (λ x. lifted n (x + j) (replaced to v)) (sym (count-renaming rs)) in
        λ i. lambda (r i) (body i) (image i)
    lifted-renaming n j (variable x) = refl
    lifted-renaming n j _ = refl

    all-lifted-renaming : (n j : ℕ) (fs : Formulas) → all_replaced to (all_lifted n j fs) ≡ all_lifted n j (all_replaced to fs)
    all-lifted-renaming n j no_formulas = refl
    all-lifted-renaming n j (formula_and f fs) = λ i. formula_and (lifted-renaming n j f i) (all-lifted-renaming n j fs i)

  onto-renaming : (n : ℕ) (f : Formula) (rs : Formulas) → replaced to (ranges_onto n f rs) ≡ ranges_onto n (replaced to f) (all_replaced to rs)
  onto-renaming n f no_formulas = refl
  onto-renaming n f (formula_and r rs) =
      onto-renaming n (binary And f (binary In (bound (count rs)) (lifted n 0 r))) rs
      ∙ (λ i. ranges_onto n (binary And (replaced to f) (binary In (bound (sym (count-renaming rs) i)) (lifted-renaming n 0 r i))) (all_replaced to rs))

  ranges-renaming : (n : ℕ) (rs : Formulas) → replaced to (in_ranges n rs) ≡ in_ranges n (all_replaced to rs)
  ranges-renaming n no_formulas = refl
  ranges-renaming n (formula_and r rs) =
      onto-renaming n (binary In (bound (count rs)) (lifted n 0 r)) rs
      ∙ (λ i. ranges_onto n (binary In (bound (sym (count-renaming rs) i)) (lifted-renaming n 0 r i)) (all_replaced to rs))

  module _ (table : Table) (facts : IsWellFormed table) (kept : IsReplacement table (λ n. variable (by n))) where
    role-renaming : (a : List ValueType) (f : Formula) → role table a (replaced to f) ≡ role table a f
    role-renaming a f = role-under table a to kept f

    roles-renaming : (a : List ValueType) (fs : Formulas) → roles table a (all_replaced to fs) ≡ roles table a fs
    roles-renaming a no_formulas = refl
    roles-renaming a (formula_and f fs) = λ i. role-renaming a f i ∷ roles-renaming a fs i

    mutual
      defined-renaming : (a : List ValueType) (f : Formula) → defined table a (replaced to f) ≡ replaced to (defined table a f)
      defined-renaming a (unary o f) = (λ i. both (defined-renaming a f i) (sym (unary-renaming o f) i)) ∙ sym (both-renaming (defined table a f) (unary_own o f))
      defined-renaming a (binary o f g) =
          (λ i. both (sides_asked (right_met o) (replaced to f) (defined-renaming a f i) (defined-renaming a g i)) (binary_own o (role-renaming a f i) (replaced to f) (replaced to g)))
          ∙ sym (connected-renaming o (role table a f) f g (defined table a f) (defined table a g))
      defined-renaming a (for_all ts p) = ap (all_over ts) (defined-renaming (bind ts a) p) ∙ sym (over-renaming ts (defined table (bind ts a) p))
      defined-renaming a (for_some ts p) = ap (all_over ts) (defined-renaming (bind ts a) p) ∙ sym (over-renaming ts (defined table (bind ts a) p))
      defined-renaming a (comprehension rs p) =
          let ts = element_types (roles table a rs) in
          let same = ap element_types (roles-renaming a rs) in
          let inner = ap (λ us. defined table (bind us a) (replaced to p)) same ∙ defined-renaming (bind ts a) p in
          let body = (λ i. where_true (in_ranges (count-renaming rs i) (all_replaced to rs)) (inner i)) ∙ (λ i. where_true (sym (ranges-renaming (count rs) rs) i) (replaced to (defined table (bind ts a) p))) ∙ sym (where-renaming (in_ranges (count rs) rs) (defined table (bind ts a) p)) in
          (λ i. both (defineds-renaming a btrue rs i) (((λ j. all_over (same j) (body j)) ∙ sym (over-renaming ts (where_true (in_ranges (count rs) rs) (defined table (bind ts a) p)))) i))
          ∙ sym (both-renaming (all_defined table a btrue rs) (all_over ts (where_true (in_ranges (count rs) rs) (defined table (bind ts a) p))))
      defined-renaming a (lambda rs p v) =
          let ts = element_types (roles table a rs) in
          let same = ap element_types (roles-renaming a rs) in
          let dp = defined table (bind ts a) p in
          let dv = defined table (bind ts a) v in
          let inner = ap (λ us. defined table (bind us a) (replaced to p)) same ∙ defined-renaming (bind ts a) p in
          let image = ap (λ us. defined table (bind us a) (replaced to v)) same ∙ defined-renaming (bind ts a) v in
          let parts = (λ i. both (inner i) (where_true (replaced to p) (image i))) ∙ (λ i. both (replaced to dp) (sym (where-renaming p dv) i)) ∙ sym (both-renaming dp (where_true p dv)) in
          let whole = where_true (in_ranges (count rs) rs) (both dp (where_true p dv)) in
          let body = (λ i. where_true (in_ranges (count-renaming rs i) (all_replaced to rs)) (parts i)) ∙ (λ i. where_true (sym (ranges-renaming (count rs) rs) i) (replaced to (both dp (where_true p dv)))) ∙ sym (where-renaming (in_ranges (count rs) rs) (both dp (where_true p dv))) in
          (λ i. both (defineds-renaming a btrue rs i) (((λ j. all_over (same j) (body j)) ∙ sym (over-renaming ts whole)) i))
          ∙ sym (both-renaming (all_defined table a btrue rs) (all_over ts whole))
      defined-renaming a (variable n) = refl
      defined-renaming a _ = refl

      defineds-renaming : (a : List ValueType) (d : Formula) (fs : Formulas) → all_defined table a (replaced to d) (all_replaced to fs) ≡ replaced to (all_defined table a d fs)
      defineds-renaming a d no_formulas = refl
      defineds-renaming a d (formula_and f fs) =
          ap (λ x. all_defined table a (both (replaced to d) x) (all_replaced to fs)) (defined-renaming a f)
          ∙ ap (λ x. all_defined table a x (all_replaced to fs)) (sym (both-renaming d (defined table a f)))
          ∙ defineds-renaming a (both d (defined table a f)) fs

-- ---- W of x :(P)
each-true : (zs : List ℕ) → closed_over_each zs btrue ≡ btrue
each-true [] = refl
each-true (z ∷ zs) = ap (closed_over z (length zs)) (each-true zs)

such-over : (table : Table) (xs : List (ℕ × ℕ)) (d : Formula) → such_after table xs d ≡ all_over (types_of table (firsts xs)) (new_values xs d)
such-over table xs btrue = sym (ap (λ f. all_over (types_of table (firsts xs)) (replaced (λ n. variable (old_of xs n)) f)) (each-true (firsts xs)))
such-over table xs d = refl

-- WD(P) with the new values bound after is WD of P with them bound before
pub such_is_defined : (table : Table) → IsWellFormed table → (xs : List (ℕ × ℕ)) (p : Formula) → AreTypedPairs table xs → IsPredicate table p → such_after table xs (defined table [] p) ≡ such_condition table xs p
such_is_defined table facts xs p w h =
    let zs = firsts xs in
    let ts = types_of table zs in
    let one = each-closing table facts zs p (predicate-closed table p h) (firsts-listed table xs w) in
    let two = defined-renaming (old_of xs) table facts (olds-replace table xs w) (bind ts []) (closed_over_each zs p) in
    such-over table xs (defined table [] p) ∙ ap (all_over ts) (sym (two ∙ ap (replaced (λ n. variable (old_of xs n))) one))
