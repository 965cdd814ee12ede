-- WD and Chk name only what the formula names, and have no loose bound number where it has none.
use Rattle.std.proofs.Common.{◌≡◌, ◌⊎◌, inl, inr, ◌≤◌, ℕ, ◌+◌, List, length, refl, sym, ◌∙◌, ap, subst, Bool, true, false, ◌||◌, arith}
use Rattle.std.specs.Prelude.{Some, None, Option}
use Rattle.bk_val.specs.ValueType.{ValueType, int_type, bool_type, enum_type, pair_type, set_type}
use Rattle.bk_form.specs.Table.{Table}
use Rattle.bk_form.specs.ArrayTable.{ArrayTable}
use Rattle.bk_form.specs.Formula.{Formula, bound, btrue, unary, binary, for_all, for_some, comprehension, lambda, Formulas, no_formulas, formula_and}
use Rattle.bk_form.specs.Role.{Role, gives, role, roles, bind, element_types}
use Rattle.bk_form.specs.Replacement.{occurs, any_occurs, count, IsClosed, AreClosed}
use Rattle.bk_form.specs.Defined.{array_of}
use Rattle.bk_form.specs.declared.operator.UnOp.{UnOp}
use Rattle.bk_form.specs.declared.operator.UnOp.TheVariants.{Not, Min, Max}
use Rattle.bk_form.specs.declared.operator.BinOp.{BinOp}
use Rattle.bk_form.specs.declared.operator.BinOp.TheVariants.{And, In, Add, Sub, Mul, Div, Mod, Power, Apply}
use Rattle.bk_form.specs.declared.arrays.ArrayRow.{ArrayRow}
use Rattle.bk_form.specs.declared.arrays.ArrayDomain.{ArrayDomain}
use Rattle.bk_form.specs.declared.arrays.ArrayDomain.TheVariants.{Interval}
use Rattle.bk_form.proofs.Members.{or-cases, or-left, or-right}
use Rattle.bk_form.specs.Lifting.{lifted}
use Rattle.bk_bind.proofs.Raised.{lifted-occurs, lifted-closed, count-types}
use Rattle.bk_wd.specs.Joining.{both, where_true, all_over}
use Rattle.bk_wd.specs.Operands.{WhenMet, always_met, met_where_true, met_where_false, right_met, sides_asked}
use Rattle.bk_wd.specs.WellDefined.{domain_of, functions_of, unary_own, binary_own, ranges_onto, in_ranges, defined, all_defined}
use Rattle.bk_wd.specs.Checked.{in_domain, index_check, checked_own, checked}

-- ---- names
pub both-occurs : (n : ℕ) (p q : Formula) → occurs n (both p q) ≡ true → (occurs n p ≡ true) ⊎ (occurs n q ≡ true)
both-occurs n btrue q h = inr h
both-occurs n p btrue h = by_form p h
  where
    by_form : (p : Formula) → occurs n (both p btrue) ≡ true → (occurs n p ≡ true) ⊎ (false ≡ true)
    by_form btrue h = absurd (cc)
    by_form p h = inl h
both-occurs n p q h = or-cases (occurs n p) (occurs n q) h

pub where-occurs : (n : ℕ) (p q : Formula) → occurs n (where_true p q) ≡ true → (occurs n p ≡ true) ⊎ (occurs n q ≡ true)
where-occurs n p btrue h = absurd (cc)
where-occurs n btrue q h = inr (by_form q h)
  where
    by_form : (q : Formula) → occurs n (where_true btrue q) ≡ true → occurs n q ≡ true
    by_form btrue h = absurd (cc)
    by_form q h = h
where-occurs n p q h = or-cases (occurs n p) (occurs n q) h

pub over-occurs : (n : ℕ) (ts : List ValueType) (p : Formula) → occurs n (all_over ts p) ≡ true → occurs n p ≡ true
over-occurs n ts btrue h = absurd (cc)
over-occurs n ts p h = h

domain-occurs : (n : ℕ) (t : ValueType) → occurs n (domain_of t) ≡ false
domain-occurs n int_type = refl
domain-occurs n bool_type = refl
domain-occurs n (enum_type m) = refl
domain-occurs n (pair_type t u) = λ i. domain-occurs n t i || domain-occurs n u i
domain-occurs n (set_type t) = domain-occurs n t

functions-occur : (n : ℕ) (r : Role) → occurs n (functions_of r) ≡ false
functions-occur n (gives (set_type (pair_type t u))) = λ i. domain-occurs n t i || domain-occurs n u i
functions-occur n _ = refl

only-left : (a : Bool) → (a || false) ≡ true → a ≡ true
only-left true h = refl
only-left false h = h

unary-own-occurs : (n : ℕ) (o : UnOp) (a : Formula) → occurs n (unary_own o a) ≡ true → occurs n a ≡ true
unary-own-occurs n Min a h = only-left (occurs n a) h
unary-own-occurs n Max a h = only-left (occurs n a) h
unary-own-occurs n _ a h = absurd (cc)

binary-own-occurs : (n : ℕ) (o : BinOp) (r : Role) (a b : Formula) → occurs n (binary_own o r a b) ≡ true → (occurs n a || occurs n b) ≡ true
binary-own-occurs n Div r a b h = or-right (occurs n a) (occurs n b) (only-left (occurs n b) h)
binary-own-occurs n Mod r a b h = h
binary-own-occurs n Power r a b h = or-right (occurs n a) (occurs n b) h
binary-own-occurs n Apply r a b h = elim (or-cases (occurs n a || occurs n (functions_of r)) (occurs n b || occurs n a) h) [
  | inl q ↦ or-left (occurs n a) (occurs n b) (only-left (occurs n a) (sym (ap (λ x. occurs n a || x) (functions-occur n r)) ∙ q))
  | inr q ↦ elim (or-cases (occurs n b) (occurs n a) q) [ inl y ↦ or-right (occurs n a) (occurs n b) y | inr y ↦ or-left (occurs n a) (occurs n b) y ]
]
binary-own-occurs n _ r a b h = absurd (cc)

-- the condition on a side that is met where a condition on the other is true
first-occur : (n : ℕ) (a c b p q : Formula) → (occurs n p ≡ true → occurs n a ≡ true) → (occurs n c ≡ true → occurs n a ≡ true) → (occurs n q ≡ true → occurs n b ≡ true) → occurs n (both p (where_true c q)) ≡ true → (occurs n a || occurs n b) ≡ true
first-occur n a c b p q f e g h = elim (both-occurs n p (where_true c q) h) [
  | inl y ↦ or-left (occurs n a) (occurs n b) (f y)
  | inr y ↦ elim (where-occurs n c q y) [ inl z ↦ or-left (occurs n a) (occurs n b) (e z) | inr z ↦ or-right (occurs n a) (occurs n b) (g z) ]
]

sides-occur : (n : ℕ) (m : WhenMet) (a b p q : Formula) → (occurs n p ≡ true → occurs n a ≡ true) → (occurs n q ≡ true → occurs n b ≡ true) → occurs n (sides_asked m a p q) ≡ true → (occurs n a || occurs n b) ≡ true
sides-occur n always_met a b p q f g h = elim (both-occurs n p q h) [ inl z ↦ or-left (occurs n a) (occurs n b) (f z) | inr z ↦ or-right (occurs n a) (occurs n b) (g z) ]
sides-occur n met_where_true a b p q f g h = first-occur n a a b p q f (λ x. x) g h
sides-occur n met_where_false a b p q f g h = first-occur n a (unary Not a) b p q f (λ x. x) g h

-- the sides' conditions and an operator's own name what the sides name
operator-occurs : (n : ℕ) (m : WhenMet) (a b p q c : Formula) → (occurs n p ≡ true → occurs n a ≡ true) → (occurs n q ≡ true → occurs n b ≡ true) → (occurs n c ≡ true → (occurs n a || occurs n b) ≡ true) →
    occurs n (both (sides_asked m a p q) c) ≡ true → (occurs n a || occurs n b) ≡ true
operator-occurs n m a b p q c f g k h = elim (both-occurs n (sides_asked m a p q) c h) [ inl z ↦ sides-occur n m a b p q f g z | inr z ↦ k z ]

onto-occurs : (n m : ℕ) (f : Formula) (rs : Formulas) → occurs n (ranges_onto m f rs) ≡ true → (occurs n f || any_occurs n rs) ≡ true
onto-occurs n m f no_formulas h = or-left (occurs n f) false h
onto-occurs n m f (formula_and r rs) h = elim (or-cases (occurs n f || occurs n (lifted m 0 r)) (any_occurs n rs) (onto-occurs n m (binary And f (binary In (bound (count rs)) (lifted m 0 r))) rs h)) [
  | inl q ↦ elim (or-cases (occurs n f) (occurs n (lifted m 0 r)) q) [ inl y ↦ or-left (occurs n f) (occurs n r || any_occurs n rs) y | inr y ↦ or-right (occurs n f) (occurs n r || any_occurs n rs) (or-left (occurs n r) (any_occurs n rs) (lifted-occurs n m 0 r y)) ]
  | inr q ↦ or-right (occurs n f) (occurs n r || any_occurs n rs) (or-right (occurs n r) (any_occurs n rs) q)
]

ranges-occur : (n m : ℕ) (rs : Formulas) → occurs n (in_ranges m rs) ≡ true → any_occurs n rs ≡ true
ranges-occur n m no_formulas h = absurd (cc)
ranges-occur n m (formula_and r rs) h = elim (or-cases (occurs n (lifted m 0 r)) (any_occurs n rs) (onto-occurs n m (binary In (bound (count rs)) (lifted m 0 r)) rs h)) [
  | inl q ↦ or-left (occurs n r) (any_occurs n rs) (lifted-occurs n m 0 r q)
  | inr q ↦ or-right (occurs n r) (any_occurs n rs) q
]

-- of a condition that names nothing and of ranges
ranges-named : (n : ℕ) (rs : Formulas) → (false ≡ true) ⊎ (any_occurs n rs ≡ true) → any_occurs n rs ≡ true
ranges-named n rs (inl q) = absurd (cc)
ranges-named n rs (inr q) = q

mutual
  pub defined-occurs : (table : Table) (around : List ValueType) (f : Formula) (n : ℕ) → occurs n (defined table around f) ≡ true → occurs n f ≡ true
  defined-occurs table around (unary o a) n h = elim (both-occurs n (defined table around a) (unary_own o a) h) [ inl q ↦ defined-occurs table around a n q | inr q ↦ unary-own-occurs n o a q ]
  defined-occurs table around (binary o a b) n h = operator-occurs n (right_met o) a b (defined table around a) (defined table around b) (binary_own o (role table around a) a b) (defined-occurs table around a n) (defined-occurs table around b n) (binary-own-occurs n o (role table around a) a b) h
  defined-occurs table around (for_all ts p) n h = defined-occurs table (bind ts around) p n (over-occurs n ts (defined table (bind ts around) p) h)
  defined-occurs table around (for_some ts p) n h = defined-occurs table (bind ts around) p n (over-occurs n ts (defined table (bind ts around) p) h)
  defined-occurs table around (comprehension rs p) n h =
      let ts = element_types (roles table around rs) in
      let D = defined table (bind ts around) p in
      elim (both-occurs n (all_defined table around btrue rs) (all_over ts (where_true (in_ranges (count rs) rs) D)) h) [
        | inl q ↦ or-left (any_occurs n rs) (occurs n p) (ranges-named n rs (all-defined-occurs table around btrue rs n q))
        | inr q ↦ elim (where-occurs n (in_ranges (count rs) rs) D (over-occurs n ts (where_true (in_ranges (count rs) rs) D) q)) [
          | inl y ↦ or-left (any_occurs n rs) (occurs n p) (ranges-occur n (count rs) rs y)
          | inr y ↦ or-right (any_occurs n rs) (occurs n p) (defined-occurs table (bind ts around) p n y)
        ]
      ]
  defined-occurs table around (lambda rs p v) n h =
      let ts = element_types (roles table around rs) in
      let D = defined table (bind ts around) p in
      let V = defined table (bind ts around) v in
      elim (both-occurs n (all_defined table around btrue rs) (all_over ts (where_true (in_ranges (count rs) rs) (both D (where_true p V)))) h) [
        | inl q ↦ or-left (any_occurs n rs || occurs n p) (occurs n v) (or-left (any_occurs n rs) (occurs n p) (ranges-named n rs (all-defined-occurs table around btrue rs n q)))
        | inr q ↦ elim (where-occurs n (in_ranges (count rs) rs) (both D (where_true p V)) (over-occurs n ts (where_true (in_ranges (count rs) rs) (both D (where_true p V))) q)) [
          | inl y ↦ or-left (any_occurs n rs || occurs n p) (occurs n v) (or-left (any_occurs n rs) (occurs n p) (ranges-occur n (count rs) rs y))
          | inr y ↦ elim (both-occurs n D (where_true p V) y) [
            | inl z ↦ or-left (any_occurs n rs || occurs n p) (occurs n v) (or-right (any_occurs n rs) (occurs n p) (defined-occurs table (bind ts around) p n z))
            | inr z ↦ elim (where-occurs n p V z) [
              | inl x ↦ or-left (any_occurs n rs || occurs n p) (occurs n v) (or-right (any_occurs n rs) (occurs n p) x)
              | inr x ↦ or-right (any_occurs n rs || occurs n p) (occurs n v) (defined-occurs table (bind ts around) v n x)
            ]
          ]
        ]
      ]
  defined-occurs table around _ n h = absurd (cc)

  -- and so what several formulas are asked
  all-defined-occurs : (table : Table) (around : List ValueType) (f : Formula) (fs : Formulas) (n : ℕ) → occurs n (all_defined table around f fs) ≡ true → (occurs n f ≡ true) ⊎ (any_occurs n fs ≡ true)
  all-defined-occurs table around f no_formulas n h = inl h
  all-defined-occurs table around f (formula_and r rs) n h = elim (all-defined-occurs table around (both f (defined table around r)) rs n h) [
    | inl q ↦ elim (both-occurs n f (defined table around r) q) [ inl z ↦ inl z | inr z ↦ inr (or-left (occurs n r) (any_occurs n rs) (defined-occurs table around r n z)) ]
    | inr q ↦ inr (or-right (occurs n r) (any_occurs n rs) q)
  ]

domain-index-occurs : (n : ℕ) (d : ArrayDomain) (i : Formula) → occurs n (in_domain d i) ≡ true → occurs n i ≡ true
domain-index-occurs n (Interval low high) i h = elim (or-cases (occurs n i) (occurs n i || false) h) [ inl q ↦ q | inr q ↦ only-left (occurs n i) q ]
domain-index-occurs n _ i h = absurd (cc)

pub index-occurs : (n : ℕ) (o : Option ArrayRow) (i : Formula) → occurs n (index_check o i) ≡ true → occurs n i ≡ true
index-occurs n (Some row) i h = domain-index-occurs n row.domain i h
index-occurs n None i h = absurd (cc)

machine-occurs : (a b : Bool) → ((a || b) || ((a || b) || false)) ≡ true → (a || b) ≡ true
machine-occurs a b h = elim (or-cases (a || b) ((a || b) || false) h) [ inl q ↦ q | inr q ↦ only-left (a || b) q ]

checked-own-occurs : (n : ℕ) (arrays : ArrayTable) (o : BinOp) (a b : Formula) → occurs n (checked_own arrays o a b) ≡ true → (occurs n a || occurs n b) ≡ true
checked-own-occurs n arrays Add a b h = machine-occurs (occurs n a) (occurs n b) h
checked-own-occurs n arrays Sub a b h = machine-occurs (occurs n a) (occurs n b) h
checked-own-occurs n arrays Mul a b h = machine-occurs (occurs n a) (occurs n b) h
checked-own-occurs n arrays Div a b h = or-right (occurs n a) (occurs n b) (only-left (occurs n b) h)
checked-own-occurs n arrays Mod a b h = h
checked-own-occurs n arrays Apply a b h = or-right (occurs n a) (occurs n b) (index-occurs n (array_of arrays a) b h)
checked-own-occurs n arrays _ a b h = absurd (cc)

pub checked-occurs : (arrays : ArrayTable) (f : Formula) (n : ℕ) → occurs n (checked arrays f) ≡ true → occurs n f ≡ true
checked-occurs arrays (unary o a) n h = checked-occurs arrays a n h
checked-occurs arrays (binary o a b) n h = operator-occurs n (right_met o) a b (checked arrays a) (checked arrays b) (checked_own arrays o a b) (checked-occurs arrays a n) (checked-occurs arrays b n) (checked-own-occurs n arrays o a b) h
checked-occurs arrays (for_all ts p) n h = checked-occurs arrays p n (over-occurs n ts (checked arrays p) h)
checked-occurs arrays (for_some ts p) n h = checked-occurs arrays p n (over-occurs n ts (checked arrays p) h)
checked-occurs arrays _ n h = absurd (cc)

-- ---- no loose bound number
pub both-closed : (k : ℕ) (p q : Formula) → IsClosed k p → IsClosed k q → IsClosed k (both p q)
both-closed k btrue q a b = b
both-closed k p btrue a b = by_form p a
  where
    by_form : (p : Formula) → IsClosed k p → IsClosed k (both p btrue)
    by_form btrue a = tt
    by_form p a = a
both-closed k p q a b = (a, b)

pub where-closed : (k : ℕ) (p q : Formula) → IsClosed k p → IsClosed k q → IsClosed k (where_true p q)
where-closed k p btrue a b = tt
where-closed k btrue q a b = by_form q b
  where
    by_form : (q : Formula) → IsClosed k q → IsClosed k (where_true btrue q)
    by_form btrue b = tt
    by_form q b = b
where-closed k p q a b = (a, b)

pub over-closed : (k : ℕ) (ts : List ValueType) (p : Formula) → IsClosed (length ts + k) p → IsClosed k (all_over ts p)
over-closed k ts btrue c = tt
over-closed k ts p c = by_form p c
  where
    by_form : (p : Formula) → IsClosed (length ts + k) p → IsClosed k (all_over ts p)
    by_form btrue c = tt
    by_form p c = c

domain-closed : (k : ℕ) (t : ValueType) → IsClosed k (domain_of t)
domain-closed k int_type = tt
domain-closed k bool_type = tt
domain-closed k (enum_type n) = tt
domain-closed k (pair_type t u) = (domain-closed k t, domain-closed k u)
domain-closed k (set_type t) = domain-closed k t

functions-closed : (k : ℕ) (r : Role) → IsClosed k (functions_of r)
functions-closed k (gives (set_type (pair_type t u))) = (domain-closed k t, domain-closed k u)
functions-closed k _ = tt

unary-own-closed : (k : ℕ) (o : UnOp) (a : Formula) → IsClosed k a → IsClosed k (unary_own o a)
unary-own-closed k Min a c = (c, tt)
unary-own-closed k Max a c = (c, tt)
unary-own-closed k _ a c = tt

binary-own-closed : (k : ℕ) (o : BinOp) (r : Role) (a b : Formula) → IsClosed k a → IsClosed k b → IsClosed k (binary_own o r a b)
binary-own-closed k Div r a b c d = (d, tt)
binary-own-closed k Mod r a b c d = ((tt, c), (tt, d))
binary-own-closed k Power r a b c d = (tt, d)
binary-own-closed k Apply r a b c d = ((c, functions-closed k r), (d, c))
binary-own-closed k _ r a b c d = tt

sides-closed : (k : ℕ) (m : WhenMet) (a p q : Formula) → IsClosed k a → IsClosed k p → IsClosed k q → IsClosed k (sides_asked m a p q)
sides-closed k always_met a p q c x y = both-closed k p q x y
sides-closed k met_where_true a p q c x y = both-closed k p (where_true a q) x (where-closed k a q c y)
sides-closed k met_where_false a p q c x y = both-closed k p (where_true (unary Not a) q) x (where-closed k (unary Not a) q c y)

onto-closed : (n k : ℕ) (f : Formula) (rs : Formulas) → IsClosed (k + n) f → AreClosed k rs → count rs ≤ n → IsClosed (k + n) (ranges_onto n f rs)
onto-closed n k f no_formulas c d l = c
onto-closed n k f (formula_and r rs) c d l = onto-closed n k (binary And f (binary In (bound (count rs)) (lifted n 0 r))) rs (c, (omega (arith, l), lifted-closed n 0 k k (omega arith) r d.0)) d.1 (omega (arith, l))

ranges-closed : (n k : ℕ) (rs : Formulas) → AreClosed k rs → count rs ≤ n → IsClosed (k + n) (in_ranges n rs)
ranges-closed n k no_formulas d l = tt
ranges-closed n k (formula_and r rs) d l = onto-closed n k (binary In (bound (count rs)) (lifted n 0 r)) rs (omega (arith, l), lifted-closed n 0 k k (omega arith) r d.0) d.1 (omega (arith, l))

mutual
  pub defined-closed : (table : Table) (around : List ValueType) (k : ℕ) (f : Formula) → IsClosed k f → IsClosed k (defined table around f)
  defined-closed table around k (unary o a) c = both-closed k (defined table around a) (unary_own o a) (defined-closed table around k a c) (unary-own-closed k o a c)
  defined-closed table around k (binary o a b) c = both-closed k (sides_asked (right_met o) a (defined table around a) (defined table around b)) (binary_own o (role table around a) a b)
      (sides-closed k (right_met o) a (defined table around a) (defined table around b) c.0 (defined-closed table around k a c.0) (defined-closed table around k b c.1)) (binary-own-closed k o (role table around a) a b c.0 c.1)
  defined-closed table around k (for_all ts p) c = over-closed k ts (defined table (bind ts around) p) (defined-closed table (bind ts around) (length ts + k) p c)
  defined-closed table around k (for_some ts p) c = over-closed k ts (defined table (bind ts around) p) (defined-closed table (bind ts around) (length ts + k) p c)
  defined-closed table around k (comprehension rs p) c =
      let ts = element_types (roles table around rs) in
      let D = defined table (bind ts around) p in
      let n = count rs in
      let q = count-types table around rs in
      let e : k + n ≡ length ts + k = omega (arith, q) in
      let d : n + k ≡ length ts + k = omega (arith, q) in
      both-closed k (all_defined table around btrue rs) (all_over ts (where_true (in_ranges n rs) D)) (all-defined-closed table around k btrue rs tt c.0)
      (over-closed k ts (where_true (in_ranges n rs) D) (where-closed (length ts + k) (in_ranges n rs) D (subst (λ x. IsClosed x (in_ranges n rs)) e (ranges-closed n k rs c.0 (omega arith))) (subst (λ x. IsClosed x D) d (defined-closed table (bind ts around) (n + k) p c.1))))
  defined-closed table around k (lambda rs p v) c =
      let ts = element_types (roles table around rs) in
      let D = defined table (bind ts around) p in
      let V = defined table (bind ts around) v in
      let n = count rs in
      let q = count-types table around rs in
      let e : k + n ≡ length ts + k = omega (arith, q) in
      let d : n + k ≡ length ts + k = omega (arith, q) in
      let body = subst (λ x. IsClosed x (both D (where_true p V))) d (both-closed (n + k) D (where_true p V) (defined-closed table (bind ts around) (n + k) p c.1) (where-closed (n + k) p V c.1 (defined-closed table (bind ts around) (n + k) v c.2))) in
      both-closed k (all_defined table around btrue rs) (all_over ts (where_true (in_ranges n rs) (both D (where_true p V)))) (all-defined-closed table around k btrue rs tt c.0)
      (over-closed k ts (where_true (in_ranges n rs) (both D (where_true p V))) (where-closed (length ts + k) (in_ranges n rs) (both D (where_true p V)) (subst (λ x. IsClosed x (in_ranges n rs)) e (ranges-closed n k rs c.0 (omega arith))) body))
  defined-closed table around k _ c = tt

  all-defined-closed : (table : Table) (around : List ValueType) (k : ℕ) (f : Formula) (fs : Formulas) → IsClosed k f → AreClosed k fs → IsClosed k (all_defined table around f fs)
  all-defined-closed table around k f no_formulas d c = d
  all-defined-closed table around k f (formula_and r rs) d c = all-defined-closed table around k (both f (defined table around r)) rs (both-closed k f (defined table around r) d (defined-closed table around k r c.0)) c.1

domain-index-closed : (k : ℕ) (d : ArrayDomain) (i : Formula) → IsClosed k i → IsClosed k (in_domain d i)
domain-index-closed k (Interval low high) i c = ((tt, c), (c, tt))
domain-index-closed k _ i c = tt

pub index-closed : (k : ℕ) (o : Option ArrayRow) (i : Formula) → IsClosed k i → IsClosed k (index_check o i)
index-closed k (Some row) i c = domain-index-closed k row.domain i c
index-closed k None i c = tt

checked-own-closed : (k : ℕ) (arrays : ArrayTable) (o : BinOp) (a b : Formula) → IsClosed k a → IsClosed k b → IsClosed k (checked_own arrays o a b)
checked-own-closed k arrays Add a b c d = ((tt, (c, d)), ((c, d), tt))
checked-own-closed k arrays Sub a b c d = ((tt, (c, d)), ((c, d), tt))
checked-own-closed k arrays Mul a b c d = ((tt, (c, d)), ((c, d), tt))
checked-own-closed k arrays Div a b c d = (d, tt)
checked-own-closed k arrays Mod a b c d = ((tt, c), (tt, d))
checked-own-closed k arrays Apply a b c d = index-closed k (array_of arrays a) b d
checked-own-closed k arrays _ a b c d = tt

pub checked-closed : (arrays : ArrayTable) (k : ℕ) (f : Formula) → IsClosed k f → IsClosed k (checked arrays f)
checked-closed arrays k (unary o a) c = checked-closed arrays k a c
checked-closed arrays k (binary o a b) c = both-closed k (sides_asked (right_met o) a (checked arrays a) (checked arrays b)) (checked_own arrays o a b)
    (sides-closed k (right_met o) a (checked arrays a) (checked arrays b) c.0 (checked-closed arrays k a c.0) (checked-closed arrays k b c.1)) (checked-own-closed k arrays o a b c.0 c.1)
checked-closed arrays k (for_all ts p) c = over-closed k ts (checked arrays p) (checked-closed arrays (length ts + k) p c)
checked-closed arrays k (for_some ts p) c = over-closed k ts (checked arrays p) (checked-closed arrays (length ts + k) p c)
checked-closed arrays k _ c = tt
