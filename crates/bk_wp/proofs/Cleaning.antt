-- Where [S]R and W(S) are true, S is clean.
use Rattle.std.proofs.Common.{◌≡◌, ◌↔◌, ◌⊎◌, inl, inr, ℕ, zero, suc, ◌+◌, List, [], ◌∷◌, ◌++◌, length, map, refl, sym, ◌∙◌, ap, subst, Bool, true, false, not, cond, ◌&&◌, ◌||◌, nat_eq}
use Rattle.std.specs.Prelude.{Some, None, Option}
use Rattle.bk_val.specs.Value.{MathValue}
use Rattle.bk_val.specs.ValueType.{ValueType, int_type, is_value_of}
use Rattle.bk_form.specs.Table.{Table, set_size, variable_type, IsWellFormed}
use Rattle.bk_form.specs.ArrayTable.{ArrayTable, row_of}
use Rattle.bk_form.specs.Formula.{Formula, variable, named, btrue, unary, binary}
use Rattle.bk_form.specs.Role.{role, bind}
use Rattle.bk_form.specs.Replacement.{occurs, IsClosed, replaced, looked_up, renamed}
use Rattle.bk_form.specs.Search.{Finder, IsSearch}
use Rattle.bk_form.specs.Environment.{State, at_state, IsTypedState}
use Rattle.bk_form.specs.Defined.{Defined, Fits, is_index}
use Rattle.bk_form.specs.Predicates.{IsPredicate}
use Rattle.bk_form.specs.Wider.{IsTypedRole}
use Rattle.bk_form.specs.declared.operator.UnOp.TheVariants.{Not, Single}
use Rattle.bk_form.specs.declared.operator.BinOp.TheVariants.{And, Imp, Lt, In, Over, Maps}
use Rattle.bk_form.specs.declared.operator.Domain.TheVariants.{Natural}
use Rattle.bk_form.specs.declared.arrays.ArrayRow.{ArrayRow}
use Rattle.bk_form.proofs.Closed.{predicate-closed, term-closed, closed-replaced}
use Rattle.bk_form.proofs.Members.{and-both, and-true, or-left, or-right}
use Rattle.bk_bind.specs.Closing.{closed_over_each}
use Rattle.bk_wd.specs.Joining.{both, where_true}
use Rattle.bk_wd.specs.WellDefined.{defined}
use Rattle.bk_wd.specs.Checked.{index_check, checked}
use Rattle.bk_wd.proofs.Conditions.{both-so, where-so, all_over-so}
use Rattle.bk_wd.proofs.Exact.{defined_is_exact}
use Rattle.bk_wd.proofs.Fitting.{index-so, fits-so}
use Rattle.bk_wd.proofs.Named.{both-occurs, where-occurs, over-occurs, defined-occurs, checked-occurs, index-occurs, both-closed, where-closed, over-closed, defined-closed, checked-closed, index-closed}
use Rattle.bk_gsl.specs.Substitution.{Substitution, skip, assign, pre, guard, choice, if_else, any, seq, par, assert, becomes_such, loop}
use Rattle.bk_gsl.specs.State.{holds, value_at, are_values_for, with_values, among, firsts}
use Rattle.bk_gsl.specs.Writes.{writes}
use Rattle.bk_gsl.specs.Reads.{variables_of, variables_of_terms, outside, read}
use Rattle.bk_gsl.specs.Run.{Runs, old_of, with_old}
use Rattle.bk_gsl.specs.Typed.{IsTerm, AreListed, AreTypedTerms, AreTypedPairs, Types}
use Rattle.bk_gsl.specs.Clean.{IsEvaluable, write_of, IsCleanWrite, IsCleanAt, IsCleanTerm, AreCleanTerms, Reached, Clean}
use Rattle.bk_gsl.specs.Flat.{IsFlat}
use Rattle.bk_gsl.specs.Apart.{AreApart, LocalsAreApart}
use Rattle.bk_gsl.proofs.Listed.{writes-listed}
use Rattle.bk_gsl.proofs.Reading.{among-left, among-right, among-outside, among-map, occurs-variables}
use Rattle.bk_gsl.proofs.Runs.{run-typed, changes-only}
use Rattle.bk_gsl.proofs.States.{nat_eq-same, with_values-typed}
use Rattle.bk_wp.specs.Box.{variant_before, box, new_values}
use Rattle.bk_wp.specs.Guarded.{over_variables, over_written, box_where, evaluated, checked_write, checked_at, evaluated_term, evaluated_onto, such_condition, guarded}
use Rattle.bk_wp.specs.Quantifiers.{types_of, all_written}
use Rattle.bk_wp.proofs.Binders.{ReadLater, box-closed, box-later}
use Rattle.bk_wp.proofs.Closing.{closed-each, closed-under}
use Rattle.bk_wp.proofs.Loops.{with_values-to, values-of}
use Rattle.bk_wp.proofs.Quantified.{all_of-true, all_written-true, closed-all, closed-written, holds-new}
use Rattle.bk_wp.proofs.Reading.{occurs-replaced, occurs-each, occurs-all, occurs-written, box-reads}
use Rattle.bk_wp.proofs.Renaming.{such_after, such_is_defined}
use Rattle.bk_wp.proofs.Sound.{sound-later}
use Rattle.bk_wp.proofs.Steps.{implies-then}

-- ---- what the conditions name
evaluated-occurs : (table : Table) (arrays : Option ArrayTable) (p : Formula) (n : ℕ) → occurs n (evaluated table arrays p) ≡ true → occurs n p ≡ true
evaluated-occurs table None p n h = defined-occurs table [] p n h
evaluated-occurs table (Some arrays) p n h = checked-occurs arrays p n h

-- the index and the value of a write stand in the term
write-names : (x : ℕ) (f : Formula) (w : Formula × Formula) → write_of x f ≡ Some w → (n : ℕ) → ((occurs n w.0 ≡ true) ⊎ (occurs n w.1 ≡ true)) → occurs n f ≡ true
write-names x (binary Over (variable y) (unary Single (binary Maps i v))) w q n h = by_name (nat_eq x y) q
  where
    by_name : (b : Bool) → cond b (Some (i, v)) None ≡ Some w → (nat_eq y n || (occurs n i || occurs n v)) ≡ true
    by_name true k = let e : (i, v) ≡ w = cc k in or-right (nat_eq y n) (occurs n i || occurs n v) (subst (λ u. ((occurs n u.0 ≡ true) ⊎ (occurs n u.1 ≡ true)) → (occurs n u.0 || occurs n u.1) ≡ true) (sym e) (λ z. elim z [ inl a ↦ or-left (occurs n w.0) (occurs n w.1) a | inr a ↦ or-right (occurs n w.0) (occurs n w.1) a ]) (subst (λ u. (occurs n u.0 ≡ true) ⊎ (occurs n u.1 ≡ true)) (sym e) h))
    by_name false k = absurd (cc k)
write-names x f w q n h = absurd (cc q)

written-term-occurs : (arrays : ArrayTable) (row : ArrayRow) (o : Option (Formula × Formula)) (f : Formula) (n : ℕ) → ((w : Formula × Formula) → o ≡ Some w → ((occurs n w.0 ≡ true) ⊎ (occurs n w.1 ≡ true)) → occurs n f ≡ true) → occurs n (checked_write arrays row o f) ≡ true → occurs n f ≡ true
written-term-occurs arrays row (Some w) f n k h = elim (both-occurs n (both (checked arrays w.0) (index_check (Some row) w.0)) (checked arrays w.1) h) [
  | inl y ↦ elim (both-occurs n (checked arrays w.0) (index_check (Some row) w.0) y) [
    | inl z ↦ k w refl (inl (checked-occurs arrays w.0 n z))
    | inr z ↦ k w refl (inl (index-occurs n (Some row) w.0 z))
  ]
  | inr y ↦ k w refl (inr (checked-occurs arrays w.1 n y))
]
written-term-occurs arrays row None f n k h = checked-occurs arrays f n h

at-occurs : (arrays : ArrayTable) (o : Option ArrayRow) (x : ℕ) (f : Formula) (n : ℕ) → occurs n (checked_at arrays o x f) ≡ true → occurs n f ≡ true
at-occurs arrays None x f n h = checked-occurs arrays f n h
at-occurs arrays (Some row) x f n h = written-term-occurs arrays row (write_of x f) f n (λ w q z. write-names x f w q n z) h

term-occurs : (table : Table) (arrays : Option ArrayTable) (x : ℕ) (f : Formula) (n : ℕ) → occurs n (evaluated_term table arrays x f) ≡ true → occurs n f ≡ true
term-occurs table None x f n h = defined-occurs table [] f n h
term-occurs table (Some arrays) x f n h = at-occurs arrays (row_of arrays x) x f n h

terms-occur : (table : Table) (arrays : Option ArrayTable) (ps : List (ℕ × Formula)) (f : Formula) (n : ℕ) → occurs n (evaluated_onto table arrays f ps) ≡ true → (occurs n f ≡ true) ⊎ (among (variables_of_terms ps) n ≡ true)
terms-occur table arrays [] f n h = inl h
terms-occur table arrays (p ∷ ps) f n h = elim (terms-occur table arrays ps (both f (evaluated_term table arrays p.0 p.1)) n h) [
  | inl q ↦ elim (both-occurs n f (evaluated_term table arrays p.0 p.1) q) [
    | inl y ↦ inl y
    | inr y ↦ inr (among-left (variables_of p.1) (variables_of_terms ps) n (occurs-variables p.1 n (term-occurs table arrays p.0 p.1 n y)))
  ]
  | inr q ↦ inr (among-right (variables_of p.1) (variables_of_terms ps) n q)
]

over_variables-occurs : (table : Table) (zs : List ℕ) (f : Formula) (n : ℕ) → occurs n (over_variables table zs f) ≡ true → (occurs n f ≡ true) × (among zs n ≡ false)
over_variables-occurs table zs btrue n h = absurd (cc)
over_variables-occurs table zs f n h = by_form f h
  where
    by_form : (f : Formula) → occurs n (over_variables table zs f) ≡ true → (occurs n f ≡ true) × (among zs n ≡ false)
    by_form btrue h = absurd (cc)
    by_form f h = occurs-all table zs f n h

over_written-occurs : (table : Table) (zs : List ℕ) (f : Formula) (n : ℕ) → occurs n (over_written table zs f) ≡ true → (occurs n f ≡ true) × (among zs n ≡ false)
over_written-occurs table zs btrue n h = absurd (cc)
over_written-occurs table zs f n h = by_form f h
  where
    by_form : (f : Formula) → occurs n (over_written table zs f) ≡ true → (occurs n f ≡ true) × (among zs n ≡ false)
    by_form btrue h = absurd (cc)
    by_form f h = occurs-written table zs f n h

occurs-renamed : (by : ℕ → ℕ) (f : Formula) (n : ℕ) → occurs n (renamed by f) ≡ true → (m : ℕ) × (occurs m f ≡ true) × (n ≡ by m)
occurs-renamed by f n h = let b = occurs-replaced (λ m. variable (by m)) n f h in (b.place, b.stands, sym (nat_eq-same (by b.place) n b.brings))

-- what is asked of x :(P) names what P names, new values aside, and the variables whose old values it names
such-occurs : (table : Table) (xs : List (ℕ × ℕ)) (p : Formula) (n : ℕ) → occurs n (such_condition table xs p) ≡ true → (m : ℕ) × (occurs m p ≡ true) × (among (firsts xs) m ≡ false) × (n ≡ old_of xs m)
such-occurs table xs p n h =
    let ts = types_of table (firsts xs) in
    let d = defined-occurs table (bind ts []) (new_values xs p) n (over-occurs n ts (defined table (bind ts []) (new_values xs p)) h) in
    let k = occurs-renamed (old_of xs) (closed_over_each (firsts xs) p) n d in
    let w = occurs-each (firsts xs) p k.0 k.1 in
    (k.0, w.0, w.1, k.2)

where-box-occurs : (table : Table) (s : Substitution) (q : Formula) (n : ℕ) → occurs n (box_where table s q) ≡ true → (occurs n q ≡ true) ⊎ (among (read s) n ≡ true)
where-box-occurs table s q n h = by_form q h
  where
    by_form : (q : Formula) → occurs n (box_where table s q) ≡ true → (occurs n q ≡ true) ⊎ (among (read s) n ≡ true)
    by_form btrue h = absurd (cc)
    by_form q h = box-reads table s q n h

tested-read : (p : Formula) (xs : List ℕ) (c w : Formula) (n : ℕ) → (occurs n c ≡ true → occurs n p ≡ true) → (occurs n w ≡ true → among xs n ≡ true) → occurs n (both c (where_true p w)) ≡ true → among (variables_of p ++ xs) n ≡ true
tested-read p xs c w n f g h = elim (both-occurs n c (where_true p w) h) [
  | inl y ↦ among-left (variables_of p) xs n (occurs-variables p n (f y))
  | inr y ↦ elim (where-occurs n p w y) [ inl z ↦ among-left (variables_of p) xs n (occurs-variables p n z) | inr z ↦ among-right (variables_of p) xs n (g z) ]
]

module _ (table : Table) (arrays : Option ArrayTable) where
  guarded-read : (s : Substitution) (n : ℕ) → occurs n (guarded table arrays s) ≡ true → among (read s) n ≡ true
  guarded-read skip n h = absurd (cc)
  guarded-read (assign ps) n h = elim (terms-occur table arrays ps btrue n h) [ inl q ↦ absurd (cc) | inr q ↦ q ]
  guarded-read (pre p s) n h = tested-read p (read s) (defined table [] p) (guarded table arrays s) n (defined-occurs table [] p n) (guarded-read s n) h
  guarded-read (guard p s) n h = tested-read p (read s) (defined table [] p) (guarded table arrays s) n (defined-occurs table [] p n) (guarded-read s n) h
  guarded-read (choice s t) n h = elim (both-occurs n (guarded table arrays s) (guarded table arrays t) h) [ inl q ↦ among-left (read s) (read t) n (guarded-read s n q) | inr q ↦ among-right (read s) (read t) n (guarded-read t n q) ]
  guarded-read (if_else p s t) n h = elim (both-occurs n (both (evaluated table arrays p) (where_true p (guarded table arrays s))) (where_true (unary Not p) (guarded table arrays t)) h) [
    | inl q ↦ among-left (variables_of p ++ read s) (read t) n (tested-read p (read s) (evaluated table arrays p) (guarded table arrays s) n (evaluated-occurs table arrays p n) (guarded-read s n) q)
    | inr q ↦ elim (where-occurs n (unary Not p) (guarded table arrays t) q) [ inl y ↦ among-left (variables_of p ++ read s) (read t) n (among-left (variables_of p) (read s) n (occurs-variables p n y)) | inr y ↦ among-right (variables_of p ++ read s) (read t) n (guarded-read t n y) ]
  ]
  guarded-read (any zs s) n h = let k = over_variables-occurs table zs (guarded table arrays s) n h in among-outside zs (read s) n (guarded-read s n k.0) k.1
  guarded-read (seq s t) n h = elim (both-occurs n (guarded table arrays s) (box_where table s (guarded table arrays t)) h) [
    | inl q ↦ among-left (read s) (read t) n (guarded-read s n q)
    | inr q ↦ elim (where-box-occurs table s (guarded table arrays t) n q) [ inl y ↦ among-right (read s) (read t) n (guarded-read t n y) | inr y ↦ among-left (read s) (read t) n y ]
  ]
  guarded-read (par s t) n h = absurd (cc)
  guarded-read (assert p s) n h = tested-read p (read s) (defined table [] p) (guarded table arrays s) n (defined-occurs table [] p n) (guarded-read s n) h
  guarded-read (becomes_such xs p) n h =
      let k = such-occurs table xs p n h in
      subst (λ y. among (map (old_of xs) (outside (firsts xs) (variables_of p))) y ≡ true) (sym k.3) (among-map (old_of xs) (outside (firsts xs) (variables_of p)) k.0 (among-outside (firsts xs) (variables_of p) k.0 (occurs-variables p k.0 k.1) k.2))
  guarded-read (loop p s i v) n h =
      let at_p = λ (q : occurs n p ≡ true). among-left (variables_of p ++ read s ++ variables_of i) (variables_of v) n (among-left (variables_of p ++ read s) (variables_of i) n (among-left (variables_of p) (read s) n (occurs-variables p n q))) in
      let at_i = λ (q : occurs n i ≡ true). among-left (variables_of p ++ read s ++ variables_of i) (variables_of v) n (among-right (variables_of p ++ read s) (variables_of i) n (occurs-variables i n q)) in
      elim (both-occurs n (over_written table (writes s) (defined table [] i)) (over_written table (writes s) (where_true i (both (evaluated table arrays p) (where_true p (both (guarded table arrays s) (defined table [] v)))))) h) [
        | inl q ↦ at_i (defined-occurs table [] i n (over_written-occurs table (writes s) (defined table [] i) n q).0)
        | inr q ↦ elim (where-occurs n i (both (evaluated table arrays p) (where_true p (both (guarded table arrays s) (defined table [] v)))) (over_written-occurs table (writes s) (where_true i (both (evaluated table arrays p) (where_true p (both (guarded table arrays s) (defined table [] v))))) n q).0) [
          | inl y ↦ at_i y
          | inr y ↦ elim (both-occurs n (evaluated table arrays p) (where_true p (both (guarded table arrays s) (defined table [] v))) y) [
            | inl z ↦ at_p (evaluated-occurs table arrays p n z)
            | inr z ↦ elim (where-occurs n p (both (guarded table arrays s) (defined table [] v)) z) [
              | inl x ↦ at_p x
              | inr x ↦ elim (both-occurs n (guarded table arrays s) (defined table [] v) x) [
                | inl u ↦ among-left (variables_of p ++ read s ++ variables_of i) (variables_of v) n (among-left (variables_of p ++ read s) (variables_of i) n (among-right (variables_of p) (read s) n (guarded-read s n u)))
                | inr u ↦ among-right (variables_of p ++ read s ++ variables_of i) (variables_of v) n (occurs-variables v n (defined-occurs table [] v n u))
              ]
            ]
          ]
        ]
      ]

  -- ---- no loose bound number
  evaluated-closed : (p : Formula) → IsClosed 0 p → IsClosed 0 (evaluated table arrays p)
  evaluated-closed p c = elim arrays as (λ o. IsClosed 0 (evaluated table o p)) [ None ↦ defined-closed table [] 0 p c | Some a ↦ checked-closed a 0 p c ]

write-closed : (x : ℕ) (f : Formula) (w : Formula × Formula) → write_of x f ≡ Some w → IsClosed 0 f → IsClosed 0 w.0 × IsClosed 0 w.1
write-closed x (binary Over (variable y) (unary Single (binary Maps i v))) w q c = by_name (nat_eq x y) q
  where
    by_name : (b : Bool) → cond b (Some (i, v)) None ≡ Some w → IsClosed 0 w.0 × IsClosed 0 w.1
    by_name true k = let e : (i, v) ≡ w = cc k in subst (λ u. IsClosed 0 u.0 × IsClosed 0 u.1) e (c.1.0, c.1.1)
    by_name false k = absurd (cc k)
write-closed x f w q c = absurd (cc q)

written-term-closed : (arrays : ArrayTable) (row : ArrayRow) (o : Option (Formula × Formula)) (f : Formula) → ((w : Formula × Formula) → o ≡ Some w → IsClosed 0 w.0 × IsClosed 0 w.1) → IsClosed 0 f → IsClosed 0 (checked_write arrays row o f)
written-term-closed arrays row (Some w) f k c = let d = k w refl in both-closed 0 (both (checked arrays w.0) (index_check (Some row) w.0)) (checked arrays w.1) (both-closed 0 (checked arrays w.0) (index_check (Some row) w.0) (checked-closed arrays 0 w.0 d.0) (index-closed 0 (Some row) w.0 d.0)) (checked-closed arrays 0 w.1 d.1)
written-term-closed arrays row None f k c = checked-closed arrays 0 f c

at-closed : (arrays : ArrayTable) (o : Option ArrayRow) (x : ℕ) (f : Formula) → IsClosed 0 f → IsClosed 0 (checked_at arrays o x f)
at-closed arrays None x f c = checked-closed arrays 0 f c
at-closed arrays (Some row) x f c = written-term-closed arrays row (write_of x f) f (λ w q. write-closed x f w q c) c

term-asked-closed : (table : Table) (arrays : Option ArrayTable) (x : ℕ) (f : Formula) → IsClosed 0 f → IsClosed 0 (evaluated_term table arrays x f)
term-asked-closed table None x f c = defined-closed table [] 0 f c
term-asked-closed table (Some arrays) x f c = at-closed arrays (row_of arrays x) x f c

over_variables-closed : (table : Table) (zs : List ℕ) (f : Formula) → IsClosed 0 f → IsClosed 0 (over_variables table zs f)
over_variables-closed table zs f c = by_form f c
  where
    by_form : (f : Formula) → IsClosed 0 f → IsClosed 0 (over_variables table zs f)
    by_form btrue c = tt
    by_form f c = closed-all table zs f c

over_written-closed : (table : Table) (zs : List ℕ) (f : Formula) → IsClosed 0 f → IsClosed 0 (over_written table zs f)
over_written-closed table zs f c = by_form f c
  where
    by_form : (f : Formula) → IsClosed 0 f → IsClosed 0 (over_written table zs f)
    by_form btrue c = tt
    by_form f c = closed-written table zs f c

such-closed : (table : Table) (xs : List (ℕ × ℕ)) (p : Formula) → IsClosed 0 p → IsClosed 0 (such_condition table xs p)
such-closed table xs p c =
    let zs = firsts xs in
    let ts = types_of table zs in
    let inner = closed-under table zs (new_values xs p) (closed-replaced (λ n. variable (old_of xs n)) (λ n. tt) (length zs) (closed_over_each zs p) (closed-each zs p c)) in
    over-closed 0 ts (defined table (bind ts []) (new_values xs p)) (defined-closed table (bind ts []) (length ts + 0) (new_values xs p) inner)

where-box-closed : (table : Table) (s : Substitution) → Types table s → (q : Formula) → IsClosed 0 q → IsClosed 0 (box_where table s q)
where-box-closed table s w q c = by_form q c
  where
    by_form : (q : Formula) → IsClosed 0 q → IsClosed 0 (box_where table s q)
    by_form btrue c = tt
    by_form q c = box-closed table s q w c

module _ (table : Table) (arrays : Option ArrayTable) where
  terms-closed : (ps : List (ℕ × Formula)) (f : Formula) → AreTypedTerms table ps → IsClosed 0 f → IsClosed 0 (evaluated_onto table arrays f ps)
  terms-closed [] f w c = c
  terms-closed (p ∷ ps) f w c = terms-closed ps (both f (evaluated_term table arrays p.0 p.1)) w.1 (both-closed 0 f (evaluated_term table arrays p.0 p.1) c (term-asked-closed table arrays p.0 p.1 (term-closed table w.0.0 p.1 w.0.2)))

  tested-closed : (p c w : Formula) → IsClosed 0 p → IsClosed 0 c → IsClosed 0 w → IsClosed 0 (both c (where_true p w))
  tested-closed p c w x y z = both-closed 0 c (where_true p w) y (where-closed 0 p w x z)

  guarded-closed : (s : Substitution) → Types table s → IsClosed 0 (guarded table arrays s)
  guarded-closed skip w = tt
  guarded-closed (assign ps) w = terms-closed ps btrue w tt
  guarded-closed (pre p s) w = let c = predicate-closed table p w.0 in tested-closed p (defined table [] p) (guarded table arrays s) c (defined-closed table [] 0 p c) (guarded-closed s w.1)
  guarded-closed (guard p s) w = let c = predicate-closed table p w.0 in tested-closed p (defined table [] p) (guarded table arrays s) c (defined-closed table [] 0 p c) (guarded-closed s w.1)
  guarded-closed (choice s t) w = both-closed 0 (guarded table arrays s) (guarded table arrays t) (guarded-closed s w.0) (guarded-closed t w.1)
  guarded-closed (if_else p s t) w = let c = predicate-closed table p w.0 in both-closed 0 (both (evaluated table arrays p) (where_true p (guarded table arrays s))) (where_true (unary Not p) (guarded table arrays t)) (tested-closed p (evaluated table arrays p) (guarded table arrays s) c (evaluated-closed table arrays p c) (guarded-closed s w.1)) (where-closed 0 (unary Not p) (guarded table arrays t) c (guarded-closed t w.2))
  guarded-closed (any zs s) w = over_variables-closed table zs (guarded table arrays s) (guarded-closed s w.1)
  guarded-closed (seq s t) w = both-closed 0 (guarded table arrays s) (box_where table s (guarded table arrays t)) (guarded-closed s w.0) (where-box-closed table s w.0 (guarded table arrays t) (guarded-closed t w.1))
  guarded-closed (par s t) w = tt
  guarded-closed (assert p s) w = let c = predicate-closed table p w.0 in tested-closed p (defined table [] p) (guarded table arrays s) c (defined-closed table [] 0 p c) (guarded-closed s w.1)
  guarded-closed (becomes_such xs p) w = such-closed table xs p (predicate-closed table p w.1)
  guarded-closed (loop p s i v) w =
      let ci = predicate-closed table i w.2 in
      let cp = predicate-closed table p w.0 in
      let inner = both (guarded table arrays s) (defined table [] v) in
      let asked = both (evaluated table arrays p) (where_true p inner) in
      let turn = where-closed 0 i asked ci (tested-closed p (evaluated table arrays p) inner cp (evaluated-closed table arrays p cp) (both-closed 0 (guarded table arrays s) (defined table [] v) (guarded-closed s w.1) (defined-closed table [] 0 v (term-closed table int_type v w.3)))) in
      both-closed 0 (over_written table (writes s) (defined table [] i)) (over_written table (writes s) (where_true i asked)) (over_written-closed table (writes s) (defined table [] i) (defined-closed table [] 0 i ci)) (over_written-closed table (writes s) (where_true i asked) turn)

-- ---- what a write to an array is asked
module _ (find : Finder) (law : IsSearch find) (arrays : ArrayTable) (table : Table) (e : State) where
  write-so : (row : ArrayRow) (o : Option (Formula × Formula)) (f : Formula) → (holds find table e (checked_write arrays row o f) ≡ true) ↔ IsCleanWrite find table arrays row e o f
  write-so row (Some w) f =
      let env = at_state table e in
      let i = both-so find env (checked arrays w.0) (index_check (Some row) w.0) (Fits find env arrays w.0) (is_index (Some row) (value_at find table e w.0) ≡ true) (fits-so find arrays law env w.0) ((λ h. sym (index-so find arrays env (Some row) w.0) ∙ h), (λ h. index-so find arrays env (Some row) w.0 ∙ h)) in
      let k = both-so find env (both (checked arrays w.0) (index_check (Some row) w.0)) (checked arrays w.1) (Fits find env arrays w.0 × (is_index (Some row) (value_at find table e w.0) ≡ true)) (Fits find env arrays w.1) i (fits-so find arrays law env w.1) in
      ((λ h. let x = k.0 h in (x.0.0, x.0.1, x.1)), (λ h. k.1 ((h.0, h.1), h.2)))
  write-so row None f = fits-so find arrays law (at_state table e) f

  pub at-so : (o : Option ArrayRow) (x : ℕ) (f : Formula) → (holds find table e (checked_at arrays o x f) ≡ true) ↔ IsCleanAt find table arrays o e x f
  at-so None x f = fits-so find arrays law (at_state table e) f
  at-so (Some row) x f = write-so row (write_of x f) f

module _ (find : Finder) (law : IsSearch find) (table : Table) (facts : IsWellFormed table) where
  pub split : (e : State) (p q : Formula) → holds find table e (both p q) ≡ true → (holds find table e p ≡ true) × (holds find table e q ≡ true)
  split e p q h = (both-so find (at_state table e) p q (holds find table e p ≡ true) (holds find table e q ≡ true) ((λ x. x), (λ x. x)) ((λ x. x), (λ x. x))).0 h

  pub given : (e : State) (p q : Formula) → holds find table e (where_true p q) ≡ true → holds find table e p ≡ true → holds find table e q ≡ true
  given e p q h k = (where-so find (at_state table e) p q (holds find table e q ≡ true) ((λ x. x), (λ x. x))).0 h k

  defined-at : (e : State) → IsTypedState table e → (p : Formula) → IsTypedRole (role table [] p) → holds find table e (defined table [] p) ≡ true → Defined find (at_state table e) p
  defined-at e o p w h = (defined_is_exact find law (at_state table e) facts (record { variables = o.typed; bound_numbers = refl }) p w).0 h

  pub predicate-at : (e : State) → IsTypedState table e → (p : Formula) → IsPredicate table p → holds find table e (defined table [] p) ≡ true → Defined find (at_state table e) p
  predicate-at e o p w h = defined-at e o p (subst IsTypedRole (sym w) tt) h

  term-at : (e : State) → IsTypedState table e → (t : ValueType) (p : Formula) → IsTerm table t p → holds find table e (defined table [] p) ≡ true → Defined find (at_state table e) p
  term-at e o t p w h = defined-at e o p (subst IsTypedRole (sym w) tt) h

  evaluable-at : (arrays : Option ArrayTable) (e : State) → IsTypedState table e → (p : Formula) → IsPredicate table p → holds find table e (evaluated table arrays p) ≡ true → IsEvaluable find table arrays e p
  evaluable-at None e o p w h = predicate-at e o p w h
  evaluable-at (Some arrays) e o p w h = (fits-so find arrays law (at_state table e) p).0 h

  clean-term-at : (arrays : Option ArrayTable) (e : State) → IsTypedState table e → (x : ℕ) (t : ValueType) (p : Formula) → IsTerm table t p → holds find table e (evaluated_term table arrays x p) ≡ true → IsCleanTerm find table arrays e x p
  clean-term-at None e o x t p w h = term-at e o t p w h
  clean-term-at (Some arrays) e o x t p w h = (at-so find law arrays table e (row_of arrays x) x p).0 h

  terms-at : (arrays : Option ArrayTable) (e : State) → IsTypedState table e → (ps : List (ℕ × Formula)) (f : Formula) → AreTypedTerms table ps → holds find table e (evaluated_onto table arrays f ps) ≡ true → (holds find table e f ≡ true) × AreCleanTerms find table arrays e ps
  terms-at arrays e o [] f w h = (h, tt)
  terms-at arrays e o (p ∷ ps) f w h =
      let k = terms-at arrays e o ps (both f (evaluated_term table arrays p.0 p.1)) w.1 h in
      let m = split e f (evaluated_term table arrays p.0 p.1) k.0 in
      (m.0, (clean-term-at arrays e o p.0 w.0.0 p.1 w.0.2 m.1, k.1))

  over_variables-at : (e : State) (zs : List ℕ) (f : Formula) → IsClosed 0 f → AreListed table zs → holds find table e (over_variables table zs f) ≡ true → (vs : List MathValue) → are_values_for table zs vs ≡ true → holds find table (with_values e zs vs) f ≡ true
  over_variables-at e zs f c l h vs o = by_form f c h
    where
      by_form : (f : Formula) → IsClosed 0 f → holds find table e (over_variables table zs f) ≡ true → holds find table (with_values e zs vs) f ≡ true
      by_form btrue c h = refl
      by_form f c h = (all_of-true find law table facts e zs f c l).0 h vs o

  over_written-at : (e : State) (zs : List ℕ) (f : Formula) → IsClosed 0 f → AreListed table zs → holds find table e (over_written table zs f) ≡ true → (vs : List MathValue) → are_values_for table zs vs ≡ true → holds find table (with_values e zs vs) f ≡ true
  over_written-at e zs f c l h vs o = by_form f c h
    where
      by_form : (f : Formula) → IsClosed 0 f → holds find table e (over_written table zs f) ≡ true → holds find table (with_values e zs vs) f ≡ true
      by_form btrue c h = refl
      by_form f c h = (all_written-true find law table facts e zs f c l).0 h vs o

  -- by the same condition with the new values bound after
  such-at : (e : State) (xs : List (ℕ × ℕ)) (p : Formula) → AreTypedPairs table xs → IsPredicate table p → holds find table e (such_condition table xs p) ≡ true → (vs : List MathValue) → are_values_for table (firsts xs) vs ≡ true → holds find table (with_old xs e vs) (defined table [] p) ≡ true
  such-at e xs p w q h vs o = by_form (defined table [] p) (defined-closed table [] 0 p (predicate-closed table p q)) (ap (holds find table e) (such_is_defined table facts xs p w q) ∙ h)
    where
      by_form : (d : Formula) → IsClosed 0 d → holds find table e (such_after table xs d) ≡ true → holds find table (with_old xs e vs) d ≡ true
      by_form btrue c h = refl
      by_form d c h = sym (holds-new find law table facts e xs vs d w c o) ∙ (all_over-so find (at_state table e) law (types_of table (firsts xs)) (new_values xs d)).0 h vs o

  module _ (arrays : Option ArrayTable) where
    abbrev W : Substitution → Formula
    W s = guarded table arrays s

    Meets : Substitution → Formula → State → Type 0
    Meets s r e = (f : State) → Runs find table s e f → holds find table f r ≡ true

    abbrev meets : (later : ℕ → Bool) (s : Substitution) (r : Formula) → IsFlat s → Types table s → AreApart later s → ReadLater later r → IsClosed 0 r → (e : State) → IsTypedState table e → holds find table e (box table s r) ≡ true → (f : State) → Runs find table s e f → holds find table f r ≡ true
    meets later s r y w a l c e o h = (sound-later find law table facts later s r y w a l c e o h).1

    -- [S]Q where it is not left out
    where-meets : (later : ℕ → Bool) (s : Substitution) (q : Formula) → IsFlat s → Types table s → AreApart later s → ReadLater later q → IsClosed 0 q → (e : State) → IsTypedState table e → holds find table e (box_where table s q) ≡ true → (f : State) → Runs find table s e f → holds find table f q ≡ true
    where-meets later s q y w a l c e o h f r = by_form q l c h
      where
        by_form : (q : Formula) → ReadLater later q → IsClosed 0 q → holds find table e (box_where table s q) ≡ true → holds find table f q ≡ true
        by_form btrue l c h = refl
        by_form q l c h = meets later s q y w a l c e o h f r

    -- what a loop reaches
    pub record Near (s : Substitution) (i : Formula) (e f : State) : Type 0 where
      typed : IsTypedState table f
      same : (n : ℕ) → among (writes s) n ≡ false → f n ≡ e n
      keeps : holds find table f i ≡ true

    near-at : (s : Substitution) (i : Formula) → Types table s → (e f : State) → Near s i e f → (b : Formula) → IsClosed 0 b → holds find table e (over_written table (writes s) b) ≡ true → holds find table f b ≡ true
    near-at s i w e f n b c h =
        let l = writes-listed table s w in
        subst (λ x. holds find table x b ≡ true) (λ j m. with_values-to e f (writes s) n.same m j) (over_written-at e (writes s) b c l h (map f (writes s)) (values-of table f n.typed (writes s) l))

    all-near : (s : Substitution) (i : Formula) → Types table s → (e f : State) → Near s i e f → (b : Formula) → IsClosed 0 b → holds find table e (all_written table (writes s) b) ≡ true → holds find table f b ≡ true
    all-near s i w e f n b c h =
        let l = writes-listed table s w in
        subst (λ x. holds find table x b ≡ true) (λ j m. with_values-to e f (writes s) n.same m j) ((all_written-true find law table facts e (writes s) b c l).0 h (map f (writes s)) (values-of table f n.typed (writes s) l))

    -- where the body keeps the invariant, each state that is reached is near
    reached-near : (p : Formula) (s : Substitution) (i : Formula) → Types table s → (e : State) → ((f : State) → Near s i e f → holds find table f p ≡ true → Meets s i f) → (n : ℕ) (f g : State) → Near s i e f → Reached (Runs find table s) (λ x. holds find table x p) n f g → Near s i e g
    unfolding Meets
    reached-near p s i w e step zero f g near q = subst (Near s i e) (sym q) near
    reached-near p s i w e step (suc n) f g near q =
        let x = q.1.0 in
        let run = q.1.1 in
        reached-near p s i w e step n x g (record { typed = run-typed find table facts s w f x near.typed run; same = λ m k. changes-only find table s f x run m k ∙ near.same m k; keeps = step f near q.0 x run }) q.1.2

    clean-all : (s : Substitution) (later : ℕ → Bool) (r : Formula) → IsFlat s → Types table s → AreApart later s → ReadLater later r → IsClosed 0 r → (e : State) → IsTypedState table e → holds find table e (box table s r) ≡ true → holds find table e (guarded table arrays s) ≡ true → Clean find table arrays s e
    unfolding Meets
    clean-all skip later r y w a l c e o h k = tt
    clean-all (assign ps) later r y w a l c e o h k = (terms-at arrays e o ps btrue w k).1
    clean-all (pre p s) later r y w a l c e o h k =
        let b = and-both (holds find table e p) (holds find table e (box table s r)) h in
        let m = split e (defined table [] p) (where_true p (W s)) k in
        (predicate-at e o p w.0 m.0, clean-all s later r y w.1 a l c e o b.1 (given e p (W s) m.1 b.0))
    clean-all (guard p s) later r y w a l c e o h k =
        let m = split e (defined table [] p) (where_true p (W s)) k in
        (predicate-at e o p w.0 m.0, λ q. clean-all s later r y w.1 a l c e o (implies-then (holds find table e p) (holds find table e (box table s r)) h q) (given e p (W s) m.1 q))
    clean-all (choice s t) later r y w a l c e o h k =
        let b = and-both (holds find table e (box table s r)) (holds find table e (box table t r)) h in
        let m = split e (W s) (W t) k in
        (clean-all s later r y.0 w.0 a.0 l c e o b.0 m.0, clean-all t later r y.1 w.1 a.1 l c e o b.1 m.1)
    clean-all (if_else p s t) later r y w a l c e o h k =
        let b = and-both (holds find table e (binary Imp p (box table s r))) (holds find table e (binary Imp (unary Not p) (box table t r))) h in
        let m = split e (both (evaluated table arrays p) (where_true p (W s))) (where_true (unary Not p) (W t)) k in
        let u = split e (evaluated table arrays p) (where_true p (W s)) m.0 in (
          evaluable-at arrays e o p w.0 u.0,
          (λ q. clean-all s later r y.0 w.1 a.0 l c e o (implies-then (holds find table e p) (holds find table e (box table s r)) b.0 q) (given e p (W s) u.1 q)),
          (λ q. clean-all t later r y.1 w.2 a.1 l c e o (implies-then (holds find table e (unary Not p)) (holds find table e (box table t r)) b.1 (ap not q)) (given e (unary Not p) (W t) m.1 (ap not q))),
        )
    clean-all (any zs s) later r y w a l c e o h k = λ vs q. clean-all s later r y w.1 a.1 l c (with_values e zs vs) (with_values-typed table e o zs vs q)
        ((all_of-true find law table facts e zs (box table s r) (box-closed table s r w.1 c) w.0).0 h vs q) (over_variables-at e zs (W s) (guarded-closed table arrays s w.1) w.0 k vs q)
    clean-all (seq s t) later r y w a l c e o h k =
        let m = split e (W s) (box_where table s (W t)) k in
        let after = box-later table later t r l in
        let closed = box-closed table t r w.1 c in
        let asked : ReadLater (λ n. later n || among (read t) n) (W t) = λ n q. or-right (later n) (among (read t) n) (guarded-read table arrays t n q) in (
          clean-all s (λ n. later n || among (read t) n) (box table t r) y.0 w.0 a.0 after closed e o h m.0,
          (λ g q. clean-all t later r y.1 w.1 a.1 l c g (run-typed find table facts s w.0 e g o q)
              (meets (λ n. later n || among (read t) n) s (box table t r) y.0 w.0 a.0 after closed e o h g q)
              (where-meets (λ n. later n || among (read t) n) s (W t) y.0 w.0 a.0 asked (guarded-closed table arrays t w.1) e o m.1 g q)),
        )
    clean-all (par s t) later r y w a l c e o h k = absurd y
    clean-all (assert p s) later r y w a l c e o h k =
        let b = and-both (holds find table e p) (holds find table e (binary Imp p (box table s r))) h in
        let m = split e (defined table [] p) (where_true p (W s)) k in
        (predicate-at e o p w.0 m.0, clean-all s later r y w.1 a l c e o (implies-then (holds find table e p) (holds find table e (box table s r)) b.1 b.0) (given e p (W s) m.1 b.0))
    clean-all (becomes_such xs p) later r y w a l c e o h k = λ vs q.
        let d = such-at e xs p w.0 w.1 k vs q in
        predicate-at (with_old xs e vs) (old-typed xs w.0 e o vs q) p w.1 d
      where
        olds : (xs : List (ℕ × ℕ)) → AreTypedPairs table xs → (e : State) → IsTypedState table e → IsTypedState table (λ n. e (old_of xs n))
        olds [] w e o = o
        olds (x ∷ xs) w e o = record { typed = λ n t q. at n t q (nat_eq n x.1) refl ((olds xs w.1 e o).typed n t q) }
          where
            at : (n : ℕ) (t : ValueType) → variable_type table n ≡ Some t → (b : Bool) → nat_eq n x.1 ≡ b → is_value_of (set_size table) t (e (old_of xs n)) ≡ true → is_value_of (set_size table) t (e (cond b x.0 (old_of xs n))) ≡ true
            at n t q true k m =
                let same : Some t ≡ Some w.0.0 = sym q ∙ ap (variable_type table) (nat_eq-same n x.1 k) ∙ w.0.2 in
                let one : t ≡ w.0.0 = cc same in
                o.typed x.0 t (w.0.1 ∙ ap Some (sym one))
            at n t q false k m = m

        old-typed : (xs : List (ℕ × ℕ)) → AreTypedPairs table xs → (e : State) → IsTypedState table e → (vs : List MathValue) → are_values_for table (firsts xs) vs ≡ true → IsTypedState table (with_old xs e vs)
        old-typed xs w e o vs q = with_values-typed table (λ n. e (old_of xs n)) (olds xs w e o) (firsts xs) vs q
    clean-all (loop p s i v) later r y w a l c e o h k =
        let ci = predicate-closed table i w.2 in
        let cp = predicate-closed table p w.0 in
        let turned = both (evaluated table arrays p) (where_true p (both (W s) (defined table [] v))) in
        let m = split e (over_written table (writes s) (defined table [] i)) (over_written table (writes s) (where_true i turned)) k in
        let turn_closed : IsClosed 0 (where_true i turned) = where-closed 0 i turned ci (tested-closed table arrays p (evaluated table arrays p) (both (W s) (defined table [] v)) cp (evaluated-closed table arrays p cp) (both-closed 0 (W s) (defined table [] v) (guarded-closed table arrays s w.1) (defined-closed table [] 0 v (term-closed table int_type v w.3)))) in
        let parts = loop-parts e p s i v r h in
        let reads : ReadLater (λ n. occurs n i || occurs n v) i = λ n q. or-left (occurs n i) (occurs n v) q in
        let boxed : (f : State) → Near s i e f → holds find table f p ≡ true → holds find table f (box table s i) ≡ true = λ f near q.
        implies-then (holds find table f (binary And i p)) (holds find table f (box table s i)) (all-near s i w.1 e f near (binary Imp (binary And i p) (box table s i)) ((ci, cp), box-closed table s i w.1 ci) parts.1) (and-true (holds find table f i) (holds find table f p) near.keeps q) in
        let step : (f : State) → Near s i e f → holds find table f p ≡ true → (g : State) → Runs find table s f g → holds find table g i ≡ true = λ f near q. meets (λ n. occurs n i || occurs n v) s i y w.1 a reads ci f near.typed (boxed f near q) in
        let start : Near s i e e = record { typed = o; same = λ n q. refl; keeps = parts.0 } in
        λ n f q.
        let near = reached-near p s i w.1 e step n e f start q in
        let t = given f i turned (near-at s i w.1 e f near (where_true i turned) turn_closed m.1) near.keeps in
        let u = split f (evaluated table arrays p) (where_true p (both (W s) (defined table [] v))) t in (
          predicate-at f near.typed i w.2 (near-at s i w.1 e f near (defined table [] i) (defined-closed table [] 0 i ci) m.0),
          evaluable-at arrays f near.typed p w.0 u.0,
          (λ z. let x = split f (W s) (defined table [] v) (given f p (both (W s) (defined table [] v)) u.1 z) in
              (clean-all s (λ n. occurs n i || occurs n v) i y w.1 a reads ci f near.typed (boxed f near z) x.0, term-at f near.typed int_type v w.3 x.1)),
        )
      where
        loop-parts : (e : State) (p : Formula) (s : Substitution) (i v r : Formula) → holds find table e (box table (loop p s i v) r) ≡ true → (holds find table e i ≡ true) × (holds find table e (all_written table (writes s) (binary Imp (binary And i p) (box table s i))) ≡ true)
        loop-parts e p s i v r h =
            let new = variant_before table in
            let xs = writes s in
            let a = holds find table e i in
            let b = holds find table e (all_written table xs (binary Imp (binary And i p) (box table s i))) in
            let c = holds find table e (all_written table xs (binary Imp (binary And i p) (binary In v (named Natural)))) in
            let d = holds find table e (all_written table xs (binary Imp (binary And i p) (replaced (looked_up ((new, v) ∷ [])) (box table s (binary Lt v (variable new)))))) in
            let m = holds find table e (all_written table xs (binary Imp (binary And i (unary Not p)) r)) in
            let h1 = (and-both (((a && b) && c) && d) m h).0 in
            let h2 = (and-both ((a && b) && c) d h1).0 in
            and-both a b (and-both (a && b) c h2).0

pub guarded_is_clean : (find : Finder) → IsSearch find → (table : Table) → IsWellFormed table →
    (arrays : Option ArrayTable) (s : Substitution) → IsFlat s → Types table s → (r : Formula) → IsClosed 0 r → LocalsAreApart s r →
    (e : State) → IsTypedState table e → holds find table e (box table s r) ≡ true →
    holds find table e (guarded table arrays s) ≡ true → Clean find table arrays s e
guarded_is_clean find law table facts arrays s y w r c a e o h k = clean-all find law table facts arrays s (λ n. occurs n r) r y w a (λ n q. q) c e o h k
