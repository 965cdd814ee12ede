-- [n := V][S](V < n), where n is a number that the table does not list: it stands only on the right of that comparison.
use Rattle.std.proofs.Common.{◌≡◌, ◌⊎◌, inl, inr, ℕ, ◌+◌, List, [], ◌∷◌, length, refl, sym, ◌∙◌, ap, subst, Bool, true, false, not, ◌&&◌, ◌||◌, cond, nat_eq}
use Rattle.std.specs.Prelude.{int_lt}
use Rattle.bk_val.specs.ValueType.{are_of_types}
use Rattle.bk_form.specs.Table.{Table, set_size}
use Rattle.bk_form.specs.Formula.{Formula, variable, bound, named, unary, binary, for_all, for_some, comprehension, lambda, Formulas, no_formulas, formula_and}
use Rattle.bk_form.specs.declared.operator.UnOp.TheVariants.{Not}
use Rattle.bk_form.specs.declared.operator.BinOp.TheVariants.{And, Imp, Lt, In}
use Rattle.bk_form.specs.declared.operator.Domain.TheVariants.{Natural}
use Rattle.bk_form.specs.Search.{Finder, no_choice}
use Rattle.bk_form.specs.Environment.{Environment, under}
use Rattle.bk_form.specs.Operators.{implies, number_in}
use Rattle.bk_form.specs.Replacement.{replaced, all_replaced, occurs, any_occurs, IsClosed, looked_up}
use Rattle.bk_form.specs.Meaning.{meaning, truth, value}
use Rattle.bk_form.proofs.Agreement.{meaning-closed, meaning-agrees}
use Rattle.bk_form.proofs.Members.{or-left, or-right}
use Rattle.bk_gsl.specs.Substitution.{Substitution, skip, assign, pre, guard, choice, if_else, any, seq, par, assert, becomes_such, loop}
use Rattle.bk_gsl.specs.State.{among, firsts, with_value}
use Rattle.bk_gsl.specs.Run.{old_of}
use Rattle.bk_gsl.specs.Writes.{writes}
use Rattle.bk_gsl.proofs.States.{cases, clash, or-false, nat_eq-same, nat_eq-self}
use Rattle.bk_bind.specs.Closing.{closed_over, closed_over_each}
use Rattle.bk_wp.specs.Quantifiers.{all_of, all_written}
use Rattle.bk_wp.specs.Box.{new_values, all_new, variant_before, box}
use Rattle.bk_wp.proofs.Reading.{occurs-replaced, occurs-closed_over, occurs-each, falls-reads}
use Rattle.bk_gsl.specs.Avoids.{Avoids}
use Rattle.bk_gsl.proofs.Outside.{looked_up-free, old-avoided}
use Rattle.bk_gsl.proofs.Runs.{looked_up-out}

-- ---- what replaces nothing
mutual
  replaced-same : (by : ℕ → Formula) (f : Formula) → ((m : ℕ) → occurs m f ≡ true → by m ≡ variable m) → replaced by f ≡ f
  replaced-same by (variable m) h = h m (nat_eq-self m)
  replaced-same by (unary o f) h = ap (unary o) (replaced-same by f h)
  replaced-same by (binary o f g) h = λ i. binary o (replaced-same by f (λ m q. h m (or-left (occurs m f) (occurs m g) q)) i) (replaced-same by g (λ m q. h m (or-right (occurs m f) (occurs m g) q)) i)
  replaced-same by (for_all ts p) h = ap (for_all ts) (replaced-same by p h)
  replaced-same by (for_some ts p) h = ap (for_some ts) (replaced-same by p h)
  replaced-same by (comprehension rs p) h = λ i. comprehension (all-replaced-same by rs (λ m q. h m (or-left (any_occurs m rs) (occurs m p) q)) i) (replaced-same by p (λ m q. h m (or-right (any_occurs m rs) (occurs m p) q)) i)
  replaced-same by (lambda rs p v) h = λ i. lambda (all-replaced-same by rs (λ m q. h m (or-left (any_occurs m rs || occurs m p) (occurs m v) (or-left (any_occurs m rs) (occurs m p) q))) i) (replaced-same by p (λ m q. h m (or-left (any_occurs m rs || occurs m p) (occurs m v) (or-right (any_occurs m rs) (occurs m p) q))) i) (replaced-same by v (λ m q. h m (or-right (any_occurs m rs || occurs m p) (occurs m v) q)) i)
  replaced-same by _ h = refl

  all-replaced-same : (by : ℕ → Formula) (fs : Formulas) → ((m : ℕ) → any_occurs m fs ≡ true → by m ≡ variable m) → all_replaced by fs ≡ fs
  all-replaced-same by no_formulas h = refl
  all-replaced-same by (formula_and f fs) h = λ i. formula_and (replaced-same by f (λ m q. h m (or-left (occurs m f) (any_occurs m fs) q)) i) (all-replaced-same by fs (λ m q. h m (or-right (occurs m f) (any_occurs m fs) q)) i)

-- ---- a formula in which k stands only on the right of comparisons, under & and => and quantifiers
abbrev Shape : ℕ → Formula → Type 0
Shape k (binary Lt a (variable n)) = (occurs k a ≡ false) × (n ≡ k)
Shape k (binary And a b) = ((occurs k a ≡ false) ⊎ Shape k a) × ((occurs k b ≡ false) ⊎ Shape k b)
Shape k (binary Imp a b) = ((occurs k a ≡ false) ⊎ Shape k a) × ((occurs k b ≡ false) ⊎ Shape k b)
Shape k (for_all ts p) = (occurs k p ≡ false) ⊎ Shape k p
Shape k _ = ⊥

abbrev Held : ℕ → Formula → Type 0
Held k f = (occurs k f ≡ false) ⊎ Shape k f

pick : {A B C : Type 0} → (A → C) → (B → C) → A ⊎ B → C
pick f g (inl x) = f x
pick f g (inr x) = g x

other : (k m : ℕ) (f : Formula) → occurs k f ≡ false → occurs m f ≡ true → nat_eq m k ≡ false
other k m f h q = elim (cases (nat_eq m k)) [ inl y ↦ clash (occurs m f) q (ap (λ x. occurs x f) (nat_eq-same m k y) ∙ h) | inr y ↦ y ]

module _ (find : Finder) (k : ℕ) (v : Formula) (cv : IsClosed 0 v) where
  abbrev by_v : ℕ → Formula
  by_v = looked_up ((k, v) ∷ [])

  -- the environment in which k has the value of v
  abbrev with_v : Environment → Environment
  with_v e = record e { state = with_value e.state k (value find (record e { bound = [] }) v) }

  free-same : (e : Environment) (f : Formula) → occurs k f ≡ false → meaning find e (replaced by_v f) ≡ meaning find (with_v e) f
  free-same e f h =
      ap (meaning find e) (replaced-same by_v f (λ m q. ap (λ b. cond b v (variable m)) (other k m f h q)))
      ∙ sym (meaning-agrees find e (with_value e.state k (value find (record e { bound = [] }) v)) f (λ m q. ap (λ b. cond b (value find (record e { bound = [] }) v) (e.state m)) (other k m f h q)))

  at-k : (e : Environment) (n : ℕ) → n ≡ k → value find e (by_v n) ≡ (with_v e).state n
  at-k e n h =
      let q = ap (λ x. nat_eq x k) h ∙ nat_eq-self k in
      ap (λ b. value find e (cond b v (variable n))) q
      ∙ ap (λ m. m.value) (meaning-closed find e e.bound [] v cv)
      ∙ sym (ap (λ b. cond b (value find (record e { bound = [] }) v) (e.state n)) q)

  free-truth : (e : Environment) (f : Formula) → occurs k f ≡ false → truth find e (replaced by_v f) ≡ truth find (with_v e) f
  free-truth e f h = ap (λ m. m.truth) (free-same e f h)

  shape-truth : (e : Environment) (f : Formula) → Shape k f → truth find e (replaced by_v f) ≡ truth find (with_v e) f
  shape-truth e (binary Lt a (variable n)) h =
      let x = ap (λ m. m.value) (free-same e a h.0) in
      let y = at-k e n h.1 in
      λ i. int_lt (number_in (x i)) (number_in (y i))
  shape-truth e (binary And a b) h =
      let x = pick (free-truth e a) (shape-truth e a) h.0 in
      let y = pick (free-truth e b) (shape-truth e b) h.1 in
      λ i. x i && y i
  shape-truth e (binary Imp a b) h =
      let x = pick (free-truth e a) (shape-truth e a) h.0 in
      let y = pick (free-truth e b) (shape-truth e b) h.1 in
      λ i. implies (x i) (y i)
  shape-truth e (for_all ts p) h = λ i. no_choice find (λ vs. are_of_types (set_size e.table) ts vs && not (pick (free-truth (under e ts vs) p) (shape-truth (under e ts vs) p) h i))
  shape-truth e _ h = absurd h

  pub held-truth : (e : Environment) (f : Formula) → Held k f → truth find e (replaced by_v f) ≡ truth find (with_v e) f
  held-truth e f h = pick (free-truth e f) (shape-truth e f) h

-- ---- the box keeps that form
module _ (k : ℕ) where
  module _ (by : ℕ → Formula) (stays : by k ≡ variable k) (free : (m : ℕ) → nat_eq m k ≡ false → occurs k (by m) ≡ false) where
    free-replaced : (f : Formula) → occurs k f ≡ false → occurs k (replaced by f) ≡ false
    free-replaced f h = elim (cases (occurs k (replaced by f))) [
      | inl q ↦ let w = occurs-replaced by k f q in clash (occurs k (by w.place)) w.brings (free w.place (other k w.place f h w.stands))
      | inr q ↦ q
    ]

    shape-replaced : (f : Formula) → Shape k f → Shape k (replaced by f)
    shape-replaced (binary Lt a (variable n)) h = subst (λ x. Shape k (binary Lt (replaced by a) x)) (sym (ap by h.1 ∙ stays)) (free-replaced a h.0, refl)
    shape-replaced (binary And a b) h = (pick (λ x. inl (free-replaced a x)) (λ x. inr (shape-replaced a x)) h.0, pick (λ x. inl (free-replaced b x)) (λ x. inr (shape-replaced b x)) h.1)
    shape-replaced (binary Imp a b) h = (pick (λ x. inl (free-replaced a x)) (λ x. inr (shape-replaced a x)) h.0, pick (λ x. inl (free-replaced b x)) (λ x. inr (shape-replaced b x)) h.1)
    shape-replaced (for_all ts p) h = pick (λ x. inl (free-replaced p x)) (λ x. inr (shape-replaced p x)) h
    shape-replaced _ h = absurd h

    held-replaced : (f : Formula) → Held k f → Held k (replaced by f)
    held-replaced f h = pick (λ x. inl (free-replaced f x)) (λ x. inr (shape-replaced f x)) h

  module _ (z : ℕ) (differs : nat_eq k z ≡ false) where
    free-closed_over : (j : ℕ) (f : Formula) → occurs k f ≡ false → occurs k (closed_over z j f) ≡ false
    free-closed_over j f h = elim (cases (occurs k (closed_over z j f))) [ inl q ↦ clash (occurs k f) ((occurs-closed_over z k j f q).0) h | inr q ↦ q ]

    shape-closed_over : (j : ℕ) (f : Formula) → Shape k f → Shape k (closed_over z j f)
    shape-closed_over j (binary Lt a (variable n)) h =
        let q = ap (λ x. nat_eq x z) h.1 ∙ differs in
        subst (λ b. Shape k (binary Lt (closed_over z j a) (cond b (bound j) (variable n)))) (sym q) (free-closed_over j a h.0, h.1)
    shape-closed_over j (binary And a b) h = (pick (λ x. inl (free-closed_over j a x)) (λ x. inr (shape-closed_over j a x)) h.0, pick (λ x. inl (free-closed_over j b x)) (λ x. inr (shape-closed_over j b x)) h.1)
    shape-closed_over j (binary Imp a b) h = (pick (λ x. inl (free-closed_over j a x)) (λ x. inr (shape-closed_over j a x)) h.0, pick (λ x. inl (free-closed_over j b x)) (λ x. inr (shape-closed_over j b x)) h.1)
    shape-closed_over j (for_all ts p) h = pick (λ x. inl (free-closed_over (length ts + j) p x)) (λ x. inr (shape-closed_over (length ts + j) p x)) h
    shape-closed_over j _ h = absurd h

    held-closed_over : (j : ℕ) (f : Formula) → Held k f → Held k (closed_over z j f)
    held-closed_over j f h = pick (λ x. inl (free-closed_over j f x)) (λ x. inr (shape-closed_over j f x)) h

  held-each : (zs : List ℕ) (f : Formula) → among zs k ≡ false → Held k f → Held k (closed_over_each zs f)
  held-each [] f n h = h
  held-each (z ∷ zs) f n h = let w = or-false (nat_eq k z) (among zs k) n in held-closed_over z w.0 (length zs) (closed_over_each zs f) (held-each zs f w.1 h)

-- bound variables that are perhaps k: then it stands no more
free-each : (k : ℕ) (zs : List ℕ) (f : Formula) → among zs k ≡ true → occurs k (closed_over_each zs f) ≡ false
free-each k zs f n = elim (cases (occurs k (closed_over_each zs f))) [ inl q ↦ clash (among zs k) n ((occurs-each zs f k q).1) | inr q ↦ q ]

pub held-all : (k : ℕ) (table : Table) (zs : List ℕ) (f : Formula) → Held k f → Held k (all_of table zs f)
held-all k table zs f h = elim (cases (among zs k)) [
  | inl q ↦ inl (free-each k zs f q)
  | inr q ↦ inr (held-each k zs f q h)
]

held-written : (k : ℕ) (table : Table) (zs : List ℕ) (f : Formula) → Held k f → Held k (all_written table zs f)
held-written k table [] f h = h
held-written k table (z ∷ zs) f h = held-all k table (z ∷ zs) f h

abbrev pub Is : ℕ → ℕ → Bool
Is k n = nat_eq n k

held-new : (k : ℕ) (table : Table) (xs : List (ℕ × ℕ)) (p r : Formula) → ((n : ℕ) → Is k n ≡ true → among (firsts xs) n ≡ false) → occurs k p ≡ false → ((n : ℕ) → Is k n ≡ false → Is k (old_of xs n) ≡ false) → Held k r → Held k (all_new table xs p r)
held-new k table xs p r n h o g = inr (inr (inl old, held-each k (firsts xs) r (n k (nat_eq-self k)) g))
  where
    old : occurs k (new_values xs p) ≡ false
    old = elim (cases (occurs k (new_values xs p))) [
      | inl q ↦
          let w = occurs-replaced (λ m. variable (old_of xs m)) k (closed_over_each (firsts xs) p) q in
          let y = occurs-each (firsts xs) p w.place w.stands in
          clash (nat_eq (old_of xs w.place) k) w.brings (o w.place (other k w.place p h y.0))
      | inr q ↦ q
    ]

module _ (table : Table) where
  abbrev new : ℕ
  new = variant_before table

  free-falls : (v f : Formula) → occurs new v ≡ false → occurs new (replaced (looked_up ((new, v) ∷ [])) f) ≡ false
  free-falls v f h = elim (cases (occurs new (replaced (looked_up ((new, v) ∷ [])) f))) [
    | inl q ↦ elim (falls-reads new v f new q) [ inl y ↦ clash (occurs new v) y h | inr y ↦ clash (nat_eq new new) (nat_eq-self new) y.1 ]
    | inr q ↦ q
  ]

  pub held-box : (s : Substitution) (r : Formula) → Avoids (Is new) s → Held new r → Held new (box table s r)
  held-box skip r a h = h
  held-box (assign ps) r a h = held-replaced new (looked_up ps) (looked_up-out ps new (a.0 new (nat_eq-self new))) (λ m q. looked_up-free (Is new) ps a.1 m q new (nat_eq-self new)) r h
  held-box (pre p s) r a h = inr (inl (a.0 new (nat_eq-self new)), held-box s r a.1 h)
  held-box (guard p s) r a h = inr (inl (a.0 new (nat_eq-self new)), held-box s r a.1 h)
  held-box (choice s t) r a h = inr (held-box s r a.0 h, held-box t r a.1 h)
  held-box (if_else p s t) r a h = inr (inr (inl (a.0 new (nat_eq-self new)), held-box s r a.1 h), inr (inl (a.0 new (nat_eq-self new)), held-box t r a.2 h))
  held-box (any zs s) r a h = held-all new table zs (box table s r) (held-box s r a.1 h)
  held-box (seq s t) r a h = held-box s (box table t r) a.0 (held-box t r a.1 h)
  held-box (par s t) r a h = inl refl
  held-box (assert p s) r a h = let q = a.0 new (nat_eq-self new) in inr (inl q, inr (inl q, held-box s r a.1 h))
  held-box (becomes_such xs p) r a h = held-new new table xs p r a.0 (a.1 new (nat_eq-self new)) (old-avoided (Is new) xs a.0) h
  held-box (loop p s i v) r a h =
      let xs = writes s in
      let ap = a.0 new (nat_eq-self new) in
      let ai = a.2 new (nat_eq-self new) in
      let av = a.3 new (nat_eq-self new) in
      let m = binary And i p in
      let hm : Held new m = inr (inl ai, inl ap) in
      let falls = replaced (looked_up ((new, v) ∷ [])) (box table s (binary Lt v (variable new))) in
      let b = held-written new table xs (binary Imp m (box table s i)) (inr (hm, held-box s i a.1 (inl ai))) in
      let c = held-written new table xs (binary Imp m (binary In v (named Natural))) (inr (hm, inl (none av))) in
      let d = held-written new table xs (binary Imp m falls) (inr (hm, inl (free-falls v (box table s (binary Lt v (variable new))) av))) in
      let e = held-written new table xs (binary Imp (binary And i (unary Not p)) r) (inr (inr (inl ai, inl ap), h)) in
      inr (inr (inr (inr (inl ai, b), c), d), e)
    where
      none : occurs new v ≡ false → (occurs new v || false) ≡ false
      none q = rw q
