-- What the box of a loop says.
use Rattle.std.proofs.Common.{◌≡◌, inl, inr, ℕ, zero, suc, ◌<◌, pos, negsuc, List, [], ◌∷◌, length, map, refl, sym, ◌∙◌, ap, subst, Bool, true, false, not, ◌&&◌, ◌||◌, cond, nat_eq, arith}
use Rattle.std.specs.Prelude.{Some, None, slice_get, int_lt, unwrap_or}
use Rattle.std.specs.Option.{option_map}
use Rattle.std.proofs.lemmas.Bool.Decides.{nat_tests}
use Rattle.std.proofs.lemmas.Int.{ints}
use Rattle.bk_val.specs.Value.{MathValue, int, bool, elem, pair, set}
use Rattle.bk_val.specs.ValueType.{ValueType, bool_type, int_type, is_value_of}
use Rattle.bk_form.specs.Table.{Table, VariableEntry, set_size, variable_type, IsWellFormed}
use Rattle.bk_form.specs.Formula.{Formula, variable, named, unary, binary}
use Rattle.bk_form.specs.declared.operator.UnOp.TheVariants.{Not}
use Rattle.bk_form.specs.declared.operator.BinOp.TheVariants.{And, Imp, Lt, In}
use Rattle.bk_form.specs.declared.operator.Domain.TheVariants.{Natural}
use Rattle.bk_form.specs.Search.{Finder, IsSearch}
use Rattle.bk_form.specs.Environment.{State, IsTypedState, at_state}
use Rattle.bk_form.specs.Operators.{number_in, is_in_named}
use Rattle.bk_form.specs.Replacement.{replaced, IsClosed, looked_up}
use Rattle.bk_form.proofs.Truth.{and-true, and-left, and-right}
use Rattle.bk_gsl.specs.Substitution.{Substitution, loop}
use Rattle.bk_gsl.specs.State.{holds, value_at, declared_type, are_values_for, with_value, with_values, among, over}
use Rattle.bk_gsl.specs.Writes.{writes}
use Rattle.bk_gsl.specs.Run.{Turns, Bounded, Runs, Ends}
use Rattle.bk_gsl.specs.Typed.{IsListed, AreListed, IsTerm, Types}
use Rattle.bk_form.specs.Predicates.{IsPredicate}
use Rattle.bk_gsl.proofs.States.{cases, over-at, nat_eq-same, nat_eq-self}
use Rattle.bk_gsl.proofs.Runs.{changes-only, run-typed}
use Rattle.bk_wp.specs.Quantifiers.{all_written}
use Rattle.bk_wp.specs.Box.{variant_before, box}
use Rattle.bk_wp.specs.Laws.{AllMeet}
use Rattle.bk_form.proofs.Closed.{predicate-closed, term-closed}
use Rattle.bk_gsl.proofs.Over.{value-over}
use Rattle.bk_wp.proofs.Steps.{implies-then}
use Rattle.bk_wp.proofs.Quantified.{all_written-true}
use Rattle.bk_gsl.proofs.Outside.{avoids, term-free, runs-over}
use Rattle.bk_wp.proofs.Falls.{Is, held-box, held-truth}

-- ---- a state that differs from e at most on zs
neither : (a b : Bool) → a ≡ false → b ≡ false → (a || b) ≡ false
neither a b h k = rw (h, k)

pub with_values-to : (e f : State) (zs : List ℕ) → ((n : ℕ) → among zs n ≡ false → f n ≡ e n) → (n : ℕ) → with_values e zs (map f zs) n ≡ f n
with_values-to e f [] h n = sym (h n refl)
with_values-to e f (z ∷ zs) h n = with_values-to (with_value e z (f z)) f zs at n
  where
    at : (m : ℕ) → among zs m ≡ false → f m ≡ with_value e z (f z) m
    at m k = elim (cases (nat_eq m z)) [
      | inl q ↦ ap f (nat_eq-same m z q) ∙ sym (ap (λ b. cond b (f z) (e m)) q)
      | inr q ↦ h m (neither (nat_eq m z) (among zs m) q k) ∙ sym (ap (λ b. cond b (f z) (e m)) q)
    ]

pub values-of : (table : Table) (f : State) → IsTypedState table f → (zs : List ℕ) → AreListed table zs → are_values_for table zs (map f zs) ≡ true
values-of table f h [] l = refl
values-of table f h (z ∷ zs) l =
    let t : declared_type table z ≡ l.0.0 = ap (λ o. unwrap_or o bool_type) l.0.1 in
    and-true (is_value_of (set_size table) (declared_type table z) (f z)) (are_values_for table zs (map f zs))
    (subst (λ x. is_value_of (set_size table) x (f z) ≡ true) (sym t) (h.typed z l.0.0 l.0.1))
    (values-of table f h zs l.1)

-- ---- numbers
abbrev steps_of : MathValue → ℕ
steps_of (int (pos n)) = n
steps_of _ = 0

natural : (sizes : ℕ → ℕ) (w : MathValue) → is_in_named sizes Natural w ≡ true → w ≡ int (pos (steps_of w))
natural sizes (int (pos n)) h = refl
natural sizes (int (negsuc n)) h = absurd (not-natural n h)
  where
    not-natural : (n : ℕ) → is_in_named sizes Natural (int (negsuc n)) ≡ true → ⊥
    not-natural n h = grind (arith, ints)
natural sizes (bool b) h = absurd (cc)
natural sizes (elem m n) h = absurd (cc)
natural sizes (pair v w) h = absurd (cc)
natural sizes (set vs) h = absurd (cc)

below : (a b : ℕ) → int_lt (pos a) (pos b) ≡ true → a < b
below a b h = grind (arith, ints, nat_tests)

smaller : (v w : MathValue) → v ≡ int (pos (steps_of v)) → w ≡ int (pos (steps_of w)) → int_lt (number_in v) (number_in w) ≡ true → steps_of v < steps_of w
smaller v w h k l = below (steps_of v) (steps_of w) (subst (λ x. int_lt (pos (steps_of v)) (number_in x) ≡ true) k (subst (λ x. int_lt (number_in x) (number_in w) ≡ true) h l))

-- ---- the new number
past-end : (vars : List VariableEntry) → option_map (λ v. v.of_type) (slice_get vars (length vars)) ≡ None
past-end [] = refl
past-end (v ∷ vars) = past-end vars

pub new-unlisted : (table : Table) (n : ℕ) → Is (variant_before table) n ≡ true → IsListed table n → ⊥
new-unlisted table n h l =
    let e : None ≡ Some l.0 = sym (past-end table.variables) ∙ sym (ap (variable_type table) (nat_eq-same n (variant_before table) h)) ∙ l.1 in
    cc

module _ (find : Finder) (law : IsSearch find) (table : Table) (facts : IsWellFormed table) (p : Formula) (s : Substitution) (i v r : Formula) (wp : IsPredicate table p) (ws : Types table s) (wi : IsPredicate table i) (wv : IsTerm table int_type v) (cr : IsClosed 0 r) (listed : AreListed table (writes s)) where
  abbrev new : ℕ
  new = variant_before table

  abbrev less : Formula
  less = binary Lt v (variable new)

  cp : IsClosed 0 p
  cp = predicate-closed table p wp

  ci : IsClosed 0 i
  ci = predicate-closed table i wi

  cv : IsClosed 0 v
  cv = term-closed table int_type v wv

  pub record Loop (e : State) : Type 0 where
    pub start : holds find table e i ≡ true
    pub body : holds find table e (all_written table (writes s) (binary Imp (binary And i p) (box table s i))) ≡ true
    pub counts : holds find table e (all_written table (writes s) (binary Imp (binary And i p) (binary In v (named Natural)))) ≡ true
    pub falls : holds find table e (all_written table (writes s) (binary Imp (binary And i p) (replaced (looked_up ((new, v) ∷ [])) (box table s less)))) ≡ true
    pub leaves : holds find table e (all_written table (writes s) (binary Imp (binary And i (unary Not p)) r)) ≡ true

  pub loop-of : (e : State) → holds find table e (box table (loop p s i v) r) ≡ true → Loop e
  loop-of e h =
      let xs = writes s in
      let a = holds find table e i in
      let b = holds find table e (all_written table xs (binary Imp (binary And i p) (box table s i))) in
      let c = holds find table e (all_written table xs (binary Imp (binary And i p) (binary In v (named Natural)))) in
      let d = holds find table e (all_written table xs (binary Imp (binary And i p) (replaced (looked_up ((new, v) ∷ [])) (box table s less)))) in
      let m = holds find table e (all_written table xs (binary Imp (binary And i (unary Not p)) r)) in
      let h1 = and-left (((a && b) && c) && d) m h in
      let h2 = and-left ((a && b) && c) d h1 in
      let h3 = and-left (a && b) c h2 in
      record { start = and-left a b h3; body = and-right a b h3; counts = and-right (a && b) c h2; falls = and-right ((a && b) && c) d h1; leaves = and-right (((a && b) && c) && d) m h }

  module _ (one : (e : State) → IsTypedState table e → holds find table e (box table s i) ≡ true → AllMeet find table s i e)
      (two : (e : State) → IsTypedState table e → holds find table e (box table s less) ≡ true → AllMeet find table s less e)
      (cone : IsClosed 0 (box table s i)) (ctwo : IsClosed 0 (replaced (looked_up ((new, v) ∷ [])) (box table s less)))
      (e : State) (l : Loop e) where
    -- typed, differs from the start where the body writes, and meets the invariant
    record Near (f : State) : Type 0 where
      typed : IsTypedState table f
      same : (n : ℕ) → among (writes s) n ≡ false → f n ≡ e n
      keeps : holds find table f i ≡ true

    at-near : (b : Formula) → IsClosed 0 b → holds find table e (all_written table (writes s) b) ≡ true → (f : State) → Near f → holds find table f b ≡ true
    at-near b c h f n = subst (λ x. holds find table x b ≡ true) (λ j m. with_values-to e f (writes s) n.same m j) ((all_written-true find law table facts e (writes s) b c listed).0 h (map f (writes s)) (values-of table f n.typed (writes s) listed))

    abbrev size : State → ℕ
    size f = steps_of (value_at find table f v)

    meet : (q : Formula) (f : State) → holds find table f i ≡ true → holds find table f q ≡ true → holds find table f (binary And i q) ≡ true
    meet q f h m = and-true (holds find table f i) (holds find table f q) h m

    counted : (f : State) → Near f → holds find table f p ≡ true → value_at find table f v ≡ int (pos (size f))
    counted f n q =
        let h = at-near (binary Imp (binary And i p) (binary In v (named Natural))) ((ci, cp), (cv, tt)) l.counts f n in
        natural (set_size table) (value_at find table f v) (implies-then (holds find table f (binary And i p)) (holds find table f (binary In v (named Natural))) h (meet p f n.keeps q))

    abbrev put : State → State
    put f = λ n. value_at find table f v

    -- the state in which the new number has the value of the variant
    with-new-typed : (f : State) → IsTypedState table f → IsTypedState table (over (Is new) (put f) f)
    with-new-typed f h = record { typed = λ n t q. by_test n t q (nat_eq n new) refl }
      where
        by_test : (n : ℕ) (t : ValueType) → variable_type table n ≡ Some t → (b : Bool) → nat_eq n new ≡ b → is_value_of (set_size table) t (cond b (put f n) (f n)) ≡ true
        by_test n t q true k = absurd (new-unlisted table n k (t, q))
        by_test n t q false k = h.typed n t q

    turn : (f : State) → Near f → holds find table f p ≡ true → Ends find table s f × ((g : State) → Runs find table s f g → Near g × (holds find table g p ≡ true → size g < size f))
    turn f n q =
        let m = meet p f n.keeps q in
        let ip = holds find table f (binary And i p) in
        let b = at-near (binary Imp (binary And i p) (box table s i)) ((ci, cp), cone) l.body f n in
        let x1 = one f n.typed (implies-then ip (holds find table f (box table s i)) b m) in
        let sl = replaced (looked_up ((new, v) ∷ [])) (box table s less) in
        let d = at-near (binary Imp (binary And i p) sl) ((ci, cp), ctwo) l.falls f n in
        let a = avoids table (Is new) (new-unlisted table) s ws in
        let fv = term-free table (Is new) (new-unlisted table) int_type v wv in
        let held = held-box table s less a (inr (fv new (nat_eq-self new), refl)) in
        let y1 = two (over (Is new) (put f) f) (with-new-typed f n.typed) (sym (held-truth find new v cv (at_state table f) (box table s less) held) ∙ implies-then ip (holds find table f sl) d m) in (
          x1.0,
          λ g x.
              let ng : Near g = record { typed = run-typed find table facts s ws f g n.typed x; same = λ k z. changes-only find table s f g x k z ∙ n.same k z; keeps = x1.1 g x } in (
                ng,
                λ y.
                    let c1 = y1.1 (over (Is new) (put f) g) (runs-over find table (Is new) s a (put f) f g x) in
                    let e1 = value-over find table (Is new) (put f) g v fv in
                    let e2 = over-at (Is new) (put f) g new (nat_eq-self new) in
                    let c2 = subst (λ z. int_lt (number_in z) (number_in (over (Is new) (put f) g new)) ≡ true) e1 c1 in
                    let c3 = subst (λ z. int_lt (number_in (value_at find table g v)) (number_in z) ≡ true) e2 c2 in
                    smaller (value_at find table g v) (value_at find table f v) (counted g ng y) (counted f n q) c3,
              ),
        )

    bound : (m : ℕ) (f : State) → Near f → (holds find table f p ≡ true → size f < m) → Bounded (Runs find table s) (Ends find table s) (λ x. holds find table x p) m f
    bound zero f n h = elim (cases (holds find table f p)) [ inl q ↦ let x = h q in absurd (omega arith) | inr q ↦ q ]
    bound (suc m) f n h = elim (cases (holds find table f p)) [
      | inl q ↦ let x = turn f n q in inr (x.0, λ g y. let z = x.1 g y in bound m g z.0 (λ q2. let lt1 = z.1 q2 in let lt2 = h q in omega arith))
      | inr q ↦ inl q
    ]

    after : (m : ℕ) (f g : State) → Near f → Turns (Runs find table s) (λ x. holds find table x p) m f g → Near g × (holds find table g p ≡ false)
    after zero f g n q = subst (λ x. Near x × (holds find table x p ≡ false)) (sym q.1) (n, q.0)
    after (suc m) f g n q = let x = turn f n q.0 in after m q.1.0 g (x.1 q.1.0 q.1.1).0 q.1.2

    pub loop-meets : IsTypedState table e → AllMeet find table (loop p s i v) r e
    loop-meets o =
        let start : Near e = record { typed = o; same = λ n h. refl; keeps = l.start } in (
          (suc (size e), bound (suc (size e)) e start (λ q. omega arith)),
          λ g q.
              let x = after q.0 e g start q.1 in
              let h = at-near (binary Imp (binary And i (unary Not p)) r) ((ci, cp), cr) l.leaves g x.0 in
              implies-then (holds find table g (binary And i (unary Not p))) (holds find table g r) h (meet (unary Not p) g x.0.keeps (ap not x.1)),
        )
