-- [S]R and <S>R say what the runs do.
use Rattle.std.proofs.Common.{◌≡◌, ◌↔◌, inl, inr, ℕ, List, refl, sym, ◌∙◌, ap, Bool, true, false, not, ◌&&◌}
use Rattle.bk_val.specs.Value.{MathValue}
use Rattle.bk_form.specs.Table.{Table}
use Rattle.bk_form.specs.Formula.{Formula, unary}
use Rattle.bk_form.specs.declared.operator.UnOp.TheVariants.{Not}
use Rattle.bk_form.specs.Search.{Finder}
use Rattle.bk_form.specs.Environment.{State}
use Rattle.bk_form.specs.Operators.{implies}
use Rattle.bk_form.specs.Replacement.{occurs}
use Rattle.bk_form.proofs.Truth.{and-true, and-left, and-right, not-true}
use Rattle.bk_gsl.specs.Substitution.{Substitution, skip, assign, pre, guard, choice, if_else, any, seq, par, assert, becomes_such, loop}
use Rattle.bk_gsl.specs.State.{holds, are_values_for, with_values, among, over, firsts}
use Rattle.bk_gsl.specs.Run.{assigned, with_old, Runs, Ends}
use Rattle.bk_gsl.specs.Typed.{Types}
use Rattle.bk_gsl.proofs.States.{cases, clash, or-false}
use Rattle.bk_wp.specs.Quantifiers.{all_of, some_of}
use Rattle.bk_wp.specs.Box.{all_new, some_new, box, diamond}
use Rattle.bk_wp.specs.Shapes.{HasNoLoop}
use Rattle.bk_wp.specs.Laws.{AllMeet, SomeMeets}
use Rattle.bk_wp.proofs.Steps.{implies-then, implies-if, implies-false, and-false, or-cases, holds-assign}
use Rattle.bk_gsl.proofs.Over.{holds-over}

-- it ends, and no result meets the formula
abbrev pub NoneMeets : Finder → Table → Substitution → Formula → State → Type 0
NoneMeets find table s r e = Ends find table s e × ((f : State) → Runs find table s e f → holds find table f r ≡ false)

module _ (find : Finder) (table : Table) where
  -- ---- what is asked of quantifiers and loops
  abbrev pub Misses : List ℕ → Formula → Type 0
  Misses zs r = (n : ℕ) → among zs n ≡ true → occurs n r ≡ false

  abbrev pub AllOfMeans : List ℕ → Formula → Type 0
  AllOfMeans zs f = (e : State) → (holds find table e (all_of table zs f) ≡ true) ↔ ((vs : List MathValue) → are_values_for table zs vs ≡ true → holds find table (with_values e zs vs) f ≡ true)

  abbrev pub SomeOfMeans : List ℕ → Formula → Type 0
  SomeOfMeans zs f = ((e : State) → holds find table e (some_of table zs f) ≡ true → (vs : List MathValue) × (are_values_for table zs vs ≡ true) × (holds find table (with_values e zs vs) f ≡ true)) × ((e : State) → holds find table e (some_of table zs f) ≡ false → (vs : List MathValue) → are_values_for table zs vs ≡ true → holds find table (with_values e zs vs) f ≡ false)

  abbrev NewMeets : State → List (ℕ × ℕ) → Formula → Formula → Bool → Type 0
  NewMeets e xs p r b = (vs : List MathValue) → are_values_for table (firsts xs) vs ≡ true → holds find table (with_old xs e vs) p ≡ true → holds find table (with_values e (firsts xs) vs) r ≡ b

  abbrev pub AllNewMeans : List (ℕ × ℕ) → Formula → Formula → Type 0
  AllNewMeans xs p r = (e : State) → (holds find table e (all_new table xs p r) ≡ true) ↔ NewMeets e xs p r true

  abbrev pub SomeNewMeans : List (ℕ × ℕ) → Formula → Formula → Type 0
  SomeNewMeans xs p r = ((e : State) → holds find table e (some_new table xs p r) ≡ true → (vs : List MathValue) × (are_values_for table (firsts xs) vs ≡ true) × (holds find table (with_old xs e vs) p ≡ true) × (holds find table (with_values e (firsts xs) vs) r ≡ true)) × ((e : State) → holds find table e (some_new table xs p r) ≡ false → NewMeets e xs p r false)

  module _ (Good : State → Type 0) where
    abbrev pub LoopMeans : Substitution → Formula → Type 0
    LoopMeans s r = (e : State) → Good e → holds find table e (box table s r) ≡ true → AllMeet find table s r e

    abbrev pub FineBox : Substitution → Formula → Type 0
    FineBox skip r = Unit {0}
    FineBox (assign ps) r = Unit {0}
    FineBox (pre p s) r = FineBox s r
    FineBox (guard p s) r = FineBox s r
    FineBox (choice s t) r = FineBox s r × FineBox t r
    FineBox (if_else p s t) r = FineBox s r × FineBox t r
    FineBox (any zs s) r = Misses zs r × AllOfMeans zs (box table s r) × FineBox s r
    FineBox (seq s t) r = FineBox t r × FineBox s (box table t r)
    FineBox (par s t) r = ⊥
    FineBox (assert p s) r = FineBox s r
    FineBox (becomes_such xs p) r = AllNewMeans xs p r
    FineBox (loop p s i v) r = LoopMeans (loop p s i v) r

    module _ (kept : (s : Substitution) → Types table s → (e f : State) → Good e → Runs find table s e f → Good f) (set : (e : State) (zs : List ℕ) (vs : List MathValue) → are_values_for table zs vs ≡ true → Good e → Good (with_values e zs vs)) where
      pub box-then : (s : Substitution) (r : Formula) → Types table s → FineBox s r → (e : State) → Good e → holds find table e (box table s r) ≡ true → AllMeet find table s r e
      box-then skip r w g e o h = (tt, λ f p. ap (λ x. holds find table x r) p ∙ h)
      box-then (assign ps) r w g e o h = (tt, λ f p. ap (λ x. holds find table x r) p ∙ sym (holds-assign find table ps w e r) ∙ h)
      box-then (pre p s) r w g e o h =
          let b = holds find table e (box table s r) in
          let k = box-then s r w.1 g e o (and-right (holds find table e p) b h) in
          ((and-left (holds find table e p) b h, k.0), k.1)
      box-then (guard p s) r w g e o h =
          let k = λ (q : holds find table e p ≡ true). box-then s r w.1 g e o (implies-then (holds find table e p) (holds find table e (box table s r)) h q) in
          ((λ q. (k q).0), (λ f q. (k q.0).1 f q.1))
      box-then (choice s t) r w g e o h =
          let k = box-then s r w.0 g.0 e o (and-left (holds find table e (box table s r)) (holds find table e (box table t r)) h) in
          let l = box-then t r w.1 g.1 e o (and-right (holds find table e (box table s r)) (holds find table e (box table t r)) h) in
          ((k.0, l.0), (λ f q. elim q [ inl x ↦ k.1 f x | inr x ↦ l.1 f x ]))
      box-then (if_else p s t) r w g e o h =
          let a = holds find table e p in
          let b = holds find table e (box table s r) in
          let d = holds find table e (box table t r) in
          let k = λ (q : a ≡ true). box-then s r w.1 g.0 e o (implies-then a b (and-left (implies a b) (implies (not a) d) h) q) in
          let l = λ (q : a ≡ false). box-then t r w.2 g.1 e o (implies-then (not a) d (and-right (implies a b) (implies (not a) d) h) (ap not q)) in
          (((λ q. (k q).0), (λ q. (l q).0)), (λ f q. elim q [ inl x ↦ (k x.0).1 f x.1 | inr x ↦ (l x.0).1 f x.1 ]))
      box-then (any zs s) r w g e o h =
          let k = λ (vs : List MathValue) (d : are_values_for table zs vs ≡ true). box-then s r w.1 g.2 (with_values e zs vs) (set e zs vs d o) ((g.1 e).0 h vs d) in
          ((λ vs d. (k vs d).0), (λ f q. ap (λ x. holds find table x r) q.2.2 ∙ holds-over find table (among zs) e q.2.0 r g.0 ∙ (k q.0 q.1).1 q.2.0 q.2.1))
      box-then (seq s t) r w g e o h =
          let k = box-then s (box table t r) w.0 g.1 e o h in
          let l = λ (x : State) (q : Runs find table s e x). box-then t r w.1 g.0 x (kept s w.0 e x o q) (k.1 x q) in
          ((k.0, (λ x q. (l x q).0)), (λ f q. (l q.0 q.1).1 f q.2))
      box-then (par s t) r w g e o h = absurd g
      box-then (assert p s) r w g e o h =
          let a = holds find table e p in
          let b = holds find table e (box table s r) in
          let q = and-left a (implies a b) h in
          let k = box-then s r w.1 g e o (implies-then a b (and-right a (implies a b) h) q) in
          ((q, k.0), k.1)
      box-then (becomes_such xs p) r w g e o h = (tt, λ f q. ap (λ x. holds find table x r) q.3 ∙ (g e).0 h q.0 q.1 q.2)
      box-then (loop p s i v) r w g e o h = g e o h

    pub box-if : (s : Substitution) (r : Formula) → HasNoLoop s → Types table s → FineBox s r → (e : State) → AllMeet find table s r e → holds find table e (box table s r) ≡ true
    box-if skip r y w g e m = m.1 e refl
    box-if (assign ps) r y w g e m = holds-assign find table ps w e r ∙ m.1 (assigned find table ps e) refl
    box-if (pre p s) r y w g e m = and-true (holds find table e p) (holds find table e (box table s r)) m.0.0 (box-if s r y w.1 g e (m.0.1, m.1))
    box-if (guard p s) r y w g e m = implies-if (holds find table e p) (holds find table e (box table s r)) (λ q. box-if s r y w.1 g e (m.0 q, λ f x. m.1 f (q, x)))
    box-if (choice s t) r y w g e m =
        and-true (holds find table e (box table s r)) (holds find table e (box table t r))
        (box-if s r y.0 w.0 g.0 e (m.0.0, λ f x. m.1 f (inl x)))
        (box-if t r y.1 w.1 g.1 e (m.0.1, λ f x. m.1 f (inr x)))
    box-if (if_else p s t) r y w g e m =
        let a = holds find table e p in
        let b = holds find table e (box table s r) in
        let d = holds find table e (box table t r) in
        and-true (implies a b) (implies (not a) d)
        (implies-if a b (λ q. box-if s r y.0 w.1 g.0 e (m.0.0 q, λ f x. m.1 f (inl (q, x)))))
        (implies-if (not a) d (λ q. let n = not-true a q in box-if t r y.1 w.2 g.1 e (m.0.1 n, λ f x. m.1 f (inr (n, x)))))
    box-if (any zs s) r y w g e m = (g.1 e).1 (λ vs d. box-if s r y w.1 g.2 (with_values e zs vs) (m.0 vs d, λ x q. sym (holds-over find table (among zs) e x r g.0) ∙ m.1 (over (among zs) e x) (vs, d, (x, q, refl))))
    box-if (seq s t) r y w g e m = box-if s (box table t r) y.0 w.0 g.1 e (m.0.0, λ x q. box-if t r y.1 w.1 g.0 x (m.0.1 x q, λ f z. m.1 f (x, q, z)))
    box-if (par s t) r y w g e m = absurd y
    box-if (assert p s) r y w g e m =
        let a = holds find table e p in
        let b = holds find table e (box table s r) in
        and-true a (implies a b) m.0.0 (implies-if a b (λ q. box-if s r y w.1 g e (m.0.1, m.1)))
    box-if (becomes_such xs p) r y w g e m = (g e).1 (λ vs o q. m.1 (with_values e (firsts xs) vs) (vs, o, q, refl))
    box-if (loop p s i v) r y w g e m = absurd y

  -- ---- the diamond
  abbrev pub FineDiamond : Substitution → Formula → Type 0
  FineDiamond skip r = Unit {0}
  FineDiamond (assign ps) r = Unit {0}
  FineDiamond (pre p s) r = FineDiamond s r
  FineDiamond (guard p s) r = FineDiamond s r
  FineDiamond (choice s t) r = FineDiamond s r × FineDiamond t r
  FineDiamond (if_else p s t) r = FineDiamond s r × FineDiamond t r
  FineDiamond (any zs s) r = Misses zs r × SomeOfMeans zs (diamond table s r) × FineDiamond s r
  FineDiamond (seq s t) r = FineDiamond t r × FineDiamond s (diamond table t r)
  FineDiamond (par s t) r = ⊥
  FineDiamond (assert p s) r = FineDiamond s r
  FineDiamond (becomes_such xs p) r = SomeNewMeans xs p r
  FineDiamond (loop p s i v) r = ⊥

  -- what <S>R says where it is false
  pub diamond-not : (s : Substitution) (r : Formula) → Types table s → FineDiamond s r → (e : State) → holds find table e (diamond table s r) ≡ false → NoneMeets find table s r e
  diamond-not skip r w g e h = (tt, λ f p. ap (λ x. holds find table x r) p ∙ h)
  diamond-not (assign ps) r w g e h = (tt, λ f p. ap (λ x. holds find table x r) p ∙ sym (holds-assign find table ps w e r) ∙ h)
  diamond-not (pre p s) r w g e h =
      let q = implies-false (holds find table e p) (holds find table e (diamond table s r)) h in
      let k = diamond-not s r w.1 g e q.1 in
      ((q.0, k.0), k.1)
  diamond-not (guard p s) r w g e h =
      let k = λ (q : holds find table e p ≡ true). diamond-not s r w.1 g e (and-false (holds find table e p) (holds find table e (diamond table s r)) h q) in
      ((λ q. (k q).0), (λ f q. (k q.0).1 f q.1))
  diamond-not (choice s t) r w g e h =
      let q = or-false (holds find table e (diamond table s r)) (holds find table e (diamond table t r)) h in
      let k = diamond-not s r w.0 g.0 e q.0 in
      let l = diamond-not t r w.1 g.1 e q.1 in
      ((k.0, l.0), (λ f q. elim q [ inl x ↦ k.1 f x | inr x ↦ l.1 f x ]))
  diamond-not (if_else p s t) r w g e h =
      let a = holds find table e p in
      let b = holds find table e (diamond table s r) in
      let d = holds find table e (diamond table t r) in
      let o = or-false (a && b) (not a && d) h in
      let k = λ (q : a ≡ true). diamond-not s r w.1 g.0 e (and-false a b o.0 q) in
      let l = λ (q : a ≡ false). diamond-not t r w.2 g.1 e (and-false (not a) d o.1 (ap not q)) in
      (((λ q. (k q).0), (λ q. (l q).0)), (λ f q. elim q [ inl x ↦ (k x.0).1 f x.1 | inr x ↦ (l x.0).1 f x.1 ]))
  diamond-not (any zs s) r w g e h =
      let k = λ (vs : List MathValue) (d : are_values_for table zs vs ≡ true). diamond-not s r w.1 g.2 (with_values e zs vs) (g.1.1 e h vs d) in
      ((λ vs d. (k vs d).0), (λ f q. ap (λ x. holds find table x r) q.2.2 ∙ holds-over find table (among zs) e q.2.0 r g.0 ∙ (k q.0 q.1).1 q.2.0 q.2.1))
  diamond-not (seq s t) r w g e h =
      let k = diamond-not s (diamond table t r) w.0 g.1 e h in
      let l = λ (x : State) (q : Runs find table s e x). diamond-not t r w.1 g.0 x (k.1 x q) in
      ((k.0, (λ x q. (l x q).0)), (λ f q. (l q.0 q.1).1 f q.2))
  diamond-not (par s t) r w g e h = absurd g
  diamond-not (assert p s) r w g e h =
      let a = holds find table e p in
      let b = holds find table e (diamond table s r) in
      let q = implies-false a (a && b) h in
      let k = diamond-not s r w.1 g e (and-false a b q.1 q.0) in
      ((q.0, k.0), k.1)
  diamond-not (becomes_such xs p) r w g e h = (tt, λ f q. ap (λ x. holds find table x r) q.3 ∙ g.1 e h q.0 q.1 q.2)
  diamond-not (loop p s i v) r w g e h = absurd g

  -- and where it is true
  diamond-then : (s : Substitution) (r : Formula) → Types table s → FineDiamond s r → (e : State) → holds find table e (diamond table s r) ≡ true → SomeMeets find table s r e
  diamond-then skip r w g e h = inr (e, refl, h)
  diamond-then (assign ps) r w g e h = inr (assigned find table ps e, refl, sym (holds-assign find table ps w e r) ∙ h)
  diamond-then (pre p s) r w g e h =
      elim (cases (holds find table e p)) [
        | inl q ↦ elim (diamond-then s r w.1 g e (implies-then (holds find table e p) (holds find table e (diamond table s r)) h q)) [ inl n ↦ inl (λ x. n x.1) | inr z ↦ inr z ]
        | inr q ↦ inl (λ x. clash (holds find table e p) x.0 q)
      ]
  diamond-then (guard p s) r w g e h =
      let q = and-left (holds find table e p) (holds find table e (diamond table s r)) h in
      elim (diamond-then s r w.1 g e (and-right (holds find table e p) (holds find table e (diamond table s r)) h)) [ inl n ↦ inl (λ x. n (x q)) | inr z ↦ inr (z.0, (q, z.1), z.2) ]
  diamond-then (choice s t) r w g e h =
      elim (or-cases (holds find table e (diamond table s r)) (holds find table e (diamond table t r)) h) [
        | inl q ↦ elim (diamond-then s r w.0 g.0 e q) [ inl n ↦ inl (λ x. n x.0) | inr z ↦ inr (z.0, inl z.1, z.2) ]
        | inr q ↦ elim (diamond-then t r w.1 g.1 e q) [ inl n ↦ inl (λ x. n x.1) | inr z ↦ inr (z.0, inr z.1, z.2) ]
      ]
  diamond-then (if_else p s t) r w g e h =
      let a = holds find table e p in
      let b = holds find table e (diamond table s r) in
      let d = holds find table e (diamond table t r) in
      elim (or-cases (a && b) (not a && d) h) [
        | inl q ↦ elim (diamond-then s r w.1 g.0 e (and-right a b q)) [ inl n ↦ inl (λ x. n (x.0 (and-left a b q))) | inr z ↦ inr (z.0, inl (and-left a b q, z.1), z.2) ]
        | inr q ↦ elim (diamond-then t r w.2 g.1 e (and-right (not a) d q)) [ inl n ↦ inl (λ x. n (x.1 (not-true a (and-left (not a) d q)))) | inr z ↦ inr (z.0, inr (not-true a (and-left (not a) d q), z.1), z.2) ]
      ]
  diamond-then (any zs s) r w g e h =
      let x = g.1.0 e h in
      elim (diamond-then s r w.1 g.2 (with_values e zs x.0) x.2) [
        | inl n ↦ inl (λ z. n (z x.0 x.1))
        | inr z ↦ inr (over (among zs) e z.0, (x.0, x.1, (z.0, z.1, refl)), holds-over find table (among zs) e z.0 r g.0 ∙ z.2)
      ]
  diamond-then (seq s t) r w g e h =
      elim (diamond-then s (diamond table t r) w.0 g.1 e h) [
        | inl n ↦ inl (λ x. n x.0)
        | inr z ↦ elim (diamond-then t r w.1 g.0 z.0 z.2) [ inl n ↦ inl (λ x. n (x.1 z.0 z.1)) | inr x ↦ inr (x.0, (z.0, z.1, x.1), x.2) ]
      ]
  diamond-then (par s t) r w g e h = absurd g
  diamond-then (assert p s) r w g e h =
      let a = holds find table e p in
      let b = holds find table e (diamond table s r) in
      elim (cases a) [
        | inl q ↦ elim (diamond-then s r w.1 g e (and-right a b (implies-then a (a && b) h q))) [ inl n ↦ inl (λ x. n x.1) | inr z ↦ inr z ]
        | inr q ↦ inl (λ x. clash a x.0 q)
      ]
  diamond-then (becomes_such xs p) r w g e h =
      let x = g.0 e h in
      inr (with_values e (firsts xs) x.0, (x.0, x.1, x.2, refl), x.3)
  diamond-then (loop p s i v) r w g e h = absurd g

  pub diamond-exact : (s : Substitution) (r : Formula) → Types table s → FineDiamond s r → (e : State) → (holds find table e (diamond table s r) ≡ true) ↔ SomeMeets find table s r e
  diamond-exact s r w g e = (diamond-then s r w g e, back)
    where
      back : SomeMeets find table s r e → holds find table e (diamond table s r) ≡ true
      back m = elim (cases (holds find table e (diamond table s r))) [
        | inl q ↦ q
        | inr q ↦ let n = diamond-not s r w g e q in elim m [ inl x ↦ absurd (x n.0) | inr z ↦ clash (holds find table z.0 r) z.2 (n.1 z.0 z.1) ]
      ]

  -- <S>R is not [S] not R, where both say what the runs do
  pub conjugate : (s : Substitution) (r : Formula) → Types table s → FineDiamond s r → (e : State) → (holds find table e (box table s (unary Not r)) ≡ true) ↔ AllMeet find table s (unary Not r) e → holds find table e (diamond table s r) ≡ not (holds find table e (box table s (unary Not r)))
  conjugate s r w g e m = by_truths (holds find table e (diamond table s r)) (holds find table e (box table s (unary Not r))) both_true some_true
    where
      by_truths : (a b : Bool) → (a ≡ true → b ≡ true → ⊥) → (a ≡ false → b ≡ true) → a ≡ not b
      by_truths true true f h = absurd (f refl refl)
      by_truths true false f h = refl
      by_truths false b f h = sym (ap not (h refl))

      both_true : holds find table e (diamond table s r) ≡ true → holds find table e (box table s (unary Not r)) ≡ true → ⊥
      both_true h k =
          let all = m.0 k in
          elim (diamond-then s r w g e h) [ inl n ↦ n all.0 | inr z ↦ clash (holds find table z.0 r) z.2 (not-true (holds find table z.0 r) (all.1 z.0 z.1)) ]

      some_true : holds find table e (diamond table s r) ≡ false → holds find table e (box table s (unary Not r)) ≡ true
      some_true h = let n = diamond-not s r w g e h in m.1 (n.0, λ f q. ap not (n.1 f q))
