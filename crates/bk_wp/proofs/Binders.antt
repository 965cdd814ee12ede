-- Substitutions with locals and x :(P).
use Rattle.std.proofs.Common.{ap, ◌≡◌, ◌↔◌, not, inl, inr, ℕ, List, [], ◌∷◌, Bool, true, false, ◌||◌, cond, nat_eq}
use Rattle.bk_form.specs.Table.{Table, IsWellFormed}
use Rattle.bk_form.specs.Formula.{Formula, variable, unary, binary, named}
use Rattle.bk_form.specs.declared.operator.UnOp.TheVariants.{Not}
use Rattle.bk_form.specs.declared.operator.BinOp.TheVariants.{And, Imp, Lt, In}
use Rattle.bk_form.specs.declared.operator.Domain.TheVariants.{Natural}
use Rattle.bk_form.specs.Role.{unary_role}
use Rattle.bk_form.specs.Search.{Finder, IsSearch}
use Rattle.bk_form.specs.Predicates.{IsPredicate}
use Rattle.bk_form.specs.Environment.{State}
use Rattle.bk_form.specs.Replacement.{replaced, occurs, IsClosed, looked_up}
use Rattle.bk_val.specs.ValueType.{int_type}
use Rattle.bk_form.proofs.Members.{or-left, or-right}
use Rattle.bk_gsl.specs.Substitution.{Substitution, skip, assign, pre, guard, choice, if_else, any, seq, par, assert, becomes_such, loop}
use Rattle.bk_gsl.specs.State.{holds, among}
use Rattle.bk_gsl.specs.Reads.{read}
use Rattle.bk_gsl.specs.Writes.{writes}
use Rattle.bk_gsl.specs.Typed.{Types}
use Rattle.bk_gsl.proofs.States.{cases, clash}
use Rattle.bk_wp.specs.Box.{variant_before, box, diamond}
use Rattle.bk_wp.specs.Shapes.{HasNoLoop}
use Rattle.bk_gsl.specs.Apart.{AreApart, LocalsAreApart}
use Rattle.bk_wp.specs.Laws.{AllMeet, SomeMeets}
use Rattle.bk_form.proofs.Closed.{predicate-closed, term-closed, closed-replaced}
use Rattle.bk_wp.proofs.Steps.{terms-closed}
use Rattle.bk_wp.proofs.Quantified.{closed-all, closed-written, closed-some, closed-all-new, closed-some-new, all_of-true, some_of-true, some_of-false, all_new-true, some_new-true, some_new-false}
use Rattle.bk_wp.proofs.Reading.{box-reads, diamond-reads}
use Rattle.bk_wp.proofs.Exact.{FineBox, FineDiamond, Misses, box-then, box-if, diamond-exact, conjugate}

module _ (table : Table) where
  pub box-closed : (s : Substitution) (r : Formula) → Types table s → IsClosed 0 r → IsClosed 0 (box table s r)
  box-closed skip r w c = c
  box-closed (assign ps) r w c = closed-replaced (looked_up ps) (terms-closed table ps w) 0 r c
  box-closed (pre p s) r w c = (predicate-closed table p w.0, box-closed s r w.1 c)
  box-closed (guard p s) r w c = (predicate-closed table p w.0, box-closed s r w.1 c)
  box-closed (choice s t) r w c = (box-closed s r w.0 c, box-closed t r w.1 c)
  box-closed (if_else p s t) r w c = ((predicate-closed table p w.0, box-closed s r w.1 c), (predicate-closed table p w.0, box-closed t r w.2 c))
  box-closed (any zs s) r w c = closed-all table zs (box table s r) (box-closed s r w.1 c)
  box-closed (seq s t) r w c = box-closed s (box table t r) w.0 (box-closed t r w.1 c)
  box-closed (par s t) r w c = tt
  box-closed (assert p s) r w c = (predicate-closed table p w.0, (predicate-closed table p w.0, box-closed s r w.1 c))
  box-closed (becomes_such xs p) r w c = closed-all-new table xs p r (predicate-closed table p w.1) c
  box-closed (loop p s i v) r w c =
      let xs = writes s in
      let k = variant_before table in
      let m = binary And i p in
      let less = binary Lt v (variable k) in
      let cp = predicate-closed table p w.0 in
      let ci = predicate-closed table i w.2 in
      let cv = term-closed table int_type v w.3 in (
        (
          (
            (ci, closed-written table xs (binary Imp m (box table s i)) ((ci, cp), box-closed s i w.1 ci)),
            closed-written table xs (binary Imp m (binary In v (named Natural))) ((ci, cp), (cv, tt)),
          ),
          closed-written table xs (binary Imp m (replaced (looked_up ((k, v) ∷ [])) (box table s less))) ((ci, cp), closed-replaced (looked_up ((k, v) ∷ [])) (variant-closed k v cv) 0 (box table s less) (box-closed s less w.1 (cv, tt))),
        ),
        closed-written table xs (binary Imp (binary And i (unary Not p)) r) ((ci, cp), c),
      )
    where
      variant-closed : (k : ℕ) (v : Formula) → IsClosed 0 v → (n : ℕ) → IsClosed 0 (looked_up ((k, v) ∷ []) n)
      variant-closed k v c n = elim (nat_eq n k) as (λ b. IsClosed 0 (cond b v (variable n))) [ true ↦ c | false ↦ tt ]

  pub diamond-closed : (s : Substitution) (r : Formula) → Types table s → IsClosed 0 r → IsClosed 0 (diamond table s r)
  diamond-closed skip r w c = c
  diamond-closed (assign ps) r w c = closed-replaced (looked_up ps) (terms-closed table ps w) 0 r c
  diamond-closed (pre p s) r w c = (predicate-closed table p w.0, diamond-closed s r w.1 c)
  diamond-closed (guard p s) r w c = (predicate-closed table p w.0, diamond-closed s r w.1 c)
  diamond-closed (choice s t) r w c = (diamond-closed s r w.0 c, diamond-closed t r w.1 c)
  diamond-closed (if_else p s t) r w c = ((predicate-closed table p w.0, diamond-closed s r w.1 c), (predicate-closed table p w.0, diamond-closed t r w.2 c))
  diamond-closed (any zs s) r w c = closed-some table zs (diamond table s r) (diamond-closed s r w.1 c)
  diamond-closed (seq s t) r w c = diamond-closed s (diamond table t r) w.0 (diamond-closed t r w.1 c)
  diamond-closed (par s t) r w c = tt
  diamond-closed (assert p s) r w c = (predicate-closed table p w.0, (predicate-closed table p w.0, diamond-closed s r w.1 c))
  diamond-closed (becomes_such xs p) r w c = closed-some-new table xs p r (predicate-closed table p w.1) c
  diamond-closed (loop p s i v) r w c = tt

-- the formula's variables are read later
abbrev pub ReadLater : (ℕ → Bool) → Formula → Type 0
ReadLater later r = (n : ℕ) → occurs n r ≡ true → later n ≡ true

pub misses : (find : Finder) (table : Table) (later : ℕ → Bool) (zs : List ℕ) (r : Formula) → ReadLater later r → ((n : ℕ) → among zs n ≡ true → later n ≡ false) → Misses find table zs r
misses find table later zs r l a n h = elim (cases (occurs n r)) [ inl q ↦ clash (later n) (l n q) (a n h) | inr q ↦ q ]

pub box-later : (table : Table) (later : ℕ → Bool) (t : Substitution) (r : Formula) → ReadLater later r → ReadLater (λ n. later n || among (read t) n) (box table t r)
box-later table later t r l n h = elim (box-reads table t r n h) [ inl q ↦ or-left (later n) (among (read t) n) (l n q) | inr q ↦ or-right (later n) (among (read t) n) q ]

diamond-later : (table : Table) (later : ℕ → Bool) (t : Substitution) (r : Formula) → ReadLater later r → ReadLater (λ n. later n || among (read t) n) (diamond table t r)
diamond-later table later t r l n h = elim (diamond-reads table t r n h) [ inl q ↦ or-left (later n) (among (read t) n) (l n q) | inr q ↦ or-right (later n) (among (read t) n) q ]

abbrev Everywhere : State → Type 0
Everywhere e = Unit {0}

module _ (find : Finder) (law : IsSearch find) (table : Table) (facts : IsWellFormed table) where
  fine-box : (later : ℕ → Bool) (s : Substitution) (r : Formula) → HasNoLoop s → Types table s → AreApart later s → ReadLater later r → IsClosed 0 r → FineBox find table Everywhere s r
  fine-box later skip r y w a l c = tt
  fine-box later (assign ps) r y w a l c = tt
  fine-box later (pre p s) r y w a l c = fine-box later s r y w.1 a l c
  fine-box later (guard p s) r y w a l c = fine-box later s r y w.1 a l c
  fine-box later (choice s t) r y w a l c = (fine-box later s r y.0 w.0 a.0 l c, fine-box later t r y.1 w.1 a.1 l c)
  fine-box later (if_else p s t) r y w a l c = (fine-box later s r y.0 w.1 a.0 l c, fine-box later t r y.1 w.2 a.1 l c)
  fine-box later (any zs s) r y w a l c = (misses find table later zs r l a.0, (λ e. all_of-true find law table facts e zs (box table s r) (box-closed table s r w.1 c) w.0), fine-box later s r y w.1 a.1 l c)
  fine-box later (seq s t) r y w a l c = (fine-box later t r y.1 w.1 a.1 l c, fine-box (λ n. later n || among (read t) n) s (box table t r) y.0 w.0 a.0 (box-later table later t r l) (box-closed table t r w.1 c))
  fine-box later (par s t) r y w a l c = absurd y
  fine-box later (assert p s) r y w a l c = fine-box later s r y w.1 a l c
  fine-box later (becomes_such xs p) r y w a l c = λ e. all_new-true find law table facts e xs p r w.0 (predicate-closed table p w.1) c
  fine-box later (loop p s i v) r y w a l c = absurd y

  fine-diamond : (later : ℕ → Bool) (s : Substitution) (r : Formula) → HasNoLoop s → Types table s → AreApart later s → ReadLater later r → IsClosed 0 r → FineDiamond find table s r
  fine-diamond later skip r y w a l c = tt
  fine-diamond later (assign ps) r y w a l c = tt
  fine-diamond later (pre p s) r y w a l c = fine-diamond later s r y w.1 a l c
  fine-diamond later (guard p s) r y w a l c = fine-diamond later s r y w.1 a l c
  fine-diamond later (choice s t) r y w a l c = (fine-diamond later s r y.0 w.0 a.0 l c, fine-diamond later t r y.1 w.1 a.1 l c)
  fine-diamond later (if_else p s t) r y w a l c = (fine-diamond later s r y.0 w.1 a.0 l c, fine-diamond later t r y.1 w.2 a.1 l c)
  fine-diamond later (any zs s) r y w a l c =
      let d = diamond-closed table s r w.1 c in
      (misses find table later zs r l a.0, ((λ e. some_of-true find law table facts e zs (diamond table s r) d w.0), λ e. some_of-false find law table facts e zs (diamond table s r) d w.0), fine-diamond later s r y w.1 a.1 l c)
  fine-diamond later (seq s t) r y w a l c = (fine-diamond later t r y.1 w.1 a.1 l c, fine-diamond (λ n. later n || among (read t) n) s (diamond table t r) y.0 w.0 a.0 (diamond-later table later t r l) (diamond-closed table t r w.1 c))
  fine-diamond later (par s t) r y w a l c = absurd y
  fine-diamond later (assert p s) r y w a l c = fine-diamond later s r y w.1 a l c
  fine-diamond later (becomes_such xs p) r y w a l c =
      let d = predicate-closed table p w.1 in
      ((λ e. some_new-true find law table facts e xs p r w.0 d c), λ e. some_new-false find law table facts e xs p r w.0 d c)
  fine-diamond later (loop p s i v) r y w a l c = absurd y

pub box-means : (find : Finder) → IsSearch find → (table : Table) → IsWellFormed table → (s : Substitution) → HasNoLoop s →
    Types table s → (r : Formula) → IsPredicate table r → LocalsAreApart s r → (e : State) →
    (holds find table e (box table s r) ≡ true) ↔ AllMeet find table s r e
box-means find law table facts s y w r t a e =
    let g = fine-box find law table facts (λ n. occurs n r) s r y w a (λ n h. h) (predicate-closed table r t) in (
      (λ h. box-then find table Everywhere (λ s w e f o q. tt) (λ e zs vs o q. tt) s r w g e tt h),
      (λ m. box-if find table Everywhere s r y w g e m),
    )

pub diamond-means : (find : Finder) → IsSearch find → (table : Table) → IsWellFormed table → (s : Substitution) → HasNoLoop s →
    Types table s → (r : Formula) → IsPredicate table r → LocalsAreApart s r → (e : State) →
    (holds find table e (diamond table s r) ≡ true) ↔ SomeMeets find table s r e
diamond-means find law table facts s y w r t a e = diamond-exact find table s r w (fine-diamond find law table facts (λ n. occurs n r) s r y w a (λ n h. h) (predicate-closed table r t)) e

pub diamond-is-conjugate : (find : Finder) → IsSearch find → (table : Table) → IsWellFormed table → (s : Substitution) → HasNoLoop s →
    Types table s → (r : Formula) → IsPredicate table r → LocalsAreApart s r → (e : State) →
    holds find table e (diamond table s r) ≡ not (holds find table e (box table s (unary Not r)))
diamond-is-conjugate find law table facts s y w r t a e =
    conjugate find table s r w (fine-diamond find law table facts (λ n. occurs n r) s r y w a (λ n h. h) (predicate-closed table r t)) e (box-means find law table facts s y w (unary Not r) (ap (unary_role Not) t) a e)
