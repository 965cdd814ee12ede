-- Substitutions with loops.
use Rattle.std.proofs.Common.{◌≡◌, inl, inr, ℕ, List, [], ◌∷◌, subst, Bool, true, false, ◌||◌, cond, nat_eq}
use Rattle.bk_val.specs.Value.{MathValue}
use Rattle.bk_val.specs.ValueType.{int_type}
use Rattle.bk_form.specs.Table.{Table, IsWellFormed}
use Rattle.bk_form.specs.Formula.{Formula, variable, binary}
use Rattle.bk_form.specs.declared.operator.BinOp.TheVariants.{Lt}
use Rattle.bk_form.specs.Search.{Finder, IsSearch}
use Rattle.bk_form.specs.Environment.{State, IsTypedState}
use Rattle.bk_form.specs.Replacement.{occurs, IsClosed, looked_up}
use Rattle.bk_form.proofs.Members.{or-left, or-right}
use Rattle.bk_gsl.specs.Substitution.{Substitution, skip, assign, pre, guard, choice, if_else, any, seq, par, assert, becomes_such, loop}
use Rattle.bk_gsl.specs.State.{holds, are_values_for, with_values, among}
use Rattle.bk_gsl.specs.Reads.{read}
use Rattle.bk_gsl.specs.Run.{Runs}
use Rattle.bk_gsl.specs.Typed.{IsListed, Types}
use Rattle.bk_gsl.proofs.States.{cases, clash, nat_eq-same, nat_eq-self, with_values-typed}
use Rattle.bk_gsl.proofs.Listed.{among-listed, writes-listed}
use Rattle.bk_gsl.proofs.Runs.{run-typed}
use Rattle.bk_wp.specs.Box.{variant_before, box}
use Rattle.bk_gsl.specs.Flat.{IsFlat}
use Rattle.bk_gsl.specs.Apart.{AreApart, LocalsAreApart}
use Rattle.bk_wp.specs.Laws.{AllMeet}
use Rattle.bk_form.proofs.Closed.{predicate-closed, term-closed, closed-replaced}
use Rattle.bk_wp.proofs.Steps.{or-cases}
use Rattle.bk_wp.proofs.Quantified.{all_of-true, all_new-true}
use Rattle.bk_wp.proofs.Binders.{ReadLater, box-closed, box-later, misses}
use Rattle.bk_wp.proofs.Exact.{FineBox, box-then}
use Rattle.bk_wp.proofs.Loops.{new-unlisted, loop-of, loop-meets}

-- ---- only what is listed can be a local
module _ (table : Table) where
  apart-where-listed : (s : Substitution) (a b : ℕ → Bool) → ((n : ℕ) → IsListed table n → b n ≡ true → a n ≡ true) → Types table s → AreApart a s → AreApart b s
  apart-where-listed skip a b h w x = tt
  apart-where-listed (assign ps) a b h w x = tt
  apart-where-listed (pre p s) a b h w x = apart-where-listed s a b h w.1 x
  apart-where-listed (guard p s) a b h w x = apart-where-listed s a b h w.1 x
  apart-where-listed (choice s t) a b h w x = (apart-where-listed s a b h w.0 x.0, apart-where-listed t a b h w.1 x.1)
  apart-where-listed (if_else p s t) a b h w x = (apart-where-listed s a b h w.1 x.0, apart-where-listed t a b h w.2 x.1)
  apart-where-listed (any zs s) a b h w x = ((λ n k. elim (cases (b n)) [ inl q ↦ clash (a n) (h n (among-listed table zs w.0 n k) q) (x.0 n k) | inr q ↦ q ]), apart-where-listed s a b h w.1 x.1)
  apart-where-listed (seq s t) a b h w x = (
    apart-where-listed s (λ n. a n || among (read t) n) (λ n. b n || among (read t) n) (λ n l k. elim (or-cases (b n) (among (read t) n) k) [ inl q ↦ or-left (a n) (among (read t) n) (h n l q) | inr q ↦ or-right (a n) (among (read t) n) q ]) w.0 x.0,
    apart-where-listed t a b h w.1 x.1,
  )
  apart-where-listed (par s t) a b h w x = (apart-where-listed s a b h w.0 x.0, apart-where-listed t a b h w.1 x.1)
  apart-where-listed (assert p s) a b h w x = apart-where-listed s a b h w.1 x
  apart-where-listed (becomes_such xs p) a b h w x = tt
  apart-where-listed (loop p s i v) a b h w x = x

module _ (find : Finder) (law : IsSearch find) (table : Table) (facts : IsWellFormed table) where
  kept : (s : Substitution) → Types table s → (e f : State) → IsTypedState table e → Runs find table s e f → IsTypedState table f
  kept s w e f o q = run-typed find table facts s w e f o q

  set : (e : State) (zs : List ℕ) (vs : List MathValue) → are_values_for table zs vs ≡ true → IsTypedState table e → IsTypedState table (with_values e zs vs)
  set e zs vs o h = with_values-typed table e h zs vs o

  variant-closed : (v : Formula) → IsClosed 0 v → (n : ℕ) → IsClosed 0 (looked_up ((variant_before table, v) ∷ []) n)
  variant-closed v c n = elim (nat_eq n (variant_before table)) as (λ b. IsClosed 0 (cond b v (variable n))) [ true ↦ c | false ↦ tt ]

  fine-box : (later : ℕ → Bool) (s : Substitution) (r : Formula) → IsFlat s → Types table s → AreApart later s → ReadLater later r → IsClosed 0 r → FineBox find table (IsTypedState table) s r
  fine-box later skip r y w a l c = tt
  fine-box later (assign ps) r y w a l c = tt
  fine-box later (pre p s) r y w a l c = fine-box later s r y w.1 a l c
  fine-box later (guard p s) r y w a l c = fine-box later s r y w.1 a l c
  fine-box later (choice s t) r y w a l c = (fine-box later s r y.0 w.0 a.0 l c, fine-box later t r y.1 w.1 a.1 l c)
  fine-box later (if_else p s t) r y w a l c = (fine-box later s r y.0 w.1 a.0 l c, fine-box later t r y.1 w.2 a.1 l c)
  fine-box later (any zs s) r y w a l c = (misses find table later zs r l a.0, (λ e. all_of-true find law table facts e zs (box table s r) (box-closed table s r w.1 c) w.0), fine-box later s r y w.1 a.1 l c)
  fine-box later (seq s t) r y w a l c = (fine-box later t r y.1 w.1 a.1 l c, fine-box (λ n. later n || among (read t) n) s (box table t r) y.0 w.0 a.0 (box-later table later t r l) (box-closed table t r w.1 c))
  fine-box later (par s t) r y w a l c = absurd y
  fine-box later (assert p s) r y w a l c = fine-box later s r y w.1 a l c
  fine-box later (becomes_such xs p) r y w a l c = λ e. all_new-true find law table facts e xs p r w.0 (predicate-closed table p w.1) c
  fine-box later (loop p s i v) r y w a l c =
      let new = variant_before table in
      let less = binary Lt v (variable new) in
      let ci = predicate-closed table i w.2 in
      let cv = term-closed table int_type v w.3 in
      let read_i : ReadLater (λ n. occurs n i || occurs n v) i = λ n h. or-left (occurs n i) (occurs n v) h in
      let read_less : ReadLater (λ n. (occurs n i || occurs n v) || nat_eq new n) less = λ n h. elim (or-cases (occurs n v) (nat_eq new n) h) [ inl q ↦ or-left (occurs n i || occurs n v) (nat_eq new n) (or-right (occurs n i) (occurs n v) q) | inr q ↦ or-right (occurs n i || occurs n v) (nat_eq new n) q ] in
      let more : AreApart (λ n. (occurs n i || occurs n v) || nat_eq new n) s = apart-where-listed table s (λ n. occurs n i || occurs n v) (λ n. (occurs n i || occurs n v) || nat_eq new n) (λ n k h. elim (or-cases (occurs n i || occurs n v) (nat_eq new n) h) [ inl q ↦ q | inr q ↦ absurd (new-unlisted table n (subst (λ x. nat_eq x new ≡ true) (nat_eq-same new n q) (nat_eq-self new)) k) ]) w.1 a in
      let one = box-then find table (IsTypedState table) kept set s i w.1 (fine-box (λ n. occurs n i || occurs n v) s i y w.1 a read_i ci) in
      let two = box-then find table (IsTypedState table) kept set s less w.1 (fine-box (λ n. (occurs n i || occurs n v) || nat_eq new n) s less y w.1 more read_less (cv, tt)) in
      let listed = writes-listed table s w.1 in
      λ e o h.
      loop-meets find law table facts p s i v r w.0 w.1 w.2 w.3 c listed one two
      (box-closed table s i w.1 ci)
      (closed-replaced (looked_up ((new, v) ∷ [])) (variant-closed v cv) 0 (box table s less) (box-closed table s less w.1 (cv, tt)))
      e (loop-of find law table facts p s i v r w.0 w.1 w.2 w.3 c listed e h) o

-- of a formula that reads only what may be read later
pub sound-later : (find : Finder) → IsSearch find → (table : Table) → IsWellFormed table → (later : ℕ → Bool) (s : Substitution) (r : Formula) → IsFlat s → Types table s → AreApart later s → ReadLater later r → IsClosed 0 r → (e : State) → IsTypedState table e → holds find table e (box table s r) ≡ true → AllMeet find table s r e
sound-later find law table facts later s r y w a l c e o h = box-then find table (IsTypedState table) (kept find law table facts) (set find law table facts) s r w (fine-box find law table facts later s r y w a l c) e o h

pub box-is-sound : (find : Finder) → IsSearch find → (table : Table) → IsWellFormed table → (s : Substitution) → IsFlat s →
    Types table s → (r : Formula) → IsClosed 0 r → LocalsAreApart s r → (e : State) → IsTypedState table e →
    holds find table e (box table s r) ≡ true → AllMeet find table s r e
box-is-sound find law table facts s y w r t a e o h = sound-later find law table facts (λ n. occurs n r) s r y w a (λ n q. q) t e o h
