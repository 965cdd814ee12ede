-- What a run leaves alone, and the types of the variables after it.
use Rattle.std.proofs.Common.{◌≡◌, inl, inr, ℕ, zero, suc, List, [], ◌∷◌, refl, sym, ◌∙◌, ap, subst, Bool, true, false, cond, nat_eq}
use Rattle.std.specs.Prelude.{Some}
use Rattle.bk_val.specs.ValueType.{ValueType, is_value_of}
use Rattle.bk_form.specs.Table.{Table, set_size, variable_type, IsWellFormed}
use Rattle.bk_form.specs.Formula.{Formula, variable}
use Rattle.bk_form.specs.Search.{Finder}
use Rattle.bk_form.specs.Environment.{State, at_state, IsTypedState}
use Rattle.bk_form.proofs.Valued.{typed-value, state-typed}
use Rattle.bk_form.specs.Replacement.{looked_up}
use Rattle.bk_gsl.specs.Substitution.{Substitution, skip, assign, pre, guard, choice, if_else, any, seq, par, assert, becomes_such, loop}
use Rattle.bk_gsl.specs.State.{holds, value_at, with_values, among, firsts}
use Rattle.bk_gsl.specs.Writes.{written, writes}
use Rattle.bk_gsl.specs.Run.{Turns, Runs}
use Rattle.bk_gsl.specs.Typed.{AreTypedTerms, Types}
use Rattle.bk_gsl.proofs.States.{cases, or-false, nat_eq-same, over-at, over-off, with_values-out, with_values-typed, over-typed, among-both, among-without, among-in_order}

pub looked_up-out : (ps : List (ℕ × Formula)) (n : ℕ) → among (firsts ps) n ≡ false → looked_up ps n ≡ variable n
looked_up-out [] n h = refl
looked_up-out (p ∷ ps) n h = let k = or-false (nat_eq n p.0) (among (firsts ps) n) h in ap (λ b. cond b p.1 (looked_up ps n)) k.0 ∙ looked_up-out ps n k.1

module _ (find : Finder) (table : Table) where
  turns-outside : (run : State → State → Type 0) (test : State → Bool) (n : ℕ) → ((e f : State) → run e f → f n ≡ e n) → (k : ℕ) (e f : State) → Turns run test k e f → f n ≡ e n
  turns-outside run test n h zero e f q = ap (λ x. x n) q.1
  turns-outside run test n h (suc k) e f q = turns-outside run test n h k q.1.0 f q.1.2 ∙ h e q.1.0 q.1.1

  -- outside what it writes a run changes nothing
  pub outside : (s : Substitution) (e f : State) → Runs find table s e f → (n : ℕ) → among (written s) n ≡ false → f n ≡ e n
  outside skip e f q n h = ap (λ x. x n) q
  outside (assign ps) e f q n h = ap (λ x. x n) q ∙ ap (value_at find table e) (looked_up-out ps n h)
  outside (pre p s) e f q n h = outside s e f q n h
  outside (guard p s) e f q n h = outside s e f q.1 n h
  outside (choice s t) e f q n h = let k = among-both (written s) (written t) n h in elim q [ inl x ↦ outside s e f x n k.0 | inr x ↦ outside t e f x n k.1 ]
  outside (if_else p s t) e f q n h = let k = among-both (written s) (written t) n h in elim q [ inl x ↦ outside s e f x.1 n k.0 | inr x ↦ outside t e f x.1 n k.1 ]
  outside (any zs s) e f q n h = ap (λ x. x n) q.2.2 ∙ elim (cases (among zs n)) [
    | inl k ↦ over-at (among zs) e q.2.0 n k
    | inr k ↦ over-off (among zs) e q.2.0 n k ∙ outside s (with_values e zs q.0) q.2.0 q.2.1 n (among-without zs (written s) n h k) ∙ with_values-out e zs q.0 n k
  ]
  outside (seq s t) e f q n h = let k = among-both (written s) (written t) n h in outside t q.0 f q.2 n k.1 ∙ outside s e q.0 q.1 n k.0
  outside (par s t) e f q n h = let k = among-both (written s) (written t) n h in ap (λ x. x n) q.4 ∙ over-off (among (written s)) q.0 q.1 n k.0 ∙ outside t e q.1 q.3 n k.1
  outside (assert p s) e f q n h = outside s e f q n h
  outside (becomes_such xs p) e f q n h = ap (λ x. x n) q.3 ∙ with_values-out e (firsts xs) q.0 n h
  outside (loop p s i v) e f q n h = turns-outside (Runs find table s) (λ x. holds find table x p) n (λ x y r. outside s x y r n h) q.0 e f q.1

  pub changes-only : (s : Substitution) (e f : State) → Runs find table s e f → (n : ℕ) → among (writes s) n ≡ false → f n ≡ e n
  changes-only s e f q n h = outside s e f q n (sym (among-in_order (written s) n) ∙ h)

  -- ---- types
  module _ (facts : IsWellFormed table) where
    term-typed : (ps : List (ℕ × Formula)) → AreTypedTerms table ps → (e : State) → IsTypedState table e → (n : ℕ) (t : ValueType) → variable_type table n ≡ Some t → is_value_of (set_size table) t (value_at find table e (looked_up ps n)) ≡ true
    term-typed [] w e h n t q = h.typed n t q
    term-typed (p ∷ ps) w e h n t q = by_test (term-typed ps w.1 e h n t q) (nat_eq n p.0) refl
      where
        by_test : is_value_of (set_size table) t (value_at find table e (looked_up ps n)) ≡ true → (b : Bool) → nat_eq n p.0 ≡ b → is_value_of (set_size table) t (value_at find table e (cond b p.1 (looked_up ps n))) ≡ true
        by_test on true r =
            let same : Some t ≡ Some w.0.0 = sym q ∙ ap (variable_type table) (nat_eq-same n p.0 r) ∙ w.0.1 in
            let one : t ≡ w.0.0 = cc same in
            subst (λ x. is_value_of (set_size table) x (value_at find table e p.1) ≡ true) (sym one) (typed-value find (at_state table e) facts (state-typed table e h) p.1 w.0.0 w.0.2)
        by_test on false r = on

    turns-typed : (run : State → State → Type 0) (test : State → Bool) → ((e f : State) → IsTypedState table e → run e f → IsTypedState table f) → (k : ℕ) (e f : State) → IsTypedState table e → Turns run test k e f → IsTypedState table f
    turns-typed run test h zero e f c q = subst (IsTypedState table) (sym q.1) c
    turns-typed run test h (suc k) e f c q = turns-typed run test h k q.1.0 f (h e q.1.0 c q.1.1) q.1.2

    -- a run from a typed state ends in one
    pub run-typed : (s : Substitution) → Types table s → (e f : State) → IsTypedState table e → Runs find table s e f → IsTypedState table f
    run-typed skip w e f c q = subst (IsTypedState table) (sym q) c
    run-typed (assign ps) w e f c q = subst (IsTypedState table) (sym q) (record { typed = term-typed ps w e c })
    run-typed (pre p s) w e f c q = run-typed s w.1 e f c q
    run-typed (guard p s) w e f c q = run-typed s w.1 e f c q.1
    run-typed (choice s t) w e f c q = elim q [ inl x ↦ run-typed s w.0 e f c x | inr x ↦ run-typed t w.1 e f c x ]
    run-typed (if_else p s t) w e f c q = elim q [ inl x ↦ run-typed s w.1 e f c x.1 | inr x ↦ run-typed t w.2 e f c x.1 ]
    run-typed (any zs s) w e f c q = subst (IsTypedState table) (sym q.2.2) (over-typed table (among zs) e q.2.0 c (run-typed s w.1 (with_values e zs q.0) q.2.0 (with_values-typed table e c zs q.0 q.1) q.2.1))
    run-typed (seq s t) w e f c q = run-typed t w.1 q.0 f (run-typed s w.0 e q.0 c q.1) q.2
    run-typed (par s t) w e f c q = subst (IsTypedState table) (sym q.4) (over-typed table (among (written s)) q.0 q.1 (run-typed s w.0 e q.0 c q.2) (run-typed t w.1 e q.1 c q.3))
    run-typed (assert p s) w e f c q = run-typed s w.1 e f c q
    run-typed (becomes_such xs p) w e f c q = subst (IsTypedState table) (sym q.3) (with_values-typed table e c (firsts xs) q.0 q.1)
    run-typed (loop p s i v) w e f c q = turns-typed (Runs find table s) (λ x. holds find table x p) (λ x y d r. run-typed s w.1 x y d r) q.0 e f c q.1
