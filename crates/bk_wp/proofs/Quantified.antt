-- What the quantifiers of box and diamond say of states.
use Rattle.std.proofs.Common.{◌≡◌, ◌↔◌, inl, inr, ℕ, List, [], ◌∷◌, length, refl, sym, ◌∙◌, ap, true, false}
use Rattle.bk_val.specs.Value.{MathValue}
use Rattle.bk_val.specs.ValueType.{ValueType, are_of_types}
use Rattle.bk_form.specs.Table.{Table, set_size, IsWellFormed}
use Rattle.bk_form.specs.Formula.{Formula, variable, binary, for_some}
use Rattle.bk_form.specs.declared.operator.BinOp.TheVariants.{And, Imp}
use Rattle.bk_form.specs.Search.{Finder, IsSearch}
use Rattle.bk_form.specs.Environment.{Environment, State, under, at_state}
use Rattle.bk_form.specs.Replacement.{IsClosed}
use Rattle.bk_form.specs.Meaning.{truth}
use Rattle.bk_form.proofs.Truth.{and-left, and-right, for_all-true, for_some-true}
use Rattle.bk_form.proofs.Replaced.{meaning-replaced}
use Rattle.bk_gsl.specs.State.{holds, are_values_for, with_values, firsts}
use Rattle.bk_gsl.specs.Run.{old_of, with_old}
use Rattle.bk_gsl.specs.Typed.{AreListed, AreTypedPairs}
use Rattle.bk_gsl.proofs.States.{cases, clash}
use Rattle.bk_bind.specs.Closing.{closed_over_each}
use Rattle.bk_wp.specs.Quantifiers.{types_of, all_of, some_of, all_written}
use Rattle.bk_wp.specs.Box.{new_values, all_new, some_new}
use Rattle.bk_wp.proofs.Closing.{closed-each, closed-under, holds-each}
use Rattle.bk_form.proofs.Closed.{closed-replaced}
use Rattle.bk_wp.proofs.Steps.{implies-then, implies-if, and-false, olds-replace}
use Rattle.bk_gsl.proofs.Listed.{firsts-listed}

-- ---- loose bound numbers
pub closed-all : (table : Table) (zs : List ℕ) (f : Formula) → IsClosed 0 f → IsClosed 0 (all_of table zs f)
closed-all table zs f c = closed-under table zs (closed_over_each zs f) (closed-each zs f c)

pub closed-written : (table : Table) (zs : List ℕ) (f : Formula) → IsClosed 0 f → IsClosed 0 (all_written table zs f)
closed-written table [] f c = c
closed-written table (z ∷ zs) f c = closed-all table (z ∷ zs) f c

pub closed-some : (table : Table) (zs : List ℕ) (f : Formula) → IsClosed 0 f → IsClosed 0 (some_of table zs f)
closed-some table zs f c = closed-under table zs (closed_over_each zs f) (closed-each zs f c)

closed-new : (xs : List (ℕ × ℕ)) (p : Formula) → IsClosed 0 p → IsClosed (length (firsts xs)) (new_values xs p)
closed-new xs p c = closed-replaced (λ n. variable (old_of xs n)) (λ n. tt) (length (firsts xs)) (closed_over_each (firsts xs) p) (closed-each (firsts xs) p c)

pub closed-all-new : (table : Table) (xs : List (ℕ × ℕ)) (p r : Formula) → IsClosed 0 p → IsClosed 0 r → IsClosed 0 (all_new table xs p r)
closed-all-new table xs p r c d = let zs = firsts xs in closed-under table zs (binary Imp (new_values xs p) (closed_over_each zs r)) (closed-new xs p c, closed-each zs r d)

pub closed-some-new : (table : Table) (xs : List (ℕ × ℕ)) (p r : Formula) → IsClosed 0 p → IsClosed 0 r → IsClosed 0 (some_new table xs p r)
closed-some-new table xs p r c d = let zs = firsts xs in closed-under table zs (binary And (new_values xs p) (closed_over_each zs r)) (closed-new xs p c, closed-each zs r d)

-- ---- truth
for_some-false : (find : Finder) → IsSearch find → (e : Environment) (ts : List ValueType) (p : Formula) → truth find e (for_some ts p) ≡ false → (vs : List MathValue) → are_of_types (set_size e.table) ts vs ≡ true → truth find (under e ts vs) p ≡ false
for_some-false find law e ts p h vs o = elim (cases (truth find (under e ts vs) p)) [
  | inl q ↦ clash (truth find e (for_some ts p)) ((for_some-true find law e ts p).1 (vs, o, q)) h
  | inr q ↦ q
]

module _ (find : Finder) (law : IsSearch find) (table : Table) (facts : IsWellFormed table) where
  pub all_of-true : (e : State) (zs : List ℕ) (f : Formula) → IsClosed 0 f → AreListed table zs → (holds find table e (all_of table zs f) ≡ true) ↔ ((vs : List MathValue) → are_values_for table zs vs ≡ true → holds find table (with_values e zs vs) f ≡ true)
  all_of-true e zs f c l =
      let q = for_all-true find law (at_state table e) (types_of table zs) (closed_over_each zs f) in
      ((λ h vs o. sym (holds-each find table facts e zs vs f c l o) ∙ q.0 h vs o), (λ h. q.1 (λ vs o. holds-each find table facts e zs vs f c l o ∙ h vs o)))

  pub all_written-true : (e : State) (zs : List ℕ) (f : Formula) → IsClosed 0 f → AreListed table zs → (holds find table e (all_written table zs f) ≡ true) ↔ ((vs : List MathValue) → are_values_for table zs vs ≡ true → holds find table (with_values e zs vs) f ≡ true)
  all_written-true e [] f c l = ((λ h vs o. h), (λ h. h [] refl))
  all_written-true e (z ∷ zs) f c l = all_of-true e (z ∷ zs) f c l

  pub some_of-true : (e : State) (zs : List ℕ) (f : Formula) → IsClosed 0 f → AreListed table zs → holds find table e (some_of table zs f) ≡ true → (vs : List MathValue) × (are_values_for table zs vs ≡ true) × (holds find table (with_values e zs vs) f ≡ true)
  some_of-true e zs f c l h =
      let w = (for_some-true find law (at_state table e) (types_of table zs) (closed_over_each zs f)).0 h in
      (w.0, w.1, sym (holds-each find table facts e zs w.0 f c l w.1) ∙ w.2)

  pub some_of-false : (e : State) (zs : List ℕ) (f : Formula) → IsClosed 0 f → AreListed table zs → holds find table e (some_of table zs f) ≡ false → (vs : List MathValue) → are_values_for table zs vs ≡ true → holds find table (with_values e zs vs) f ≡ false
  some_of-false e zs f c l h vs o = sym (holds-each find table facts e zs vs f c l o) ∙ for_some-false find law (at_state table e) (types_of table zs) (closed_over_each zs f) h vs o

  -- ---- x :(P)
  pub holds-new : (e : State) (xs : List (ℕ × ℕ)) (vs : List MathValue) (p : Formula) → AreTypedPairs table xs → IsClosed 0 p → are_values_for table (firsts xs) vs ≡ true → truth find (under (at_state table e) (types_of table (firsts xs)) vs) (new_values xs p) ≡ holds find table (with_old xs e vs) p
  holds-new e xs vs p w c o =
      ap (λ m. m.truth) (meaning-replaced find (λ n. variable (old_of xs n)) (under (at_state table e) (types_of table (firsts xs)) vs) (olds-replace table xs w) (closed_over_each (firsts xs) p))
      ∙ holds-each find table facts (λ n. e (old_of xs n)) (firsts xs) vs p c (firsts-listed table xs w) o

  pub all_new-true : (e : State) (xs : List (ℕ × ℕ)) (p r : Formula) → AreTypedPairs table xs → IsClosed 0 p → IsClosed 0 r → (holds find table e (all_new table xs p r) ≡ true) ↔ ((vs : List MathValue) → are_values_for table (firsts xs) vs ≡ true → holds find table (with_old xs e vs) p ≡ true → holds find table (with_values e (firsts xs) vs) r ≡ true)
  all_new-true e xs p r w c d =
      let zs = firsts xs in
      let ts = types_of table zs in
      let l = firsts-listed table xs w in
      let a = new_values xs p in
      let b = closed_over_each zs r in
      let q = for_all-true find law (at_state table e) ts (binary Imp a b) in (
        (λ h vs o t. sym (holds-each find table facts e zs vs r d l o) ∙ implies-then (truth find (under (at_state table e) ts vs) a) (truth find (under (at_state table e) ts vs) b) (q.0 h vs o) (holds-new e xs vs p w c o ∙ t)),
        (λ m. q.1 (λ vs o. implies-if (truth find (under (at_state table e) ts vs) a) (truth find (under (at_state table e) ts vs) b) (λ t. holds-each find table facts e zs vs r d l o ∙ m vs o (sym (holds-new e xs vs p w c o) ∙ t)))),
      )

  pub some_new-true : (e : State) (xs : List (ℕ × ℕ)) (p r : Formula) → AreTypedPairs table xs → IsClosed 0 p → IsClosed 0 r → holds find table e (some_new table xs p r) ≡ true → (vs : List MathValue) × (are_values_for table (firsts xs) vs ≡ true) × (holds find table (with_old xs e vs) p ≡ true) × (holds find table (with_values e (firsts xs) vs) r ≡ true)
  some_new-true e xs p r w c d h =
      let zs = firsts xs in
      let ts = types_of table zs in
      let l = firsts-listed table xs w in
      let a = new_values xs p in
      let b = closed_over_each zs r in
      let k = (for_some-true find law (at_state table e) ts (binary And a b)).0 h in
      let t = truth find (under (at_state table e) ts k.0) a in
      let u = truth find (under (at_state table e) ts k.0) b in
      (k.0, k.1, sym (holds-new e xs k.0 p w c k.1) ∙ and-left t u k.2, sym (holds-each find table facts e zs k.0 r d l k.1) ∙ and-right t u k.2)

  pub some_new-false : (e : State) (xs : List (ℕ × ℕ)) (p r : Formula) → AreTypedPairs table xs → IsClosed 0 p → IsClosed 0 r → holds find table e (some_new table xs p r) ≡ false → (vs : List MathValue) → are_values_for table (firsts xs) vs ≡ true → holds find table (with_old xs e vs) p ≡ true → holds find table (with_values e (firsts xs) vs) r ≡ false
  some_new-false e xs p r w c d h vs o q =
      let zs = firsts xs in
      let ts = types_of table zs in
      let l = firsts-listed table xs w in
      let a = new_values xs p in
      let b = closed_over_each zs r in
      sym (holds-each find table facts e zs vs r d l o)
      ∙ and-false (truth find (under (at_state table e) ts vs) a) (truth find (under (at_state table e) ts vs) b) (for_some-false find law (at_state table e) ts (binary And a b) h vs o) (holds-new e xs vs p w c o ∙ q)
