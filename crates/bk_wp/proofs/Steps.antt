-- Truth values, and what an assignment does to the truth of a formula.
use Rattle.std.proofs.Common.{◌≡◌, ◌⊎◌, inl, inr, ℕ, List, [], ◌∷◌, refl, sym, ap, subst, Bool, true, false, ◌&&◌, ◌||◌, cond, nat_eq}
use Rattle.std.specs.Prelude.{Some}
use Rattle.bk_val.specs.ValueType.{ValueType}
use Rattle.bk_form.specs.Table.{Table, variable_type}
use Rattle.bk_form.specs.Formula.{Formula, variable}
use Rattle.bk_form.specs.Search.{Finder}
use Rattle.bk_form.specs.Environment.{State, at_state}
use Rattle.bk_form.specs.Operators.{implies}
use Rattle.bk_form.specs.Role.{given_by}
use Rattle.bk_form.specs.Replacement.{replaced, IsClosed, IsReplacement, GivesType, looked_up}
use Rattle.bk_form.proofs.Replaced.{meaning-replaced}
use Rattle.bk_gsl.specs.State.{holds}
use Rattle.bk_gsl.specs.Run.{assigned, old_of}
use Rattle.bk_gsl.specs.Typed.{AreTypedTerms, AreTypedPairs}
use Rattle.bk_gsl.proofs.States.{nat_eq-same}
use Rattle.bk_form.proofs.Closed.{term-closed}

pub implies-then : (a b : Bool) → implies a b ≡ true → a ≡ true → b ≡ true
implies-then true b h k = h
implies-then false b h k = absurd (cc)

pub implies-if : (a b : Bool) → (a ≡ true → b ≡ true) → implies a b ≡ true
implies-if true b h = h refl
implies-if false b h = refl

pub implies-false : (a b : Bool) → implies a b ≡ false → (a ≡ true) × (b ≡ false)
implies-false true b h = (refl, h)
implies-false false b h = absurd (cc)

pub and-false : (a b : Bool) → (a && b) ≡ false → a ≡ true → b ≡ false
and-false true b h k = h
and-false false b h k = absurd (cc)

pub or-cases : (a b : Bool) → (a || b) ≡ true → (a ≡ true) ⊎ (b ≡ true)
or-cases true b h = inl refl
or-cases false b h = inr h

abbrev Stands : Table → ℕ → Formula → Type 0
Stands table n f = (f ≡ variable n) ⊎ ((t : ValueType) × (variable_type table n ≡ Some t) × GivesType table t f)

-- terms of their variables' types can stand in the variables' places
pub terms-replace : (table : Table) (ps : List (ℕ × Formula)) → AreTypedTerms table ps → IsReplacement table (looked_up ps)
terms-replace table [] w n = inl refl
terms-replace table (p ∷ ps) w n = by_test (terms-replace table ps w.1 n) (nat_eq n p.0) refl
  where
    by_test : Stands table n (looked_up ps n) → (b : Bool) → nat_eq n p.0 ≡ b → Stands table n (cond b p.1 (looked_up ps n))
    by_test on true h = inr (w.0.0, subst (λ m. variable_type table m ≡ Some w.0.0) (sym (nat_eq-same n p.0 h)) w.0.1, record { closed = term-closed table w.0.0 p.1 w.0.2; of_type = w.0.2 })
    by_test on false h = on

-- [x := E]R is true where R is after the assignment
pub holds-assign : (find : Finder) (table : Table) (ps : List (ℕ × Formula)) → AreTypedTerms table ps → (e : State) (r : Formula) → holds find table e (replaced (looked_up ps) r) ≡ holds find table (assigned find table ps e) r
holds-assign find table ps w e r = ap (λ m. m.truth) (meaning-replaced find (looked_up ps) (at_state table e) (terms-replace table ps w) r)

pub terms-closed : (table : Table) (ps : List (ℕ × Formula)) → AreTypedTerms table ps → (n : ℕ) → IsClosed 0 (looked_up ps n)
terms-closed table ps w n = by_form (looked_up ps n) (terms-replace table ps w n)
  where
    by_form : (f : Formula) → Stands table n f → IsClosed 0 f
    by_form f (inl h) = subst (IsClosed 0) (sym h) tt
    by_form f (inr h) = h.2.closed

-- variables of one type can stand in each other's places
pub olds-replace : (table : Table) (xs : List (ℕ × ℕ)) → AreTypedPairs table xs → IsReplacement table (λ n. variable (old_of xs n))
olds-replace table [] w n = inl refl
olds-replace table (x ∷ xs) w n = by_test (olds-replace table xs w.1 n) (nat_eq n x.1) refl
  where
    by_test : Stands table n (variable (old_of xs n)) → (b : Bool) → nat_eq n x.1 ≡ b → Stands table n (variable (cond b x.0 (old_of xs n)))
    by_test on true h = inr (w.0.0, subst (λ m. variable_type table m ≡ Some w.0.0) (sym (nat_eq-same n x.1 h)) w.0.2, record { closed = tt; of_type = ap given_by w.0.1 })
    by_test on false h = on
