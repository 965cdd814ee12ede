-- What a body means at one more than its variable.
use Rattle.std.proofs.Common.{◌≡◌, ℕ, zero, suc, ℤ, pos, ◌+ℤ◌, List, [], ◌∷◌, refl, ◌∙◌, ap, arith, Bool, true, false, cond, nat_eq}
use Rattle.std.proofs.lemmas.Bool.Decides.{nat_tests}
use Rattle.std.specs.Prelude.{slice_get}
use Rattle.bk_val.specs.Value.{int}
use Rattle.bk_val.specs.ValueType.{int_type}
use Rattle.bk_form.specs.Table.{Table}
use Rattle.bk_form.specs.Formula.{bound, literal, binary}
use Rattle.bk_form.specs.declared.operator.BinOp.TheVariants.{Add}
use Rattle.bk_form.specs.Search.{Finder}
use Rattle.bk_form.specs.Environment.{State, Binding}
use Rattle.bk_form.specs.Meaning.{meaning, bound_meaning}
use Rattle.bk_bind.proofs.UnderTerms.{here, Puts, meaning-rebound}
use Rattle.bk_kernel.specs.Next.{raised, NextMeans}

module _ (find : Finder) (table : Table) (st : State) where
  eq-same : (m k : ℕ) → nat_eq (suc m) (suc k) ≡ nat_eq m k
  eq-same m k = grind (arith, nat_tests)

  eq-first : (k : ℕ) → nat_eq 0 (suc k) ≡ false
  eq-first k = grind (arith, nat_tests)

  raised-by : (x : Binding) (a : List Binding) (m : ℕ) (c : Bool) → meaning find (here find table st (x ∷ a)) (cond c (binary Add (bound (suc m)) (literal (pos 1))) (bound (suc m))) ≡ meaning find (here find table st a) (cond c (binary Add (bound m) (literal (pos 1))) (bound m))
  raised-by x a m true = refl
  raised-by x a m false = refl

  deeper-raised : (k : ℕ) (x : Binding) (a b : List Binding) → Puts find table st raised k a b → Puts find table st raised (suc k) (x ∷ a) (x ∷ b)
  deeper-raised k x a b h = record { same = at }
    where
      at : (m : ℕ) → meaning find (here find table st (x ∷ a)) (raised (suc k) m) ≡ bound_meaning table (slice_get (x ∷ b) m)
      at zero = ap (λ c. meaning find (here find table st (x ∷ a)) (cond c (binary Add (bound 0) (literal (pos 1))) (bound 0))) (eq-first k)
      at (suc m) =
          ap (λ c. meaning find (here find table st (x ∷ a)) (cond c (binary Add (bound (suc m)) (literal (pos 1))) (bound (suc m)))) (eq-same m k)
          ∙ raised-by x a m (nat_eq m k)
          ∙ h.same m

  first-raised : (z : ℤ) → Puts find table st raised 0 ((int_type, int z) ∷ []) ((int_type, int (z +ℤ pos 1)) ∷ [])
  first-raised z = record { same = at }
    where
      never : (m : ℕ) → nat_eq (suc m) 0 ≡ false
      never m = grind (arith, nat_tests)

      nothing : (m : ℕ) → meaning find (here find table st ((int_type, int z) ∷ [])) (bound (suc m)) ≡ bound_meaning table (slice_get ((int_type, int (z +ℤ pos 1)) ∷ []) (suc m))
      nothing zero = refl
      nothing (suc m) = refl

      at : (m : ℕ) → meaning find (here find table st ((int_type, int z) ∷ [])) (raised 0 m) ≡ bound_meaning table (slice_get ((int_type, int (z +ℤ pos 1)) ∷ []) m)
      at zero = refl
      at (suc m) = ap (λ c. meaning find (here find table st ((int_type, int z) ∷ [])) (cond c (binary Add (bound (suc m)) (literal (pos 1))) (bound (suc m)))) (never m) ∙ nothing m

pub next_means : NextMeans
next_means find table st z p = meaning-rebound find table st raised (deeper-raised find table st) 0 ((int_type, int z) ∷ []) ((int_type, int (z +ℤ pos 1)) ∷ []) (first-raised find table st z) p
