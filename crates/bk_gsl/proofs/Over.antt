-- What a formula does not name says nothing of it.
use Rattle.std.proofs.Common.{◌≡◌, inl, inr, ℕ, ap, Bool, true, false}
use Rattle.bk_form.specs.Table.{Table}
use Rattle.bk_form.specs.Formula.{Formula}
use Rattle.bk_form.specs.Search.{Finder}
use Rattle.bk_form.specs.Environment.{State}
use Rattle.bk_form.specs.Replacement.{occurs}
use Rattle.bk_form.proofs.Agreement.{meaning-state}
use Rattle.bk_gsl.specs.State.{holds, value_at, over}
use Rattle.bk_gsl.proofs.States.{cases, clash, over-off}

module _ (find : Finder) where
  -- what stands nowhere in a formula says nothing of it
  pub holds-over : (table : Table) (off : ℕ → Bool) (d e : State) (f : Formula) → ((n : ℕ) → off n ≡ true → occurs n f ≡ false) → holds find table (over off d e) f ≡ holds find table e f
  holds-over table off d e f h = ap (λ m. m.truth) (meaning-state find table (over off d e) e f (λ n q. elim (cases (off n)) [ inl k ↦ clash (occurs n f) q (h n k) | inr k ↦ over-off off d e n k ]))

  pub value-over : (table : Table) (off : ℕ → Bool) (d e : State) (f : Formula) → ((n : ℕ) → off n ≡ true → occurs n f ≡ false) → value_at find table (over off d e) f ≡ value_at find table e f
  value-over table off d e f h = ap (λ m. m.value) (meaning-state find table (over off d e) e f (λ n q. elim (cases (off n)) [ inl k ↦ clash (occurs n f) q (h n k) | inr k ↦ over-off off d e n k ]))
