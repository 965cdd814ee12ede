-- From what is found over a table to what a crate of laws answers over the rows that the table stands for.
use Rattle.std.proofs.Common.{◌≡◌, ◌↔◌, ℕ, List, sym, ◌∙◌, ap, subst, Result, Ok, Err}
use Rattle.std.specs.Prelude.{Some, None}
use Rattle.bk_io.specs.declared.text.Memory.{Memory}
use Rattle.bk_form.specs.Formula.{Formula}
use Rattle.bk_laws.specs.declared.instances.Found.{Found}
use Rattle.bk_laws.specs.declared.instances.Found.TheVariants.{NoLaw, WrongPicks}
use Rattle.bk_laws.specs.Rows.{Row, Instance, row_named, instance_at, IsFault}
use Rattle.bk_laws.specs.Found.{found_instance}

-- k is what is wrong with the picks at the row of this number
abbrev pub Told : List Row → ℕ → List Formula → ℕ → Type 0
Told t law picks k = (row : Row) × (row_named t law ≡ Some row) × IsFault row picks k

found-number : (j k : ℕ) → ◌≡◌ {A = Result Found Memory} (Ok (WrongPicks j)) (Ok (WrongPicks k)) → j ≡ k
found-number j k h = cc

no-both : (k : ℕ) → ◌≡◌ {A = Result Found Memory} (Ok NoLaw) (Ok (WrongPicks k)) → ⊥
no-both k h = cc

no-error : (e : Memory) (f : Found) → ◌≡◌ {A = Result Found Memory} (Err e) (Ok f) → ⊥
no-error e f h = cc

-- over a table t that stands for the rows; r is what is found
module _ (rows t : List Row) (same : t ≡ rows) (law : ℕ) (picks : List Formula) (r : Result Found Memory) where
  pub no-law : (r ≡ Ok NoLaw) ↔ (row_named t law ≡ None) → r ≡ Ok NoLaw → row_named rows law ≡ None
  no-law h e = subst (λ u. row_named u law ≡ None) same (h.0 e)

  pub told-picks : ((k : ℕ) → (r ≡ Ok (WrongPicks k)) ↔ Told t law picks k) → (k : ℕ) → Told rows law picks k → r ≡ Ok (WrongPicks k)
  told-picks h k w = (h k).1 (subst (λ u. Told u law picks k) (sym same) w)

  -- one thing is found
  pub law-alone : r ≡ Ok NoLaw → ((k : ℕ) → (r ≡ Ok (WrongPicks k)) ↔ Told t law picks k) → (k : ℕ) → Told rows law picks k → ⊥
  law-alone e h k w = no-both k (sym e ∙ told-picks h k w)

  pub picks-alone : (j : ℕ) → r ≡ Ok (WrongPicks j) → (r ≡ Ok NoLaw) ↔ (row_named t law ≡ None) → row_named rows law ≡ None → ⊥
  picks-alone j e h g = no-both j (sym (h.1 (subst (λ u. row_named u law ≡ None) (sym same) g)) ∙ e)

  -- the picks are told to be wrong, in an answer that has the number in it
  pub are-wrong : (A : Type 0) (answer : ℕ → A) → ((j k : ℕ) → answer j ≡ answer k → j ≡ k) → (j : ℕ) → r ≡ Ok (WrongPicks j) → ((k : ℕ) → (r ≡ Ok (WrongPicks k)) ↔ Told t law picks k) → (k : ℕ) → (answer j ≡ answer k) ↔ Told rows law picks k
  are-wrong A answer one j e h k = (
    (λ g. subst (λ n. Told rows law picks n) (one j k g) (subst (λ u. Told u law picks j) same ((h j).0 e))),
    (λ w. ap answer (found-number j k (sym e ∙ told-picks h k w))),
  )

  -- an instance is one over the rows
  pub over-rows : (f : Found) (i j : Instance) → found_instance f ≡ Some j → ((k : Instance) → found_instance f ≡ Some k → instance_at t law picks ≡ Some k) → i ≡ j → instance_at rows law picks ≡ Some i
  over-rows f i j e h g = subst (λ u. instance_at u law picks ≡ Some i) same (h i (e ∙ ap Some (sym g)))

-- where there is no memory for it, there is a row, and nothing is wrong
module _ (rows t : List Row) (same : t ≡ rows) (law : ℕ) (picks : List Formula) (e : Memory) where
  pub no-memory-law : (◌≡◌ {A = Result Found Memory} (Err e) (Ok NoLaw)) ↔ (row_named t law ≡ None) → row_named rows law ≡ None → ⊥
  no-memory-law h g = no-error e NoLaw (h.1 (subst (λ u. row_named u law ≡ None) (sym same) g))

  pub no-memory-picks : ((k : ℕ) → (◌≡◌ {A = Result Found Memory} (Err e) (Ok (WrongPicks k))) ↔ Told t law picks k) → (k : ℕ) → Told rows law picks k → ⊥
  no-memory-picks h k w = no-error e (WrongPicks k) (told-picks rows t same law picks (Err e) h k w)
