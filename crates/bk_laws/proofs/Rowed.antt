-- The row that a table has under a number, and its instance.
use Rattle.std.proofs.Common.{◌≡◌, ◌↔◌, ℕ, nat_eq, Bool, true, false, cond, List, [], ◌∷◌, refl, sym, ◌∙◌, ap, subst, Result, Ok, Err, IfOk}
use Rattle.std.specs.Prelude.{Option, Some, None}
use Rattle.std.specs.Option.{option_map}
use Rattle.bk_form.specs.Formula.{Formula}
use Rattle.bk_io.specs.declared.text.Memory.{Memory}
use Rattle.bk_ops.specs.declared.law.Pat.{Pat}
use Rattle.bk_ops.specs.declared.law.Law.{Law}
use Rattle.bk_laws.specs.Rows.{Row, Instance, built, pick_at, row_named, instance_of_row, instance_at, IsFault}
use Rattle.bk_laws.specs.declared.instances.Found.{Found}
use Rattle.bk_laws.specs.declared.instances.Found.TheVariants.{NoLaw, WrongPicks}
use Rattle.bk_laws.specs.Found.{found_instance}
use Rattle.bk_laws.specs.Tables.{row_of, rows_of, law_named, fault_of}
use Rattle.bk_laws.proofs.Faults.{is-fault, no-fault, finds-fault, no-instance}

pub named-row : (pats : List Pat) (laws : List Law) (name : ℕ) → row_named (rows_of pats laws) name ≡ option_map (row_of pats) (law_named laws name)
named-row pats [] name = refl
named-row pats (law ∷ laws) name = by_name (named-row pats laws name) (nat_eq law.name name)
  where
    by_name : row_named (rows_of pats laws) name ≡ option_map (row_of pats) (law_named laws name) → (b : Bool) → cond b (Some (row_of pats law)) (row_named (rows_of pats laws) name) ≡ option_map (row_of pats) (cond b (Some law) (law_named laws name))
    by_name on true = refl
    by_name on false = on

module _ (pats : List Pat) (laws : List Law) (name : ℕ) (picks : List Formula) where
  pub no-row : law_named laws name ≡ None → row_named (rows_of pats laws) name ≡ None
  no-row h = named-row pats laws name ∙ ap (option_map (row_of pats)) h

  pub some-row : (law : Law) → law_named laws name ≡ Some law → row_named (rows_of pats laws) name ≡ Some (row_of pats law)
  some-row law h = named-row pats laws name ∙ ap (option_map (row_of pats)) h

  -- there is a law, and nothing is wrong
  pub found-instance : (law : Law) → law_named laws name ≡ Some law → fault_of (row_of pats law) picks ≡ None → instance_at (rows_of pats laws) name picks ≡ Some (built (row_of pats law) (pick_at picks))
  found-instance law h k = ap (instance_of_row picks) (some-row law h) ∙ ap (λ b. cond b (Some (built (row_of pats law) (pick_at picks))) None) (no-fault (row_of pats law) picks k)

  same-row : (row other : Row) → Some row ≡ Some other → row ≡ other
  same-row row other h = cc

  -- what is told of the picks is what is wrong with them at the row of this number
  pub told-fault : (law : Law) → law_named laws name ≡ Some law → (k : ℕ) → (fault_of (row_of pats law) picks ≡ Some k) ↔ ((row : Row) × (row_named (rows_of pats laws) name ≡ Some row) × IsFault row picks k)
  told-fault law h k = (
    (λ f. (row_of pats law, some-row law h, is-fault (row_of pats law) picks k f)),
    (λ w. finds-fault (row_of pats law) picks k (subst (λ r. IsFault r picks k) (sym (same-row (row_of pats law) w.0 (sym (some-row law h) ∙ w.1))) w.2)),
  )

  -- where there is no row, nothing is told
  pub no-fault-told : law_named laws name ≡ None → (k : ℕ) → (row : Row) × (row_named (rows_of pats laws) name ≡ Some row) × IsFault row picks k → ⊥
  no-fault-told h k w = let e : None ≡ Some w.0 = sym (no-row h) ∙ w.1 in cc

-- ---- from what is found to what a crate of laws answers, over its rows
module _ (rows : List Row) (name : ℕ) (picks : List Formula) where
  -- where there is an instance, there is a row, and nothing is wrong
  pub has-row : (i : Instance) → instance_at rows name picks ≡ Some i → row_named rows name ≡ None → ⊥
  has-row i h k = let e : None ≡ Some i = sym (ap (instance_of_row picks) k) ∙ h in cc

  pub has-no-fault : (i : Instance) → instance_at rows name picks ≡ Some i → (k : ℕ) → (row : Row) × (row_named rows name ≡ Some row) × IsFault row picks k → ⊥
  has-no-fault i h k w = let e : None ≡ Some i = sym (ap (instance_of_row picks) w.1 ∙ no-instance w.0 picks k w.2) ∙ h in cc

-- ---- what the program answers
module _ (pats : List Pat) (laws : List Law) (name : ℕ) (picks : List Formula) (law : Law) (named : law_named laws name ≡ Some law) where
  pub is-row : row_named (rows_of pats laws) name ≡ None → ⊥
  is-row h = let e : None ≡ Some (row_of pats law) = sym h ∙ some-row pats laws name picks law named in cc

  some-number : (m n : ℕ) → Some m ≡ Some n → m ≡ n
  some-number m n h = cc

  wrong-number : (m n : ℕ) → ◌≡◌ {A = Result Found Memory} (Ok (WrongPicks m)) (Ok (WrongPicks n)) → m ≡ n
  wrong-number m n h = cc

  pub told : (j : ℕ) → fault_of (row_of pats law) picks ≡ Some j → (k : ℕ) → ◌≡◌ {A = Result Found Memory} (Ok (WrongPicks j)) (Ok (WrongPicks k)) ↔ ((row : Row) × (row_named (rows_of pats laws) name ≡ Some row) × IsFault row picks k)
  told j h k = (
    (λ e. (told-fault pats laws name picks law named k).0 (h ∙ ap Some (wrong-number j k e))),
    (λ w. ap (λ (n : ℕ). Ok (WrongPicks n)) (some-number j k (sym h ∙ (told-fault pats laws name picks law named k).1 w))),
  )

  pub not-told : fault_of (row_of pats law) picks ≡ None → (k : ℕ) → (row : Row) × (row_named (rows_of pats laws) name ≡ Some row) × IsFault row picks k → ⊥
  not-told h k w = let e : None ≡ Some k = sym h ∙ (told-fault pats laws name picks law named k).1 w in cc

abbrev Holds : Instance → Result Found Memory → Type 0
Holds b r = IfOk r (λ f. found_instance f ≡ Some b)

pub made-value : (r : Result Found Memory) (b : Instance) (a : Option Instance) → a ≡ Some b → IfOk r (λ f. found_instance f ≡ Some b) → IfOk r (λ f. (i : Instance) → found_instance f ≡ Some i → a ≡ Some i)
made-value (Ok f) b a h w = λ i g. h ∙ sym w ∙ g
made-value (Err e) b a h w = tt

pub made-law : (r : Result Found Memory) (b : Instance) → IfOk r (λ f. found_instance f ≡ Some b) → r ≡ Ok NoLaw → ⊥
made-law r b w h = let e : None ≡ Some b = subst (Holds b) h w in cc

pub made-picks : (r : Result Found Memory) (b : Instance) (k : ℕ) → IfOk r (λ f. found_instance f ≡ Some b) → r ≡ Ok (WrongPicks k) → ⊥
made-picks r b k w h = let e : None ≡ Some b = subst (Holds b) h w in cc
