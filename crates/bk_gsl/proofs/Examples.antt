-- Small cases.
use Rattle.std.proofs.Common.{◌≡◌, inl, inr, ℕ, zero, suc, ℤ, pos, negsuc, ◌-ℤ◌, [], ◌∷◌, refl, sym, ◌∙◌, ap, true, false, ◌||◌, nat_eq, arith}
use Rattle.std.specs.Prelude.{int_lt}
use Rattle.std.proofs.lemmas.Int.{ints}
use Rattle.bk_val.specs.Value.{int}
use Rattle.bk_form.specs.Table.{Table}
use Rattle.bk_form.specs.Formula.{Formula, variable, literal, binary, btrue}
use Rattle.bk_form.specs.declared.operator.BinOp.TheVariants.{Lt, Sub}
use Rattle.bk_form.specs.Search.{Finder}
use Rattle.bk_form.specs.Environment.{State}
use Rattle.bk_form.specs.Operators.{number_in}
use Rattle.bk_gsl.specs.Substitution.{Substitution, skip, assign}
use Rattle.bk_gsl.specs.State.{holds, among, over}
use Rattle.bk_gsl.specs.Run.{Runs, Ends, Turns, Bounded, assigned}
use Rattle.bk_gsl.specs.Laws.{PreconditionMeans, Swaps, PutsBack, count_down, CountsDown, NeverEnds}
use Rattle.bk_gsl.proofs.States.{over-at, nat_eq-self}

pub precondition-means : PreconditionMeans
precondition-means = record {
  runs = λ find table p s e f. ((λ q. q), λ q. q);
  ends = λ find table p s e h q. let k : true ≡ false = sym q.0 ∙ h in cc;
}

pub swaps : Swaps
swaps = record {
  runs = λ find table e.
      let g = assigned find table ((0, variable 1) ∷ []) e in
      let h = assigned find table ((1, variable 0) ∷ []) e in
      (over (among (0 ∷ [])) g h, (g, h, refl, refl, refl));
  values = λ find table e f q. (ap (λ x. x 0) q.4 ∙ ap (λ x. x 0) q.2, ap (λ x. x 1) q.4 ∙ ap (λ x. x 1) q.3);
}

pub puts-back : PutsBack
puts-back find table z s e f q = ap (λ x. x z) q.2.2 ∙ over-at (among (z ∷ [])) e q.2.0 z (here z)
  where
    here : (z : ℕ) → (nat_eq z z || false) ≡ true
    here z = rw (nat_eq-self z)

-- ---- a loop that counts down
abbrev body : Substitution
body = assign ((0, binary Sub (variable 0) (literal (pos 1))) ∷ [])

abbrev test : Formula
test = binary Lt (literal (pos 0)) (variable 0)

positive : (n : ℕ) → int_lt (pos 0) (pos (suc n)) ≡ true
positive n = grind (arith, ints)

not-positive : (n : ℕ) → int_lt (pos 0) (negsuc n) ≡ false
not-positive n = grind (arith, ints)

one-less : (n : ℕ) → (pos (suc n) -ℤ pos 1) ≡ pos n
one-less n = grind (arith, ints)

module _ (find : Finder) (table : Table) where
  test-at : (e : State) (z : ℤ) → e 0 ≡ int z → holds find table e test ≡ int_lt (pos 0) z
  test-at e z h = ap (λ v. int_lt (pos 0) (number_in v)) h

  after : (e f : State) (n : ℕ) → e 0 ≡ int (pos (suc n)) → f ≡ assigned find table ((0, binary Sub (variable 0) (literal (pos 1))) ∷ []) e → f 0 ≡ int (pos n)
  after e f n h q = ap (λ x. x 0) q ∙ ap (λ v. int (number_in v -ℤ pos 1)) h ∙ ap int (one-less n)

  bounded : (n : ℕ) (e : State) → e 0 ≡ int (pos n) → Bounded (Runs find table body) (Ends find table body) (λ x. holds find table x test) n e
  bounded zero e h = test-at e (pos 0) h
  bounded (suc n) e h = inr (tt, λ f q. bounded n f (after e f n h q))

  ends-from : (e : State) (z : ℤ) → e 0 ≡ int z → Ends find table count_down e
  ends-from e (pos n) h = (n, bounded n e h)
  ends-from e (negsuc n) h = (0, test-at e (negsuc n) h ∙ not-positive n)

  leaves-zero : (k : ℕ) (e f : State) (n : ℕ) → e 0 ≡ int (pos n) → Turns (Runs find table body) (λ x. holds find table x test) k e f → f 0 ≡ int (pos 0)
  leaves-zero zero e f zero h q = ap (λ x. x 0) q.1 ∙ h
  leaves-zero zero e f (suc n) h q = let k : true ≡ false = sym (positive n) ∙ sym (test-at e (pos (suc n)) h) ∙ q.0 in absurd (cc)
  leaves-zero (suc k) e f zero h q = let c : false ≡ true = sym (test-at e (pos 0) h) ∙ q.0 in absurd (cc)
  leaves-zero (suc k) e f (suc n) h q = leaves-zero k q.1.0 f n (after e q.1.0 n h q.1.1) q.1.2

  -- ---- a loop that stands
  never : (n : ℕ) (e : State) → Bounded (Runs find table skip) (Ends find table skip) (λ x. holds find table x btrue) n e → ⊥
  never zero e q = cc
  never (suc n) e (inl q) = cc
  never (suc n) e (inr q) = never n e (q.1 e refl)

pub counts-down : CountsDown
counts-down = record { ends = λ find table e z h. ends-from find table e z h; runs = λ find table e f n h q. leaves-zero find table q.0 e f n h q.1 }

pub never-ends : NeverEnds
never-ends find table e q = never find table q.0 e q.1
