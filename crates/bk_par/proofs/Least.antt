-- The smallest number of a list.
use Rattle.std.proofs.Common.{◌≡◌, inl, inr, ℕ, ◌≤◌, ◌<◌, List, [], ◌∷◌, refl, sym, subst, Bool, true, false, cond, nat_eq, nat_lt, arith}
use Rattle.std.specs.Prelude.{Some, None}
use Rattle.std.proofs.lemmas.Bool.Decides.{nat_tests}
use Rattle.bk_form.proofs.Members.{or-cases, or-left, or-right}
use Rattle.bk_gsl.specs.State.{among}
use Rattle.bk_gsl.proofs.States.{nat_eq-same, nat_eq-self}
use Rattle.bk_par.specs.Overlaps.{IsLeast, least_onto, least_of}

among-first : (n : ℕ) (ns : List ℕ) → among (n ∷ ns) n ≡ true
among-first n ns = or-left (nat_eq n n) (among ns n) (nat_eq-self n)

among-behind : (m n : ℕ) (ns : List ℕ) → among ns m ≡ true → among (n ∷ ns) m ≡ true
among-behind m n ns h = or-right (nat_eq m n) (among ns m) h

-- it is one of them
onto-listed : (b : ℕ) (ns : List ℕ) → among (b ∷ ns) (least_onto b ns) ≡ true
onto-listed b [] = among-first b []
onto-listed b (n ∷ ns) = by_test (λ x. onto-listed x ns) (nat_lt n b)
  where
    by_test : ((x : ℕ) → among (x ∷ ns) (least_onto x ns) ≡ true) → (c : Bool) → among (b ∷ n ∷ ns) (least_onto (cond c n b) ns) ≡ true
    by_test on true = among-behind (least_onto n ns) b (n ∷ ns) (on n)
    by_test on false = elim (or-cases (nat_eq (least_onto b ns) b) (among ns (least_onto b ns)) (on b)) [
      | inl q ↦ or-left (nat_eq (least_onto b ns) b) (among (n ∷ ns) (least_onto b ns)) q
      | inr q ↦ among-behind (least_onto b ns) b (n ∷ ns) (among-behind (least_onto b ns) n ns q)
    ]

-- and none is smaller
onto-below : (b : ℕ) (ns : List ℕ) → least_onto b ns ≤ b
onto-below b [] = omega arith
onto-below b (n ∷ ns) = by_test (λ x. onto-below x ns) (nat_lt n b) refl
  where
    lower : nat_lt n b ≡ true → n < b
    lower q = grind (arith, nat_tests)

    by_test : ((x : ℕ) → least_onto x ns ≤ x) → (c : Bool) → nat_lt n b ≡ c → least_onto (cond c n b) ns ≤ b
    by_test on true q = let l : n < b = lower q in let k : least_onto n ns ≤ n = on n in omega (arith, l, k)
    by_test on false q = on b

onto-next : (b n : ℕ) (ns : List ℕ) → least_onto b (n ∷ ns) ≤ n
onto-next b n ns = by_test (nat_lt n b) refl
  where
    higher : nat_lt n b ≡ false → b ≤ n
    higher q = grind (arith, nat_tests)

    by_test : (c : Bool) → nat_lt n b ≡ c → least_onto (cond c n b) ns ≤ n
    by_test true q = onto-below n ns
    by_test false q = let l : b ≤ n = higher q in let k : least_onto b ns ≤ b = onto-below b ns in omega (arith, l, k)

onto-smallest : (b : ℕ) (ns : List ℕ) (m : ℕ) → among ns m ≡ true → least_onto b ns ≤ m
onto-smallest b [] m h = absurd (cc)
onto-smallest b (n ∷ ns) m h = elim (or-cases (nat_eq m n) (among ns m) h) [
  | inl q ↦ subst (λ x. least_onto b (n ∷ ns) ≤ x) (sym (nat_eq-same m n q)) (onto-next b n ns)
  | inr q ↦ onto-smallest (cond (nat_lt n b) n b) ns m q
]

least_is : (b : ℕ) (ns : List ℕ) → IsLeast (b ∷ ns) (least_onto b ns)
least_is b ns = record {
  listed = onto-listed b ns;
  smallest = λ m h. elim (or-cases (nat_eq m b) (among ns m) h) [
    | inl q ↦ subst (λ x. least_onto b ns ≤ x) (sym (nat_eq-same m b q)) (onto-below b ns)
    | inr q ↦ onto-smallest b ns m q
  ];
}

pub least_found : (ns : List ℕ) (v : ℕ) → least_of ns ≡ Some v → IsLeast ns v
least_found [] v h = absurd (cc)
least_found (n ∷ ns) v h = let e : least_onto n ns ≡ v = cc h in subst (IsLeast (n ∷ ns)) e (least_is n ns)

pub none_found : (ns : List ℕ) → least_of ns ≡ None → ns ≡ []
none_found [] h = refl
none_found (n ∷ ns) h = absurd (cc)
