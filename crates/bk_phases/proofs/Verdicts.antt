-- The fault that is told is the first.
use Rattle.std.proofs.Common.{◌≡◌, inl, inr, ℕ, ◌≤◌, List, [], ◌∷◌, refl, sym, ap, subst, Bool, true, false, arith, nat_le}
use Rattle.std.proofs.lemmas.Bool.Decides.{nat_tests}
use Rattle.bk_dev.specs.Development.{Development}
use Rattle.bk_raw.specs.declared.fault.FaultKind.{FaultKind}
use Rattle.bk_raw.specs.Errors.Faults.{Fault}
use Rattle.bk_statics.specs.Verdict.{Verdict, accepted, at_fault, past_limit, judged, limited}
use Rattle.bk_phases.specs.Verdict.{Phase, smallest, first_fault}
use Rattle.bk_phases.specs.Laws.{HaveNoFault, IsOneOf, NoneIsSmaller, IsFirstFault}

-- ---- the smallest
none-smaller : (p q : ℕ) (xs : List ℕ) → p ≤ q → NoneIsSmaller q xs → NoneIsSmaller p xs
none-smaller p q [] h a = tt
none-smaller p q (x ∷ xs) h a = let b : q ≤ x = a.0 in (omega (arith, h, b), none-smaller p q xs h a.1)

pub smallest-right : (p : ℕ) (qs : List ℕ) → IsOneOf (smallest p qs) (p ∷ qs) × NoneIsSmaller (smallest p qs) (p ∷ qs)
smallest-right p [] = (inl refl, (omega arith, tt))
smallest-right p (q ∷ qs) = by (nat_le p (smallest q qs)) refl (smallest-right q qs)
  where
    by : (b : Bool) → nat_le p (smallest q qs) ≡ b → IsOneOf (smallest q qs) (q ∷ qs) × NoneIsSmaller (smallest q qs) (q ∷ qs) → IsOneOf (smallest p (q ∷ qs)) (p ∷ q ∷ qs) × NoneIsSmaller (smallest p (q ∷ qs)) (p ∷ q ∷ qs)
    by true e r =
        let s : smallest p (q ∷ qs) ≡ p = rw e refl in
        let l : p ≤ smallest q qs = grind (arith, nat_tests) in
        subst (λ n. IsOneOf n (p ∷ q ∷ qs) × NoneIsSmaller n (p ∷ q ∷ qs)) (sym s) (inl refl, (omega arith, none-smaller p (smallest q qs) (q ∷ qs) l r.1))
    by false e r =
        let s : smallest p (q ∷ qs) ≡ smallest q qs = rw e refl in
        let l : smallest q qs ≤ p = grind (arith, nat_tests) in
        subst (λ n. IsOneOf n (p ∷ q ∷ qs) × NoneIsSmaller n (p ∷ q ∷ qs)) (sym s) (inr r.0, (l, r.1))

-- ---- the answer
pub right-then : (dev made : Development) (ps : List Phase) → judged made (first_fault ps) ≡ accepted dev → HaveNoFault ps × (dev ≡ made)
right-then dev made [] h = (tt, cc h)
right-then dev made ((kind, []) ∷ rest) h = let r = right-then dev made rest h in ((refl, r.0), r.1)
right-then dev made ((kind, p ∷ ps) ∷ rest) h = absurd (cc)

pub none-then : (made : Development) (ps : List Phase) → HaveNoFault ps → judged made (first_fault ps) ≡ accepted made
none-then made [] h = refl
none-then made ((kind, []) ∷ rest) h = none-then made rest h.1
none-then made ((kind, p ∷ ps) ∷ rest) h = let e = h.0 in absurd (cc)

same-fault : (f g : Fault) → at_fault f ≡ at_fault g → f ≡ g
same-fault f g h = cc h

pub fault-then : (made : Development) (kind : FaultKind) (p : ℕ) (ps : List Phase) → judged made (first_fault ps) ≡ at_fault (kind, p) → IsFirstFault kind p ps
fault-then made kind p [] h = absurd (cc)
fault-then made kind p ((k, []) ∷ rest) h = fault-then made kind p rest h
fault-then made kind p ((k, q ∷ qs) ∷ rest) h =
    let e = same-fault (k, smallest q qs) (kind, p) h in
    let r = subst (λ n. IsOneOf n (q ∷ qs) × NoneIsSmaller n (q ∷ qs)) (ap (λ (f : Fault). f.1) e) (smallest-right q qs) in
    (sym (ap (λ (f : Fault). f.0) e), r.0, r.1)

pub limit-then : (made : Development) (n : ℕ) (ps : List Phase) → judged made (first_fault ps) ≡ past_limit n → ⊥
limit-then made n [] h = absurd (cc)
limit-then made n ((k, []) ∷ rest) h = limit-then made n rest h
limit-then made n ((k, q ∷ qs) ∷ rest) h = absurd (cc)

-- ---- the limit of names
pub past-then : (b : Bool) (v : Verdict) → b ≡ true → limited b v ≡ past_limit 5
past-then true v h = refl
past-then false v h = absurd (cc)

pub within-then : (b : Bool) (v : Verdict) → b ≡ false → limited b v ≡ v
within-then true v h = absurd (cc)
within-then false v h = refl
