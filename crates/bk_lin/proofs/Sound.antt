-- What the given facts make true, each right line's fact makes true.
use Rattle.std.proofs.Common.{◌≡◌, ℕ, zero, suc, ◌-◌, ◌<◌, ℤ, pos, negsuc, ◌+ℤ◌, ◌*ℤ◌, ◌≤ℤ◌, Bool, true, false, ◌&&◌, List, [], ◌∷◌, map, replicate, All, Some, None, cond, refl, ap, sym, ◌∙◌, arith, int_le, get_or}
use Rattle.std.specs.List.{list_all}
use Rattle.std.specs.Int.{int_div_euclid, int_rem_euclid}
use Rattle.std.specs.Ordering.{int_eq}
use Rattle.std.proofs.Math.IntN.{zero-*ℤ, *ℤ-zero, +ℤ_idl, +ℤ_idr}
use Rattle.std.proofs.lemmas.Int.{ints}
use Rattle.std.proofs.lemmas.List.Elements.{All-head, All-tail, All-nil, All-cons}
use Rattle.bk_lin.specs.declared.fact.Line.{Line}
use Rattle.bk_lin.specs.declared.fact.Line.TheVariants.{Sum, Div}
use Rattle.bk_lin.specs.Inequality.{Inequality, dot, IsTrueOf, IsContradiction, zero_of, times, sum_of_coefs, plus, plus_all, is_divisible, quotient_of}
use Rattle.bk_lin.specs.Certificate.{fact_at, multiples_of, line_fact, line_fault}
use Rattle.bk_lin.proofs.Whole.{*ℤ-+ℤ, +ℤ-*ℤ, pos-*ℤ_assoc, 0≤-*ℤ, divided, 0≤-divided}

regroup : (p q r s : ℤ) → (p +ℤ q) +ℤ (r +ℤ s) ≡ (p +ℤ r) +ℤ (q +ℤ s)
regroup p q r s = omega (arith, ints)

pub dot-sum_of_coefs : (cs ds : List ℤ) (x : ℕ → ℤ) → dot (sum_of_coefs cs ds) x ≡ dot cs x +ℤ dot ds x
dot-sum_of_coefs [] ds x = sym (+ℤ_idl (dot ds x))
dot-sum_of_coefs (c ∷ cs) [] x = sym (+ℤ_idr (dot (c ∷ cs) x))
dot-sum_of_coefs (c ∷ cs) (d ∷ ds) x =
    ap (λ s. s +ℤ dot (sum_of_coefs cs ds) (λ k. x (suc k))) (+ℤ-*ℤ c d (x 0))
    ∙ ap (λ s. (c *ℤ x 0 +ℤ d *ℤ x 0) +ℤ s) (dot-sum_of_coefs cs ds (λ k. x (suc k)))
    ∙ regroup (c *ℤ x 0) (d *ℤ x 0) (dot cs (λ k. x (suc k))) (dot ds (λ k. x (suc k)))

dot-map-times : (n : ℕ) (cs : List ℤ) (x : ℕ → ℤ) → dot (map (λ c. pos n *ℤ c) cs) x ≡ pos n *ℤ dot cs x
dot-map-times n [] x = sym (*ℤ-zero (pos n))
dot-map-times n (c ∷ cs) x =
    ap (λ s. s +ℤ dot (map (λ d. pos n *ℤ d) cs) (λ k. x (suc k))) (sym (pos-*ℤ_assoc n c (x 0)))
    ∙ ap (λ s. pos n *ℤ (c *ℤ x 0) +ℤ s) (dot-map-times n cs (λ k. x (suc k)))
    ∙ sym (*ℤ-+ℤ (pos n) (c *ℤ x 0) (dot cs (λ k. x (suc k))))

dot-zeros : (cs : List ℤ) (x : ℕ → ℤ) → All (λ c. c ≡ pos 0) cs → dot cs x ≡ pos 0
dot-zeros [] x h = refl
dot-zeros (c ∷ cs) x h =
    ap (λ s. s *ℤ x 0 +ℤ dot cs (λ k. x (suc k))) (All-head (λ d. d ≡ pos 0) c cs h)
    ∙ ap (λ s. s +ℤ dot cs (λ k. x (suc k))) (zero-*ℤ (x 0))
    ∙ +ℤ_idl (dot cs (λ k. x (suc k)))
    ∙ dot-zeros cs (λ k. x (suc k)) (All-tail (λ d. d ≡ pos 0) c cs h)

pub dot-replicate : (n : ℕ) (x : ℕ → ℤ) → dot (replicate n (pos 0)) x ≡ pos 0
dot-replicate zero x = refl
dot-replicate (suc n) x =
    ap (λ s. s +ℤ dot (replicate n (pos 0)) (λ k. x (suc k))) (zero-*ℤ (x 0))
    ∙ +ℤ_idl (dot (replicate n (pos 0)) (λ k. x (suc k)))
    ∙ dot-replicate n (λ k. x (suc k))

IsTrueOf-zero_of : (x : ℕ → ℤ) (n : ℕ) → IsTrueOf x (zero_of n)
IsTrueOf-zero_of x n = let e = dot-replicate n x in omega (arith, ints)

IsTrueOf-plus : (x : ℕ → ℤ) (p q : Inequality) → IsTrueOf x p → IsTrueOf x q → IsTrueOf x (plus p q)
IsTrueOf-plus x p q h k = let e = dot-sum_of_coefs p.coefs q.coefs x in omega (arith, ints)

IsTrueOf-times : (x : ℕ → ℤ) (m : ℤ) (p : Inequality) → pos 0 ≤ℤ m → IsTrueOf x p → IsTrueOf x (times m p)
IsTrueOf-times x (pos n) p h k =
    let e = dot-map-times n p.coefs x in
    let f = *ℤ-+ℤ (pos n) (dot p.coefs x) p.constant in
    let g = 0≤-*ℤ (pos n) (dot p.coefs x +ℤ p.constant) h k in
    omega (arith, ints)
IsTrueOf-times x (negsuc n) p h k = absurd (omega (arith, ints))

IsTrueOf-plus_all : (x : ℕ → ℤ) (p : Inequality) (qs : List Inequality) → IsTrueOf x p → All (IsTrueOf x) qs → IsTrueOf x (plus_all p qs)
IsTrueOf-plus_all x p [] h k = h
IsTrueOf-plus_all x p (q ∷ qs) h k =
    IsTrueOf-plus_all x (plus p q) qs
    (IsTrueOf-plus x p q h (All-head (IsTrueOf x) q qs k)) (All-tail (IsTrueOf x) q qs k)

and_left : (a b : Bool) → (a && b) ≡ true → a ≡ true
and_left true b h = refl
and_left false b h = cc

and_right : (a b : Bool) → (a && b) ≡ true → b ≡ true
and_right true b h = h
and_right false b h = cc

int_eq-true : (a b : ℤ) → int_eq a b ≡ true → a ≡ b
int_eq-true a b h = grind (arith, ints)

-- where nothing remains, the divisor times the quotient is the number
whole_quotient : (d : ℕ) (c : ℤ) → 0 < d → int_eq (int_rem_euclid c (pos d)) (pos 0) ≡ true → pos d *ℤ int_div_euclid c (pos d) ≡ c
whole_quotient d c h k =
    let all = divided d c h in
    let r : int_rem_euclid c (pos d) ≡ pos 0 = int_eq-true (int_rem_euclid c (pos d)) (pos 0) k in
    let same : pos all.0 ≡ pos 0 = sym all.2 ∙ r in
    let whole : pos d *ℤ int_div_euclid c (pos d) +ℤ pos all.0 ≡ c = all.3 in
    omega (arith, ints)

dot-map-divided : (d : ℕ) (cs : List ℤ) (x : ℕ → ℤ) → 0 < d → list_all (λ c. int_eq (int_rem_euclid c (pos d)) (pos 0)) cs ≡ true → pos d *ℤ dot (map (λ c. int_div_euclid c (pos d)) cs) x ≡ dot cs x
dot-map-divided d [] x h k = *ℤ-zero (pos d)
dot-map-divided d (c ∷ cs) x h k =
    let tests : List ℤ → Bool = list_all (λ (b : ℤ). int_eq (int_rem_euclid b (pos d)) (pos 0)) in
    *ℤ-+ℤ (pos d) (int_div_euclid c (pos d) *ℤ x 0) (dot (map (λ b. int_div_euclid b (pos d)) cs) (λ k. x (suc k)))
    ∙ ap (λ s. s +ℤ pos d *ℤ dot (map (λ b. int_div_euclid b (pos d)) cs) (λ k. x (suc k)))
    (pos-*ℤ_assoc d (int_div_euclid c (pos d)) (x 0)
    ∙ ap (λ s. s *ℤ x 0) (whole_quotient d c h (and_left (int_eq (int_rem_euclid c (pos d)) (pos 0)) (tests cs) k)))
    ∙ ap (λ s. c *ℤ x 0 +ℤ s) (dot-map-divided d cs (λ k. x (suc k)) h (and_right (int_eq (int_rem_euclid c (pos d)) (pos 0)) (tests cs) k))

IsTrueOf-quotient_of : (x : ℕ → ℤ) (d : ℤ) (p : Inequality) → pos 1 ≤ℤ d → is_divisible d p ≡ true → IsTrueOf x p → IsTrueOf x (quotient_of p d)
IsTrueOf-quotient_of x (negsuc d) p h k l = absurd (omega (arith, ints))
IsTrueOf-quotient_of x (pos d) p h k l =
    let positive : 0 < d = omega (arith, ints) in
    let all = divided d p.constant positive in
    let small : all.0 < d = all.1 in
    let whole : pos d *ℤ int_div_euclid p.constant (pos d) +ℤ pos all.0 ≡ p.constant = all.3 in
    let quotients : ℤ = dot (map (λ c. int_div_euclid c (pos d)) p.coefs) x in
    let e : pos d *ℤ quotients ≡ dot p.coefs x = dot-map-divided d p.coefs x positive k in
    let f = *ℤ-+ℤ (pos d) quotients (int_div_euclid p.constant (pos d)) in
    0≤-divided d all.0 (quotients +ℤ int_div_euclid p.constant (pos d)) small (omega (arith, ints))

pub not_true_contradiction : (x : ℕ → ℤ) (p : Inequality) → IsContradiction p → IsTrueOf x p → ⊥
not_true_contradiction x p h k = let e = dot-zeros p.coefs x h.0 in omega (arith, ints, h.1)

-- a fact that stands, of facts that are all true, is true; and so is the one that stands for none
IsTrueOf-get_or : (x : ℕ → ℤ) (standing : List Inequality) (k : ℕ) → All (IsTrueOf x) standing → IsTrueOf x (get_or standing k (zero_of 0))
IsTrueOf-get_or x [] k h = IsTrueOf-zero_of x 0
IsTrueOf-get_or x (p ∷ ps) zero h = All-head (IsTrueOf x) p ps h
IsTrueOf-get_or x (p ∷ ps) (suc k) h = IsTrueOf-get_or x ps k (All-tail (IsTrueOf x) p ps h)

pub IsTrueOf-fact_at : (x : ℕ → ℤ) (standing : List Inequality) (n : ℕ) → All (IsTrueOf x) standing → IsTrueOf x (fact_at standing n)
IsTrueOf-fact_at x standing n h = IsTrueOf-get_or x standing (n - 1) h

int_le-true : (a b : ℤ) → int_le a b ≡ true → a ≤ℤ b
int_le-true a b h = grind (arith, ints)

All-multiples_of : (x : ℕ → ℤ) (standing : List Inequality) (parts : List (ℤ × ℕ)) → All (IsTrueOf x) standing → list_all (λ (p : ℤ × ℕ). int_le (pos 0) p.0) parts ≡ true → All (IsTrueOf x) (multiples_of standing parts)
All-multiples_of x standing [] h l = All-nil (IsTrueOf x)
All-multiples_of x standing (p ∷ parts) h l =
    let tests : List (ℤ × ℕ) → Bool = list_all (λ (q : ℤ × ℕ). int_le (pos 0) q.0) in
    All-cons (IsTrueOf x) (times p.0 (fact_at standing p.1)) (multiples_of standing parts)
    (IsTrueOf-times x p.0 (fact_at standing p.1)
    (int_le-true (pos 0) p.0 (and_left (int_le (pos 0) p.0) (tests parts) l))
    (IsTrueOf-fact_at x standing p.1 h))
    (All-multiples_of x standing parts h (and_right (int_le (pos 0) p.0) (tests parts) l))

-- a line without a fault passed its three tests
pub passed : {X : Type 0} (a b c : Bool) (u v w : X) → cond a (cond b (cond c None (Some u)) (Some v)) (Some w) ≡ None → (a ≡ true) × (b ≡ true) × (c ≡ true)
passed true true true u v w h = (refl, refl, refl)
passed true true false u v w h = cc
passed true false c u v w h = cc
passed false b c u v w h = cc

pub IsTrueOf-line_fact : (x : ℕ → ℤ) (width number : ℕ) (standing : List Inequality) (line : Line) → All (IsTrueOf x) standing → line_fault width number standing line ≡ None → IsTrueOf x (line_fact width standing line)
IsTrueOf-line_fact x width number standing (Sum parts) h k =
    let signs : list_all (λ (p : ℤ × ℕ). int_le (pos 0) p.0) parts.items ≡ true = (passed _ _ _ _ _ _ k).1 in
    IsTrueOf-plus_all x (zero_of width) (multiples_of standing parts.items)
    (IsTrueOf-zero_of x width) (All-multiples_of x standing parts.items h signs)
IsTrueOf-line_fact x width number standing (Div n d) h k =
    let tests = passed _ _ _ _ _ _ k in
    IsTrueOf-quotient_of x d (fact_at standing n)
    (int_le-true (pos 1) d tests.1) tests.2 (IsTrueOf-fact_at x standing n h)
