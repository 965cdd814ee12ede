-- Inequalities that some values meet have no multipliers that sum them to a contradiction.
use Rattle.std.proofs.Common.{◌≡◌, ℕ, zero, suc, ◌<◌, ◌≤◌, ℤ, pos, ◌+ℤ◌, ◌*ℤ◌, ◌≤ℤ◌, ◌<ℤ◌, List, [], ◌∷◌, length, All, refl, ap, sym, ◌∙◌, arith}
use Rattle.std.proofs.Math.IntN.{zero-*ℤ, *ℤ-zero, *ℤ_comm, +ℤ_idl, +ℤ_idr}
use Rattle.std.proofs.lemmas.Int.{ints}
use Rattle.std.proofs.lemmas.List.Elements.{All-head, All-tail}
use Rattle.bk_lin.specs.Inequality.{Inequality, dot, zero_of, times, plus, plus_all}
use Rattle.bk_lin.proofs.Whole.{*ℤ-+ℤ, +ℤ-*ℤ, 0≤-*ℤ}
use Rattle.bk_lin.proofs.Sound.{dot-sum_of_coefs, dot-replicate}
use Rattle.bk_elim.specs.Elimination.{entry}
use Rattle.bk_elim.specs.Refutation.{multiples, Refutes}
use Rattle.bk_elim.proofs.Ring.{*ℤ_assoc, cancel}
use Rattle.bk_elim.proofs.Model.{dot-times}

-- the value of an inequality at values over a denominator t
abbrev pub worth : (ℕ → ℤ) → ℤ → Inequality → ℤ
worth x t p = dot p.coefs x +ℤ p.constant *ℤ t

regroup : (p q r s : ℤ) → (p +ℤ q) +ℤ (r +ℤ s) ≡ (p +ℤ r) +ℤ (q +ℤ s)
regroup p q r s = omega (arith, ints)

worth-plus : (x : ℕ → ℤ) (t : ℤ) (p q : Inequality) → worth x t (plus p q) ≡ worth x t p +ℤ worth x t q
worth-plus x t p q =
    ap (λ w. w +ℤ (p.constant +ℤ q.constant) *ℤ t) (dot-sum_of_coefs p.coefs q.coefs x)
    ∙ ap (λ w. (dot p.coefs x +ℤ dot q.coefs x) +ℤ w) (+ℤ-*ℤ p.constant q.constant t)
    ∙ regroup (dot p.coefs x) (dot q.coefs x) (p.constant *ℤ t) (q.constant *ℤ t)

worth-times : (x : ℕ → ℤ) (t m : ℤ) (p : Inequality) → worth x t (times m p) ≡ m *ℤ worth x t p
worth-times x t m p =
    ap (λ w. w +ℤ (m *ℤ p.constant) *ℤ t) (dot-times m p.coefs x)
    ∙ ap (λ w. m *ℤ dot p.coefs x +ℤ w) (sym (*ℤ_assoc m p.constant t))
    ∙ sym (*ℤ-+ℤ m (dot p.coefs x) (p.constant *ℤ t))

worth-zero_of : (x : ℕ → ℤ) (t : ℤ) (n : ℕ) → worth x t (zero_of n) ≡ pos 0
worth-zero_of x t n = ap (λ w. w +ℤ pos 0 *ℤ t) (dot-replicate n x) ∙ ap (λ w. pos 0 +ℤ w) (zero-*ℤ t)

worth-multiples : (x : ℕ → ℤ) (t : ℤ) (z : Inequality) (ms : List ℕ) (ps : List Inequality) → pos 0 ≤ℤ worth x t z → All (λ p. pos 0 ≤ℤ worth x t p) ps → pos 0 ≤ℤ worth x t (plus_all z (multiples ms ps))
worth-multiples x t z [] ps h k = h
worth-multiples x t z (m ∷ ms) [] h k = h
worth-multiples x t z (m ∷ ms) (p ∷ ps) h k =
    worth-multiples x t (plus z (times (pos m) p)) ms ps
    (let a : worth x t (plus z (times (pos m) p)) ≡ worth x t z +ℤ worth x t (times (pos m) p) = worth-plus x t z (times (pos m) p) in
    let b : worth x t (times (pos m) p) ≡ pos m *ℤ worth x t p = worth-times x t (pos m) p in
    let c : pos 0 ≤ℤ (pos m *ℤ worth x t p) = 0≤-*ℤ (pos m) (worth x t p) (omega (arith, ints)) (All-head (λ q. pos 0 ≤ℤ worth x t q) p ps k) in
    omega (arith, ints))
    (All-tail (λ q. pos 0 ≤ℤ worth x t q) p ps k)

dot-none : (cs : List ℤ) (x : ℕ → ℤ) → All (λ c. c ≡ pos 0) cs → dot cs x ≡ pos 0
dot-none [] x h = refl
dot-none (c ∷ cs) x h =
    ap (λ s. s *ℤ x 0 +ℤ dot cs (λ k. x (suc k))) (All-head (λ d. d ≡ pos 0) c cs h)
    ∙ ap (λ s. s +ℤ dot cs (λ k. x (suc k))) (zero-*ℤ (x 0))
    ∙ +ℤ_idl (dot cs (λ k. x (suc k)))
    ∙ dot-none cs (λ k. x (suc k)) (All-tail (λ d. d ≡ pos 0) c cs h)

-- a negative constant over a positive denominator is negative
negative : (c t : ℤ) → c <ℤ pos 0 → pos 0 <ℤ t → pos 0 ≤ℤ (c *ℤ t) → ⊥
negative c t h k l =
    let e : c *ℤ t ≡ t *ℤ c = *ℤ_comm c t in
    let f : pos 0 ≤ℤ c = cancel t c k (omega (arith, ints)) in omega (arith, ints)

pub not_refuted : (x : ℕ → ℤ) (t : ℤ) (width : ℕ) (ps : List Inequality) (ms : List ℕ) → pos 0 <ℤ t → All (λ p. pos 0 ≤ℤ worth x t p) ps → Refutes width ps ms → ⊥
not_refuted x t width ps ms positive met bad =
    let sum : Inequality = plus_all (zero_of width) (multiples ms ps) in
    let a : pos 0 ≤ℤ worth x t sum = worth-multiples x t (zero_of width) ms ps (let z = worth-zero_of x t width in omega (arith, ints)) met in
    let b : dot sum.coefs x ≡ pos 0 = dot-none sum.coefs x bad.0 in
    negative sum.constant t bad.1 positive (omega (arith, ints))

-- ---- the value of a row, by its first five entries
dot_past : (cs : List ℤ) (x : ℕ → ℤ) → ((k : ℕ) → x k ≡ pos 0) → dot cs x ≡ pos 0
dot_past [] x h = refl
dot_past (c ∷ cs) x h =
    ap (λ w. c *ℤ w +ℤ dot cs (λ k. x (suc k))) (h 0) ∙ ap (λ w. w +ℤ dot cs (λ k. x (suc k))) (*ℤ-zero c)
    ∙ +ℤ_idl (dot cs (λ k. x (suc k))) ∙ dot_past cs (λ k. x (suc k)) (λ k. h (suc k))

-- a list's value by its first entry and the others
abbrev rest : List ℤ → List ℤ
rest [] = []
rest (c ∷ cs) = cs

dot_first : (cs : List ℤ) (x : ℕ → ℤ) → dot cs x ≡ entry cs 0 *ℤ x 0 +ℤ dot (rest cs) (λ k. x (suc k))
dot_first [] x = sym (ap (λ w. w +ℤ pos 0) (zero-*ℤ (x 0)))
dot_first (c ∷ cs) x = refl

entry_rest : (cs : List ℤ) (k : ℕ) → entry (rest cs) k ≡ entry cs (suc k)
entry_rest [] k = refl
entry_rest (c ∷ cs) k = refl

-- the first n entries times their values
abbrev first_sum : ℕ → List ℤ → (ℕ → ℤ) → ℤ
first_sum zero cs x = pos 0
first_sum (suc n) cs x = entry cs 0 *ℤ x 0 +ℤ first_sum n (rest cs) (λ k. x (suc k))

dot_firsts : (n : ℕ) (cs : List ℤ) (x : ℕ → ℤ) → ((k : ℕ) → n ≤ k → x k ≡ pos 0) → dot cs x ≡ first_sum n cs x
dot_firsts zero cs x h = dot_past cs x (λ k. h k (omega arith))
dot_firsts (suc n) cs x h =
    dot_first cs x ∙ ap (λ w. entry cs 0 *ℤ x 0 +ℤ w) (dot_firsts n (rest cs) (λ k. x (suc k)) (λ k l. h (suc k) (omega arith)))

dot_short : (n : ℕ) (cs : List ℤ) (x : ℕ → ℤ) → length cs ≤ n → dot cs x ≡ first_sum n cs x
dot_short zero [] x h = refl
dot_short zero (c ∷ cs) x h = absurd (omega arith)
dot_short (suc n) [] x h = dot_first [] x ∙ ap (λ w. pos 0 *ℤ x 0 +ℤ w) (dot_short n [] (λ k. x (suc k)) (omega arith))
dot_short (suc n) (c ∷ cs) x h = ap (λ w. c *ℤ x 0 +ℤ w) (dot_short n cs (λ k. x (suc k)) (omega arith))

first_same : (n : ℕ) (cs ds : List ℤ) (x : ℕ → ℤ) → ((k : ℕ) → k < n → entry cs k ≡ entry ds k) → first_sum n cs x ≡ first_sum n ds x
first_same zero cs ds x h = refl
first_same (suc n) cs ds x h =
    ap (λ w. w *ℤ x 0 +ℤ first_sum n (rest cs) (λ k. x (suc k))) (h 0 (omega arith))
    ∙ ap (λ w. entry ds 0 *ℤ x 0 +ℤ w) (first_same n (rest cs) (rest ds) (λ k. x (suc k))
    (λ k l. entry_rest cs k ∙ h (suc k) (omega arith) ∙ sym (entry_rest ds k)))

-- one more entry at the end
first_more : (n : ℕ) (cs : List ℤ) (x : ℕ → ℤ) → first_sum (suc n) cs x ≡ first_sum n cs x +ℤ entry cs n *ℤ x n
first_more zero cs x = +ℤ_idr (entry cs 0 *ℤ x 0) ∙ sym (+ℤ_idl (entry cs 0 *ℤ x 0))
first_more (suc n) cs x =
    ap (λ w. entry cs 0 *ℤ x 0 +ℤ w) (first_more n (rest cs) (λ k. x (suc k)))
    ∙ ap (λ w. entry cs 0 *ℤ x 0 +ℤ (first_sum n (rest cs) (λ k. x (suc k)) +ℤ w *ℤ x (suc n))) (entry_rest cs n)
    ∙ onward (entry cs 0 *ℤ x 0) (first_sum n (rest cs) (λ k. x (suc k))) (entry cs (suc n) *ℤ x (suc n))
  where
    onward : (a b c : ℤ) → a +ℤ (b +ℤ c) ≡ (a +ℤ b) +ℤ c
    onward a b c = omega (arith, ints)

-- a row that begins as an inequality does has its value
pub dot_worth : (row : List ℤ) (p : Inequality) (x : ℕ → ℤ) → length p.coefs ≤ 4 → ((k : ℕ) → k < 4 → entry row k ≡ entry p.coefs k) → entry row 4 ≡ p.constant → ((k : ℕ) → 4 < k → x k ≡ pos 0) → dot row x ≡ worth x (x 4) p
dot_worth row p x short same last beyond =
    dot_firsts 5 row x (λ k h. beyond k (omega arith))
    ∙ first_more 4 row x
    ∙ ap (λ w. w +ℤ entry row 4 *ℤ x 4) (first_same 4 row p.coefs x same ∙ sym (dot_short 4 p.coefs x short))
    ∙ ap (λ w. dot p.coefs x +ℤ w *ℤ x 4) last
