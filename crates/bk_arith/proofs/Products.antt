-- Sums of coefficients times atoms, multiplied and added.
use Rattle.std.proofs.Common.{◌≡◌, ℕ, zero, suc, ℤ, pos, negsuc, ◌+ℤ◌, ◌-ℤ◌, ◌*ℤ◌, List, [], ◌∷◌, map, replicate, ap, sym, ◌∙◌, arith}
use Rattle.std.proofs.Math.IntN.{*ℤ-zero, pred_ℤ, pred_ℤ-*ℤ, +ℤ_idl}
use Rattle.std.proofs.lemmas.Int.{ints}
use Rattle.bk_lin.specs.Inequality.{Inequality, dot, plus, times}
use Rattle.bk_lin.proofs.Whole.{*ℤ-+ℤ, +ℤ-*ℤ, pos-*ℤ_assoc}
use Rattle.bk_lin.proofs.Sound.{dot-sum_of_coefs, dot-replicate}

minus-*ℤ : (a b x : ℤ) → (a -ℤ b) *ℤ x ≡ a *ℤ x -ℤ b *ℤ x
minus-*ℤ a b x =
    let e : (a -ℤ b) +ℤ b ≡ a = omega (arith, ints) in
    let h : a *ℤ x ≡ (a -ℤ b) *ℤ x +ℤ b *ℤ x = ap (λ s. s *ℤ x) (sym e) ∙ +ℤ-*ℤ (a -ℤ b) b x in
    let u : ℤ = (a -ℤ b) *ℤ x in
    moved (a *ℤ x) ((a -ℤ b) *ℤ x) (b *ℤ x) h
  where
    moved : (p q r : ℤ) → p ≡ q +ℤ r → q ≡ p -ℤ r
    moved p q r h = omega (arith, ints)

one_less : (m c x : ℤ) → m *ℤ (c *ℤ x) ≡ (m *ℤ c) *ℤ x → pred_ℤ m *ℤ (c *ℤ x) ≡ (pred_ℤ m *ℤ c) *ℤ x
one_less m c x h =
    pred_ℤ-*ℤ m (c *ℤ x) ∙ ap (λ s. s -ℤ c *ℤ x) h ∙ sym (minus-*ℤ (m *ℤ c) c x) ∙ ap (λ s. s *ℤ x) (sym (pred_ℤ-*ℤ m c))

pub *ℤ_assoc : (m c x : ℤ) → m *ℤ (c *ℤ x) ≡ (m *ℤ c) *ℤ x
*ℤ_assoc (pos n) c x = pos-*ℤ_assoc n c x
*ℤ_assoc (negsuc zero) c x = one_less (pos 0) c x (pos-*ℤ_assoc 0 c x)
*ℤ_assoc (negsuc (suc n)) c x = one_less (negsuc n) c x (*ℤ_assoc (negsuc n) c x)

dot-times : (m : ℤ) (cs : List ℤ) (x : ℕ → ℤ) → dot (map (λ c. m *ℤ c) cs) x ≡ m *ℤ dot cs x
dot-times m [] x = sym (*ℤ-zero m)
dot-times m (c ∷ cs) x =
    ap (λ s. s +ℤ dot (map (λ d. m *ℤ d) cs) (λ k. x (suc k))) (sym (*ℤ_assoc m c (x 0)))
    ∙ ap (λ s. m *ℤ (c *ℤ x 0) +ℤ s) (dot-times m cs (λ k. x (suc k)))
    ∙ sym (*ℤ-+ℤ m (c *ℤ x 0) (dot cs (λ k. x (suc k))))

-- the value of a linear form
abbrev pub form_value : (ℕ → ℤ) → Inequality → ℤ
form_value x p = dot p.coefs x +ℤ p.constant

pub value-plus : (x : ℕ → ℤ) (p q : Inequality) → form_value x (plus p q) ≡ form_value x p +ℤ form_value x q
value-plus x p q =
    ap (λ s. s +ℤ (p.constant +ℤ q.constant)) (dot-sum_of_coefs p.coefs q.coefs x)
    ∙ regrouped (dot p.coefs x) (dot q.coefs x) p.constant q.constant
  where
    regrouped : (a b c d : ℤ) → (a +ℤ b) +ℤ (c +ℤ d) ≡ (a +ℤ c) +ℤ (b +ℤ d)
    regrouped a b c d = omega (arith, ints)

pub value-times : (x : ℕ → ℤ) (m : ℤ) (p : Inequality) → form_value x (times m p) ≡ m *ℤ form_value x p
value-times x m p = ap (λ s. s +ℤ m *ℤ p.constant) (dot-times m p.coefs x) ∙ sym (*ℤ-+ℤ m (dot p.coefs x) p.constant)

pub value-difference : (x : ℕ → ℤ) (p q : Inequality) → form_value x (plus p (times (negsuc 0) q)) ≡ form_value x p -ℤ form_value x q
value-difference x p q =
    value-plus x p (times (negsuc 0) q) ∙ ap (λ s. form_value x p +ℤ s) (value-times x (negsuc 0) q)
    ∙ taken (form_value x p) (form_value x q)
  where
    taken : (a b : ℤ) → a +ℤ negsuc 0 *ℤ b ≡ a -ℤ b
    taken a b = omega (arith, ints)

pub value-negative : (x : ℕ → ℤ) (p : Inequality) → form_value x (times (negsuc 0) p) ≡ pos 0 -ℤ form_value x p
value-negative x p = value-times x (negsuc 0) p ∙ negated (form_value x p)
  where
    negated : (a : ℤ) → negsuc 0 *ℤ a ≡ pos 0 -ℤ a
    negated a = omega (arith, ints)

pub value-number : (x : ℕ → ℤ) (n : ℕ) (z : ℤ) → dot (replicate n (pos 0)) x +ℤ z ≡ z
value-number x n z = ap (λ s. s +ℤ z) (dot-replicate n x) ∙ +ℤ_idl z
