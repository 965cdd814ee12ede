-- One atom: where the facts that have it positive and those that have it negative agree two by two, some value of it meets all.
use Rattle.std.proofs.Common.{◌≡◌, suc, ℤ, pos, ◌+ℤ◌, ◌-ℤ◌, ◌*ℤ◌, ◌≤ℤ◌, ◌<ℤ◌, List, [], ◌∷◌, All, ap, ◌∙◌, arith, get_or}
use Rattle.std.proofs.Math.IntN.{zero-*ℤ, *ℤ-zero, *ℤ_comm}
use Rattle.std.proofs.lemmas.Int.{ints, by_lt_z}
use Rattle.std.proofs.lemmas.List.Elements.{All-tail, All-nil, All-cons}
use Rattle.bk_lin.proofs.Whole.{*ℤ-+ℤ, 0≤-*ℤ}
use Rattle.bk_elim.proofs.Ring.{minus-*ℤ, minus-*ℤ-minus, *ℤ--ℤ, swap, cancel, ≤0-*ℤ}

-- a row with coefficient h and rest d that the point z / s does not meet, and one that it meets, agree once the point moves onto
-- the first
moves : (h d h' d' z s : ℤ) → pos 0 <ℤ h → pos 0 <ℤ h' → pos 0 <ℤ s → (s *ℤ d +ℤ z *ℤ h) <ℤ pos 0 → pos 0 ≤ℤ (s *ℤ d' +ℤ z *ℤ h') → pos 0 ≤ℤ (h *ℤ d' -ℤ h' *ℤ d)
moves h d h' d' z s up up' positive below met =
    let a : pos 0 ≤ℤ (h *ℤ (s *ℤ d' +ℤ z *ℤ h')) = 0≤-*ℤ h (s *ℤ d' +ℤ z *ℤ h') (omega (arith, ints)) met in
    let b : (h' *ℤ (s *ℤ d +ℤ z *ℤ h)) ≤ℤ pos 0 = ≤0-*ℤ h' (s *ℤ d +ℤ z *ℤ h) (omega (arith, ints)) (omega (arith, ints)) in
    let a1 : h *ℤ (s *ℤ d' +ℤ z *ℤ h') ≡ s *ℤ (h *ℤ d') +ℤ z *ℤ (h *ℤ h') =
    *ℤ-+ℤ h (s *ℤ d') (z *ℤ h') ∙ ap (λ w. w +ℤ h *ℤ (z *ℤ h')) (swap h s d') ∙ ap (λ w. s *ℤ (h *ℤ d') +ℤ w) (swap h z h') in
    let b1 : h' *ℤ (s *ℤ d +ℤ z *ℤ h) ≡ s *ℤ (h' *ℤ d) +ℤ z *ℤ (h *ℤ h') =
    *ℤ-+ℤ h' (s *ℤ d) (z *ℤ h) ∙ ap (λ w. w +ℤ h' *ℤ (z *ℤ h)) (swap h' s d)
    ∙ ap (λ w. s *ℤ (h' *ℤ d) +ℤ w) (swap h' z h ∙ ap (λ w. z *ℤ w) (*ℤ_comm h' h)) in
    let c : s *ℤ (h *ℤ d' -ℤ h' *ℤ d) ≡ s *ℤ (h *ℤ d') -ℤ s *ℤ (h' *ℤ d) = *ℤ--ℤ s (h *ℤ d') (h' *ℤ d) in
    cancel s (h *ℤ d' -ℤ h' *ℤ d) positive (omega (arith, ints))

-- the point moves onto a row with a positive coefficient
up_step : (h d h' d' z s : ℤ) → pos 0 <ℤ h → pos 0 <ℤ s → (s *ℤ d +ℤ z *ℤ h) <ℤ pos 0 → (h' ≡ pos 0 → pos 0 ≤ℤ d') → (pos 0 <ℤ h → h' <ℤ pos 0 → pos 0 ≤ℤ ((pos 0 -ℤ h') *ℤ d +ℤ h *ℤ d')) → pos 0 ≤ℤ (s *ℤ d' +ℤ z *ℤ h') → pos 0 ≤ℤ (h *ℤ d' +ℤ (pos 0 -ℤ d) *ℤ h')
up_step h d h' d' z s up positive below level pair met =
    let e : (pos 0 -ℤ d) *ℤ h' ≡ pos 0 -ℤ h' *ℤ d = minus-*ℤ d h' ∙ ap (λ w. pos 0 -ℤ w) (*ℤ_comm d h') in
    let f : (pos 0 -ℤ h') *ℤ d ≡ pos 0 -ℤ h' *ℤ d = minus-*ℤ h' d in
    by_lt_z (pos 0) h'
    (λ up'. let g : pos 0 ≤ℤ (h *ℤ d' -ℤ h' *ℤ d) = moves h d h' d' z s up up' positive below met in omega (arith, ints))
    (λ not_up. by_lt_z h' (pos 0)
    (λ down'. let g : pos 0 ≤ℤ ((pos 0 -ℤ h') *ℤ d +ℤ h *ℤ d') = pair up down' in omega (arith, ints))
    (λ not_down. let none : h' ≡ pos 0 = omega (arith, ints) in
    let g : pos 0 ≤ℤ (h *ℤ d') = 0≤-*ℤ h d' (omega (arith, ints)) (level none) in
    let k : h' *ℤ d ≡ pos 0 = ap (λ w. w *ℤ d) none ∙ zero-*ℤ d in
    omega (arith, ints)))

-- the point moves onto a row with a negative coefficient
down_step : (h d h' d' z s : ℤ) → h <ℤ pos 0 → pos 0 <ℤ s → (s *ℤ d +ℤ z *ℤ h) <ℤ pos 0 → (h' ≡ pos 0 → pos 0 ≤ℤ d') → (pos 0 <ℤ h' → h <ℤ pos 0 → pos 0 ≤ℤ ((pos 0 -ℤ h) *ℤ d' +ℤ h' *ℤ d)) → pos 0 ≤ℤ (s *ℤ d' +ℤ z *ℤ h') → pos 0 ≤ℤ ((pos 0 -ℤ h) *ℤ d' +ℤ d *ℤ h')
down_step h d h' d' z s down positive below level pair met =
    let e : d *ℤ h' ≡ h' *ℤ d = *ℤ_comm d h' in
    by_lt_z h' (pos 0)
    (λ down'.
    let n : (pos 0 -ℤ z) *ℤ (pos 0 -ℤ h) ≡ z *ℤ h = minus-*ℤ-minus z h in
    let n' : (pos 0 -ℤ z) *ℤ (pos 0 -ℤ h') ≡ z *ℤ h' = minus-*ℤ-minus z h' in
    let g : pos 0 ≤ℤ ((pos 0 -ℤ h) *ℤ d' -ℤ (pos 0 -ℤ h') *ℤ d) =
    moves (pos 0 -ℤ h) d (pos 0 -ℤ h') d' (pos 0 -ℤ z) s (omega (arith, ints)) (omega (arith, ints)) positive (omega (arith, ints)) (omega (arith, ints)) in
    let f : (pos 0 -ℤ h') *ℤ d ≡ pos 0 -ℤ h' *ℤ d = minus-*ℤ h' d in
    omega (arith, ints))
    (λ not_down. by_lt_z (pos 0) h'
    (λ up'. let g : pos 0 ≤ℤ ((pos 0 -ℤ h) *ℤ d' +ℤ h' *ℤ d) = pair up' down in omega (arith, ints))
    (λ not_up. let none : h' ≡ pos 0 = omega (arith, ints) in
    let g : pos 0 ≤ℤ ((pos 0 -ℤ h) *ℤ d') = 0≤-*ℤ (pos 0 -ℤ h) d' (omega (arith, ints)) (level none) in
    let k : h' *ℤ d ≡ pos 0 = ap (λ w. w *ℤ d) none ∙ zero-*ℤ d in
    omega (arith, ints)))

-- rows, each with a coefficient and the value of its rest, that agree two by two
pub record IsFine {R : Type 0} (h d : R → ℤ) (rows : List R) : Type 0 where
  pub level : All (λ r. h r ≡ pos 0 → pos 0 ≤ℤ d r) rows
  pub pair : All (λ p. All (λ q. pos 0 <ℤ h p → h q <ℤ pos 0 → pos 0 ≤ℤ ((pos 0 -ℤ h q) *ℤ d p +ℤ h p *ℤ d q)) rows) rows

-- the point z / s, with s positive, meets all rows
abbrev pub Placed : {R : Type 0} → (R → ℤ) → (R → ℤ) → List R → Type 0
Placed h d rows = (z : ℤ) × (s : ℤ) × (pos 0 <ℤ s) × All (λ r. pos 0 ≤ℤ (s *ℤ d r +ℤ z *ℤ h r)) rows

rest_fine : {R : Type 0} (h d : R → ℤ) (r : R) (rows : List R) → IsFine h d (r ∷ rows) → IsFine h d rows
rest_fine {R} h d r rows f = record {
  level = All-tail (λ r. h r ≡ pos 0 → pos 0 ≤ℤ d r) r rows f.level;
  pair = λ k e b. All-tail (λ q. pos 0 <ℤ h (get_or rows k e) → h q <ℤ pos 0 → pos 0 ≤ℤ ((pos 0 -ℤ h q) *ℤ d (get_or rows k e) +ℤ h (get_or rows k e) *ℤ d q)) r rows (f.pair (suc k) e (omega arith));
}

onto_up : {R : Type 0} (h d : R → ℤ) (r : R) (rows : List R) → IsFine h d (r ∷ rows) → (older : Placed h d rows) → pos 0 <ℤ h r → (older.1 *ℤ d r +ℤ older.0 *ℤ h r) <ℤ pos 0 → Placed h d (r ∷ rows)
onto_up h d r rows f older up below = (
  pos 0 -ℤ d r,
  h r,
  up,
  All-cons (λ q. pos 0 ≤ℤ (h r *ℤ d q +ℤ (pos 0 -ℤ d r) *ℤ h q)) r rows
      (let e : (pos 0 -ℤ d r) *ℤ h r ≡ pos 0 -ℤ d r *ℤ h r = minus-*ℤ (d r) (h r) in let c : d r *ℤ h r ≡ h r *ℤ d r = *ℤ_comm (d r) (h r) in omega (arith, ints))
      (λ k e b. up_step (h r) (d r) (h (get_or rows k e)) (d (get_or rows k e)) older.0 older.1 up older.2 below
      (f.level (suc k) e (omega arith)) (f.pair 0 r (omega arith) (suc k) e (omega arith)) (older.3 k e b)),
)

onto_down : {R : Type 0} (h d : R → ℤ) (r : R) (rows : List R) → IsFine h d (r ∷ rows) → (older : Placed h d rows) → h r <ℤ pos 0 → (older.1 *ℤ d r +ℤ older.0 *ℤ h r) <ℤ pos 0 → Placed h d (r ∷ rows)
onto_down h d r rows f older down below = (
  d r,
  pos 0 -ℤ h r,
  omega (arith, ints),
  All-cons (λ q. pos 0 ≤ℤ ((pos 0 -ℤ h r) *ℤ d q +ℤ d r *ℤ h q)) r rows
      (let e : (pos 0 -ℤ h r) *ℤ d r ≡ pos 0 -ℤ h r *ℤ d r = minus-*ℤ (h r) (d r) in let c : d r *ℤ h r ≡ h r *ℤ d r = *ℤ_comm (d r) (h r) in omega (arith, ints))
      (λ k e b. down_step (h r) (d r) (h (get_or rows k e)) (d (get_or rows k e)) older.0 older.1 down older.2 below
      (f.level (suc k) e (omega arith)) (f.pair (suc k) e (omega arith) 0 r (omega arith)) (older.3 k e b)),
)

flat_row : (h d z s : ℤ) → h ≡ pos 0 → pos 0 <ℤ s → pos 0 ≤ℤ d → (s *ℤ d +ℤ z *ℤ h) <ℤ pos 0 → ⊥
flat_row h d z s none positive fine below =
    let g : pos 0 ≤ℤ (s *ℤ d) = 0≤-*ℤ s d (omega (arith, ints)) fine in
    let k : z *ℤ h ≡ pos 0 = ap (λ w. z *ℤ w) none ∙ *ℤ-zero z in
    omega (arith, ints)

pub point : {R : Type 0} (h d : R → ℤ) (rows : List R) → IsFine h d rows → Placed h d rows
point h d [] f = (pos 0, pos 1, omega (arith, ints), All-nil (λ r. pos 0 ≤ℤ (pos 1 *ℤ d r +ℤ pos 0 *ℤ h r)))
point h d (r ∷ rows) f =
    let older : Placed h d rows = point h d rows (rest_fine h d r rows f) in
    by_lt_z {P = Placed h d (r ∷ rows)} (older.1 *ℤ d r +ℤ older.0 *ℤ h r) (pos 0)
    (λ below. by_lt_z {P = Placed h d (r ∷ rows)} (pos 0) (h r)
    (λ up. onto_up h d r rows f older up below)
    (λ not_up. by_lt_z {P = Placed h d (r ∷ rows)} (h r) (pos 0)
    (λ down. onto_down h d r rows f older down below)
    (λ not_down. let none : h r ≡ pos 0 = omega (arith, ints) in
    absurd (flat_row (h r) (d r) older.0 older.1 none older.2 (f.level 0 r (omega arith) none) below))))
    (λ met. (older.0, older.1, older.2, All-cons (λ q. pos 0 ≤ℤ (older.1 *ℤ d q +ℤ older.0 *ℤ h q)) r rows met older.3))
