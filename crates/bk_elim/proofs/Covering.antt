-- Rows of one atom that two bounds cover, where the bounds agree, are met by one value of the atom.
use Rattle.std.proofs.Common.{◌≡◌, ℤ, pos, ◌+ℤ◌, ◌-ℤ◌, ◌*ℤ◌, ◌≤ℤ◌, ◌<ℤ◌, List, Option, Some, None, subst, ap, sym, ◌∙◌, arith}
use Rattle.std.proofs.Math.IntN.{*ℤ-zero, *ℤ_comm}
use Rattle.std.proofs.lemmas.Int.{ints, by_lt_z}
use Rattle.bk_lin.proofs.Whole.{0≤-*ℤ}
use Rattle.bk_elim.specs.Elimination.{entry, joined}
use Rattle.bk_lin.specs.Inequality.{Inequality}
use Rattle.bk_elim.specs.Rows.{IsRow}
use Rattle.bk_elim.specs.Bounds.{IsBelow, IsAbove, IsCovered, IsLow, IsHigh, IsAgreed, IsBetterLow, IsBetterHigh, AreBounds, IsTaken}
use Rattle.bk_elim.proofs.Ring.{minus-*ℤ, *ℤ-minus, *ℤ--ℤ, swap, cancel}
use Rattle.bk_elim.proofs.Rows.{entry-mixed}

-- fractions k / h, by cross products with positive h: m / g <= k / h and k / h <= l / f give m / g <= l / f
pub chained : (m g k h l f : ℤ) → pos 0 <ℤ g → pos 0 <ℤ h → pos 0 <ℤ f → (m *ℤ h) ≤ℤ (k *ℤ g) → (k *ℤ f) ≤ℤ (l *ℤ h) → (m *ℤ f) ≤ℤ (l *ℤ g)
chained m g k h l f pg ph pf a b =
    let x : pos 0 ≤ℤ (f *ℤ (k *ℤ g -ℤ m *ℤ h)) = 0≤-*ℤ f (k *ℤ g -ℤ m *ℤ h) (omega (arith, ints)) (omega (arith, ints)) in
    let y : pos 0 ≤ℤ (g *ℤ (l *ℤ h -ℤ k *ℤ f)) = 0≤-*ℤ g (l *ℤ h -ℤ k *ℤ f) (omega (arith, ints)) (omega (arith, ints)) in
    let x1 : f *ℤ (k *ℤ g -ℤ m *ℤ h) ≡ k *ℤ (f *ℤ g) -ℤ h *ℤ (m *ℤ f) =
    *ℤ--ℤ f (k *ℤ g) (m *ℤ h) ∙ ap (λ w. w -ℤ f *ℤ (m *ℤ h)) (swap f k g)
    ∙ ap (λ w. k *ℤ (f *ℤ g) -ℤ f *ℤ w) (*ℤ_comm m h) ∙ ap (λ w. k *ℤ (f *ℤ g) -ℤ w) (swap f h m ∙ ap (λ w. h *ℤ w) (*ℤ_comm f m)) in
    let y1 : g *ℤ (l *ℤ h -ℤ k *ℤ f) ≡ h *ℤ (l *ℤ g) -ℤ k *ℤ (f *ℤ g) =
    *ℤ--ℤ g (l *ℤ h) (k *ℤ f) ∙ ap (λ w. g *ℤ w -ℤ g *ℤ (k *ℤ f)) (*ℤ_comm l h)
    ∙ ap (λ w. w -ℤ g *ℤ (k *ℤ f)) (swap g h l ∙ ap (λ w. h *ℤ w) (*ℤ_comm g l))
    ∙ ap (λ w. h *ℤ (l *ℤ g) -ℤ w) (swap g k f ∙ ap (λ w. k *ℤ w) (*ℤ_comm g f)) in
    let z1 : h *ℤ (l *ℤ g -ℤ m *ℤ f) ≡ h *ℤ (l *ℤ g) -ℤ h *ℤ (m *ℤ f) = *ℤ--ℤ h (l *ℤ g) (m *ℤ f) in
    let z : pos 0 ≤ℤ (l *ℤ g -ℤ m *ℤ f) = cancel h (l *ℤ g -ℤ m *ℤ f) ph (omega (arith, ints)) in
    omega (arith, ints)

-- ---- the value that meets all: z over s
abbrev pub top : Option (List ℤ) → Option (List ℤ) → ℤ
top (Some p) high = pos 0 -ℤ entry p 4
top None (Some q) = entry q 4
top None None = pos 0

abbrev pub under : Option (List ℤ) → Option (List ℤ) → ℤ
under (Some p) high = entry p 3
under None (Some q) = pos 0 -ℤ entry q 3
under None None = pos 1

pub under-positive : (low high : Option (List ℤ)) → IsLow low → IsHigh high → pos 0 <ℤ under low high
under-positive (Some p) high a b = a
under-positive None (Some q) a b = omega (arith, ints)
under-positive None None a b = omega (arith, ints)

flat : (s k z h : ℤ) → pos 0 <ℤ s → pos 0 ≤ℤ k → h ≡ pos 0 → pos 0 ≤ℤ (s *ℤ k +ℤ z *ℤ h)
flat s k z h a b c =
    let e : pos 0 ≤ℤ (s *ℤ k) = 0≤-*ℤ s k (omega (arith, ints)) b in
    let f : z *ℤ h ≡ pos 0 = ap (λ w. z *ℤ w) c ∙ *ℤ-zero z in
    omega (arith, ints)

-- a row that the lower bound covers is met by it
met_by_low : (pk ph rk rh : ℤ) → (pk *ℤ rh) ≤ℤ (rk *ℤ ph) → pos 0 ≤ℤ (ph *ℤ rk +ℤ (pos 0 -ℤ pk) *ℤ rh)
met_by_low pk ph rk rh a =
    let e : (pos 0 -ℤ pk) *ℤ rh ≡ pos 0 -ℤ pk *ℤ rh = minus-*ℤ pk rh in
    let f : ph *ℤ rk ≡ rk *ℤ ph = *ℤ_comm ph rk in omega (arith, ints)

met_by_high : (qk qh rk rh : ℤ) → (qk *ℤ (pos 0 -ℤ rh)) ≤ℤ (rk *ℤ (pos 0 -ℤ qh)) → pos 0 ≤ℤ ((pos 0 -ℤ qh) *ℤ rk +ℤ qk *ℤ rh)
met_by_high qk qh rk rh a =
    let e : qk *ℤ (pos 0 -ℤ rh) ≡ pos 0 -ℤ qk *ℤ rh = *ℤ-minus qk rh in
    let f : (pos 0 -ℤ qh) *ℤ rk ≡ rk *ℤ (pos 0 -ℤ qh) = *ℤ_comm (pos 0 -ℤ qh) rk in omega (arith, ints)

-- a row that the upper bound covers is met by the lower one, as the two agree
met_across : (pk ph qk qh rk rh : ℤ) → pos 0 <ℤ ph → qh <ℤ pos 0 → rh <ℤ pos 0 → pos 0 ≤ℤ ((pos 0 -ℤ qh) *ℤ pk +ℤ ph *ℤ qk) → (qk *ℤ (pos 0 -ℤ rh)) ≤ℤ (rk *ℤ (pos 0 -ℤ qh)) → pos 0 ≤ℤ (ph *ℤ rk +ℤ (pos 0 -ℤ pk) *ℤ rh)
met_across pk ph qk qh rk rh up down downr agreed covered =
    let a : pos 0 -ℤ pk *ℤ (pos 0 -ℤ qh) ≡ (pos 0 -ℤ pk) *ℤ (pos 0 -ℤ qh) = sym (minus-*ℤ pk (pos 0 -ℤ qh)) in
    let b : (pos 0 -ℤ qh) *ℤ pk ≡ pk *ℤ (pos 0 -ℤ qh) = *ℤ_comm (pos 0 -ℤ qh) pk in
    let c : ph *ℤ qk ≡ qk *ℤ ph = *ℤ_comm ph qk in
    let chain : ((pos 0 -ℤ pk) *ℤ (pos 0 -ℤ rh)) ≤ℤ (rk *ℤ ph) =
    chained (pos 0 -ℤ pk) ph qk (pos 0 -ℤ qh) rk (pos 0 -ℤ rh) up (omega (arith, ints)) (omega (arith, ints)) (omega (arith, ints)) covered in
    let d : (pos 0 -ℤ pk) *ℤ (pos 0 -ℤ rh) ≡ pos 0 -ℤ (pos 0 -ℤ pk) *ℤ rh = *ℤ-minus (pos 0 -ℤ pk) rh in
    let e : ph *ℤ rk ≡ rk *ℤ ph = *ℤ_comm ph rk in
    omega (arith, ints)

pub met_if_covered : (low high : Option (List ℤ)) (r : List ℤ) → IsLow low → IsHigh high → IsAgreed low high → IsCovered low high (entry r 3) (entry r 4) → pos 0 ≤ℤ (under low high *ℤ entry r 4 +ℤ top low high *ℤ entry r 3)
met_if_covered (Some p) None r a b c f =
    by_lt_z (pos 0) (entry r 3)
    (λ up. met_by_low (entry p 4) (entry p 3) (entry r 4) (entry r 3) (f.up up))
    (λ not_up. by_lt_z (entry r 3) (pos 0) (λ down. absurd (f.down down))
    (λ not_down. let none : entry r 3 ≡ pos 0 = omega (arith, ints) in flat (entry p 3) (entry r 4) (pos 0 -ℤ entry p 4) (entry r 3) a (f.level none) none))
met_if_covered (Some p) (Some q) r a b c f =
    by_lt_z (pos 0) (entry r 3)
    (λ up. met_by_low (entry p 4) (entry p 3) (entry r 4) (entry r 3) (f.up up))
    (λ not_up. by_lt_z (entry r 3) (pos 0)
    (λ down. met_across (entry p 4) (entry p 3) (entry q 4) (entry q 3) (entry r 4) (entry r 3) a b down
    (let e : entry (joined 3 p q) 4 ≡ (pos 0 -ℤ entry q 3) *ℤ entry p 4 +ℤ entry p 3 *ℤ entry q 4 = entry-mixed (pos 0 -ℤ entry q 3) (entry p 3) p q 4 in omega (arith, ints))
    (f.down down))
    (λ not_down. let none : entry r 3 ≡ pos 0 = omega (arith, ints) in flat (entry p 3) (entry r 4) (pos 0 -ℤ entry p 4) (entry r 3) a (f.level none) none))
met_if_covered None (Some q) r a b c f =
    by_lt_z (pos 0) (entry r 3)
    (λ up. absurd (f.up up))
    (λ not_up. by_lt_z (entry r 3) (pos 0)
    (λ down. met_by_high (entry q 4) (entry q 3) (entry r 4) (entry r 3) (f.down down))
    (λ not_down. let none : entry r 3 ≡ pos 0 = omega (arith, ints) in flat (pos 0 -ℤ entry q 3) (entry r 4) (entry q 4) (entry r 3) (omega (arith, ints)) (f.level none) none))
met_if_covered None None r a b c f =
    by_lt_z (pos 0) (entry r 3)
    (λ up. absurd (f.up up))
    (λ not_up. by_lt_z (entry r 3) (pos 0) (λ down. absurd (f.down down))
    (λ not_down. let none : entry r 3 ≡ pos 0 = omega (arith, ints) in flat (pos 1) (entry r 4) (pos 0) (entry r 3) (omega (arith, ints)) (f.level none) none))

-- ---- rows that are taken in
by_old_low : (r : List ℤ) (h k : ℤ) (low : Option (List ℤ)) → IsLow low → pos 0 <ℤ entry r 3 → IsBetterLow r low → pos 0 <ℤ h → IsBelow h k low → (entry r 4 *ℤ h) ≤ℤ (k *ℤ entry r 3)
by_old_low r h k None l up better hp below = absurd below
by_old_low r h k (Some o) l up better hp below = chained (entry r 4) (entry r 3) (entry o 4) (entry o 3) k h up l hp better below

by_old_high : (r : List ℤ) (h k : ℤ) (high : Option (List ℤ)) → IsHigh high → entry r 3 <ℤ pos 0 → IsBetterHigh r high → h <ℤ pos 0 → IsAbove h k high → (entry r 4 *ℤ (pos 0 -ℤ h)) ≤ℤ (k *ℤ (pos 0 -ℤ entry r 3))
by_old_high r h k None l down better hp above = absurd above
by_old_high r h k (Some o) l down better hp above = chained (entry r 4) (pos 0 -ℤ entry r 3) (entry o 4) (pos 0 -ℤ entry o 3) k (pos 0 -ℤ h) (omega (arith, ints)) (omega (arith, ints)) (omega (arith, ints)) better above

same_le : (a b : ℤ) → (a *ℤ b) ≤ℤ (a *ℤ b)
same_le a b = omega (arith, ints)

pub raised : (ps : List Inequality) (low high : Option (List ℤ)) (r : List ℤ) → AreBounds ps low high → IsRow ps 3 r → pos 0 <ℤ entry r 3 → IsBetterLow r low → IsAgreed (Some r) high → IsTaken ps low high (Some r) high (entry r 3) (entry r 4)
raised ps low high r b row up better agreed = record {
  bounds = record { low_row = row; high_row = b.high_row; up = up; down = b.down; agreed = agreed };
  covered = record { up = λ h. same_le (entry r 4) (entry r 3); down = λ h. absurd (omega (arith, ints)); level = λ h. absurd (omega (arith, ints)) };
  kept = λ h k c. record { up = λ hp. by_old_low r h k low b.up up better hp (c.up hp); down = c.down; level = c.level };
}

pub lowered : (ps : List Inequality) (low high : Option (List ℤ)) (r : List ℤ) → AreBounds ps low high → IsRow ps 3 r → entry r 3 <ℤ pos 0 → IsBetterHigh r high → IsAgreed low (Some r) → IsTaken ps low high low (Some r) (entry r 3) (entry r 4)
lowered ps low high r b row down better agreed = record {
  bounds = record { low_row = b.low_row; high_row = row; up = b.up; down = down; agreed = agreed };
  covered = record { up = λ h. absurd (omega (arith, ints)); down = λ h. same_le (entry r 4) (pos 0 -ℤ entry r 3); level = λ h. absurd (omega (arith, ints)) };
  kept = λ h k c. record { up = c.up; down = λ hp. by_old_high r h k high b.down down better hp (c.down hp); level = c.level };
}

pub not_raised : (ps : List Inequality) (low high : Option (List ℤ)) (h k : ℤ) → AreBounds ps low high → pos 0 <ℤ h → IsBelow h k low → IsTaken ps low high low high h k
not_raised ps low high h k b up below = record {
  bounds = b;
  covered = record { up = λ _. below; down = λ d. absurd (omega (arith, ints)); level = λ d. absurd (omega (arith, ints)) };
  kept = λ g j c. c;
}

pub not_lowered : (ps : List Inequality) (low high : Option (List ℤ)) (h k : ℤ) → AreBounds ps low high → h <ℤ pos 0 → IsAbove h k high → IsTaken ps low high low high h k
not_lowered ps low high h k b down above = record {
  bounds = b;
  covered = record { up = λ d. absurd (omega (arith, ints)); down = λ _. above; level = λ d. absurd (omega (arith, ints)) };
  kept = λ g j c. c;
}

pub left_level : (ps : List Inequality) (low high : Option (List ℤ)) (h k : ℤ) → AreBounds ps low high → h ≡ pos 0 → pos 0 ≤ℤ k → IsTaken ps low high low high h k
left_level ps low high h k b none fine = record {
  bounds = b;
  covered = record { up = λ d. absurd (omega (arith, ints)); down = λ d. absurd (omega (arith, ints)); level = λ _. fine };
  kept = λ g j c. c;
}

pub agreed_above : (r s : List ℤ) (high : Option (List ℤ)) → r ≡ s → IsAgreed (Some r) high → IsAgreed (Some s) high
agreed_above r s high e h = subst (λ x. IsAgreed (Some x) high) e h

pub agreed_below : (r s : List ℤ) (low : Option (List ℤ)) → r ≡ s → IsAgreed low (Some r) → IsAgreed low (Some s)
agreed_below r s low e h = subst (λ x. IsAgreed low (Some x)) e h

-- a row that the bounds cover leaves them as they are
pub left_covered : (ps : List Inequality) (low high : Option (List ℤ)) (h k : ℤ) → AreBounds ps low high → IsCovered low high h k → IsTaken ps low high low high h k
left_covered ps low high h k b c = record { bounds = b; covered = c; kept = λ g j x. x }
