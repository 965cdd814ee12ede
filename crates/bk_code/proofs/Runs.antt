-- Steps one after another: they lead to one configuration, and a call has one end.
use Rattle.std.proofs.Common.{◌≡◌, ℕ, zero, suc, ◌+◌, ◌<◌, ◌≤◌, inl, inr, refl, sym, ◌∙◌, ap, subst, arith, List, ◌∷◌, length}
use Rattle.std.proofs.Math.Nat.{eq-or-lt_of_le}
use Rattle.std.proofs.lemmas.Bool.{lt-ltb}
use Rattle.std.proofs.lemmas.Bool.{cases_lt}
use Rattle.bk_code.specs.declared.image.Image.{Image}
use Rattle.bk_code.specs.declared.instruction.Trap.{Trap}
use Rattle.bk_code.specs.Step.{Config, Outcome, GoesOn, Returns, Traps, Stuck, step}
use Rattle.bk_code.specs.Run.{End, Done, Trapped, OutOfFuel, Leads, Ends}
use Rattle.bk_code.specs.Checks.{IsNumbered, IsDepths, IsFitting}
use Rattle.bk_code.specs.Laws.{StoresPushed, EndsAtReturn, IsOutOfFuelBelow, IsTrapOutOfFuel, StaysDone, StaysTrapped, HasOneEnd, IsNeverStuck, KeepsFitting, HasSomeEnd}
use Rattle.bk_code.proofs.Fits.{IsSafe, step_safe}

pub never_stuck : IsNeverStuck
never_stuck image depths c numbered deep fits is = subst (IsSafe image depths) is (step_safe image depths c numbered deep fits)

pub keeps_fitting : KeepsFitting
keeps_fitting image depths c d numbered deep fits is = subst (IsSafe image depths) is (step_safe image depths c numbered deep fits)

pub stays_done : StaysDone
stays_done image fuel more n c d le h = (omega (arith, h.0), h.1)

pub stays_trapped : StaysTrapped
stays_trapped image fuel more kind place n c d le h = (omega (arith, h.0), h.1, h.2, h.3)

pub stores_pushed : StoresPushed
stores_pushed image c n slot push store stands =
    let after : Config = record { place = c.place + 1; stack = n ∷ c.stack; cells = c.cells } in
    (after, (c, refl, rw push refl), rw (store, lt-ltb slot (length c.cells) stands) refl)

pub ends_at_return : EndsAtReturn
ends_at_return image fuel n c d leads is below = (omega arith, (leads, rw is refl))

-- n steps lead to one configuration
pub one_place : (image : Image) (n : ℕ) (c d e : Config) → Leads image n c d → Leads image n c e → d ≡ e
one_place image zero c d e p q = sym p ∙ q
one_place image (suc n) c d e p q =
    let mid = one_place image n c p.0 q.0 p.1 q.1 in
    let same : GoesOn d ≡ GoesOn e = sym p.2 ∙ ap (step image) mid ∙ q.2 in
    cc

-- where more steps go on, the first of them lead somewhere
pub leads_first : (image : Image) (m n : ℕ) (c e : Config) → m ≤ n → Leads image n c e → (d : Config) × Leads image m c d
leads_first image zero n c e le q = (c, refl)
leads_first image (suc m) zero c e le q = absurd (omega arith)
leads_first image (suc m) (suc n) c e le q =
    elim (eq-or-lt_of_le {n = suc m} {m = suc n} le) [
      | inl same ↦ (e, subst (λ k. Leads image k c e) (sym same) q)
      | inr below ↦ leads_first image (suc m) n c q.0 (omega arith) q.1
    ]

-- where more steps go on, the next one does
pub goes_on_at : (image : Image) (m n : ℕ) (c d e : Config) → m < n → Leads image m c d → Leads image n c e → (f : Config) × (step image d ≡ GoesOn f)
goes_on_at image m zero c d e lt p q = absurd (omega arith)
goes_on_at image m (suc n) c d e lt p q =
    let le : m ≤ n = omega arith in
    elim (eq-or-lt_of_le {n = m} {m = n} le) [
      | inl same ↦ (e, ap (step image) (one_place image n c d q.0 (subst (λ k. Leads image k c d) same p) q.1) ∙ q.2)
      | inr below ↦ goes_on_at image m n c d q.0 below p q.1
    ]

-- no step from here goes on
abbrev pub Stops : Image → Config → Type 0
Stops image d = (f : Config) → step image d ≡ GoesOn f → ⊥

pub not_further : (image : Image) (m n : ℕ) (c d e : Config) → Leads image m c d → Stops image d → Leads image n c e → n ≤ m
not_further image m n c d e p stop q =
    elim (cases_lt m n) [
      | inl lt ↦ (let more = goes_on_at image m n c d e lt p q in absurd (stop more.0 more.1))
      | inr ge ↦ ge
    ]

-- a call stops after one number of steps, at one configuration
one_stop : (image : Image) (m n : ℕ) (c d e : Config) → Leads image m c d → Stops image d → Leads image n c e → Stops image e → (m ≡ n) × (d ≡ e)
one_stop image m n c d e p stop q halt =
    let up = not_further image m n c d e p stop q in
    let down = not_further image n m c e d q halt p in
    let same : m ≡ n = omega arith in
    (same, one_place image n c d e (subst (λ k. Leads image k c d) same p) q)

returned : (image : Image) (d : Config) → step image d ≡ Returns → Stops image d
returned image d is f goes = cc

trapped : (image : Image) (d : Config) (kind : Trap) → step image d ≡ Traps kind → Stops image d
trapped image d kind is f goes = cc

pub one_end : HasOneEnd
one_end image fuel c (Done zero) f d g p q = absurd p.1
one_end image fuel c (Done (suc n)) (Done zero) d g p q = absurd q.1
one_end image fuel c (Done (suc n)) (Done (suc m)) d g p q =
    let same = one_stop image n m c d g p.1.0 (returned image d p.1.1) q.1.0 (returned image g q.1.1) in
    (ap (λ k. Done (suc k)) same.0, same.1)
one_end image fuel c (Done (suc n)) (Trapped kind place m) d g p q =
    let same = one_stop image n m c d g p.1.0 (returned image d p.1.1) q.1 (trapped image g kind q.2) in
    let e : step image d ≡ step image g = ap (step image) same.1 in
    let no_way : Returns ≡ Traps kind = sym p.1.1 ∙ e ∙ q.2 in
    cc
one_end image fuel c (Done (suc n)) OutOfFuel d g p q =
    absurd (omega (arith, not_further image n fuel c d g p.1.0 (returned image d p.1.1) q))
one_end image fuel c (Trapped kind place n) (Done zero) d g p q = absurd q.1
one_end image fuel c (Trapped kind place n) (Done (suc m)) d g p q =
    let same = one_stop image n m c d g p.1 (trapped image d kind p.2) q.1.0 (returned image g q.1.1) in
    let e : step image d ≡ step image g = ap (step image) same.1 in
    let no_way : Traps kind ≡ Returns = sym p.2 ∙ e ∙ q.1.1 in
    cc
one_end image fuel c (Trapped kind place n) (Trapped other spot m) d g p q =
    let same = one_stop image n m c d g p.1 (trapped image d kind p.2) q.1 (trapped image g other q.2) in
    let e : step image d ≡ step image g = ap (step image) same.1 in
    let kinds : Traps kind ≡ Traps other = sym p.2 ∙ e ∙ q.2 in
    let places : place ≡ spot = sym p.3 ∙ ap (λ (k : Config). k.place) same.1 ∙ q.3 in
    let counts = same.0 in
    let here = same.1 in
    (cc, here)
one_end image fuel c (Trapped kind place n) OutOfFuel d g p q =
    absurd (omega (arith, p.0, not_further image n fuel c d g p.1 (trapped image d kind p.2) q))
one_end image fuel c OutOfFuel (Done zero) d g p q = absurd q.1
one_end image fuel c OutOfFuel (Done (suc m)) d g p q =
    absurd (omega (arith, q.0, not_further image m fuel c g d q.1.0 (returned image g q.1.1) p))
one_end image fuel c OutOfFuel (Trapped kind place m) d g p q =
    absurd (omega (arith, q.0, not_further image m fuel c g d q.1 (trapped image g kind q.2) p))
one_end image fuel c OutOfFuel OutOfFuel d g p q = (refl, one_place image fuel c d g p q)

pub out_of_fuel_below : IsOutOfFuelBelow
out_of_fuel_below image fuel zero c d h = absurd h
out_of_fuel_below image fuel (suc n) c d h = (
  λ out. omega (arith, not_further image n fuel c d out.0 h.0 (returned image d h.1) out.1),
  λ below. leads_first image fuel n c d (omega arith) h.0,
)

pub trap_out_of_fuel : IsTrapOutOfFuel
trap_out_of_fuel image fuel c d kind leads is =
    (leads, λ other place n last ends. omega (arith, ends.0, not_further image n fuel c last d ends.1 (trapped image last other ends.2) leads))

-- a configuration that fits, after so many steps or fewer
record HasEnd (image : Image) (depths : List ℕ) (fuel : ℕ) (c : Config) : Type 0 where
  end : End
  last : Config
  ends : Ends image fuel c end last
  fits : IsFitting image depths last

one_more : (image : Image) (depths : List ℕ) (fuel : ℕ) (c last : Config) → Leads image fuel c last → IsFitting image depths last →
    (o : Outcome) → step image last ≡ o → IsSafe image depths o → HasEnd image depths (suc fuel) c
one_more image depths fuel c last leads fits (GoesOn d) is safe =
    record { end = OutOfFuel; last = d; ends = (last, leads, is); fits = safe }
one_more image depths fuel c last leads fits Returns is safe =
    record { end = Done (suc fuel); last = last; ends = (omega arith, (leads, is)); fits = fits }
one_more image depths fuel c last leads fits (Traps kind) is safe =
    record { end = Trapped kind last.place fuel; last = last; ends = (omega arith, leads, is, refl); fits = fits }
one_more image depths fuel c last leads fits Stuck is safe = absurd safe

more_fuel : (image : Image) (depths : List ℕ) (fuel : ℕ) (c : Config) (end : End) (last : Config) → IsNumbered image → IsDepths image depths →
    Ends image fuel c end last → IsFitting image depths last → HasEnd image depths (suc fuel) c
more_fuel image depths fuel c (Done n) last numbered deep ends fits =
    record { end = Done n; last = last; ends = stays_done image fuel (suc fuel) n c last (omega arith) ends; fits = fits }
more_fuel image depths fuel c (Trapped kind place n) last numbered deep ends fits =
    record { end = Trapped kind place n; last = last; ends = stays_trapped image fuel (suc fuel) kind place n c last (omega arith) ends; fits = fits }
more_fuel image depths fuel c OutOfFuel last numbered deep ends fits =
    one_more image depths fuel c last ends fits (step image last) refl (step_safe image depths last numbered deep fits)

some_end : (image : Image) (depths : List ℕ) (fuel : ℕ) (c : Config) → IsNumbered image → IsDepths image depths → IsFitting image depths c → HasEnd image depths fuel c
some_end image depths zero c numbered deep fits = record { end = OutOfFuel; last = c; ends = refl; fits = fits }
some_end image depths (suc fuel) c numbered deep fits =
    let before = some_end image depths fuel c numbered deep fits in
    more_fuel image depths fuel c before.end before.last numbered deep before.ends before.fits

pub has_some_end : HasSomeEnd
has_some_end image depths fuel c numbered deep fits =
    let h = some_end image depths fuel c numbered deep fits in (h.end, h.last, h.ends, h.fits)
