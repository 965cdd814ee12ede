use Rattle.std.proofs.Common.{◌≡◌, Bool, true, false, ◌&&◌, cond, ℤ, pos, ◌-ℤ◌, ◌≤ℤ◌, int_le, refl, arith}
use Rattle.std.specs.Prelude.{Some, None}
use Rattle.std.proofs.lemmas.Int.{ints}
use Rattle.bk_form.specs.declared.arrays.ArrayDomain.{ArrayDomain}
use Rattle.bk_form.specs.declared.arrays.ArrayDomain.TheVariants.{Interval}
use Rattle.bk_dev.specs.Layout.{interval_of}
use Rattle.bk_dev.proofs.arrays.interval.Goals.{else-most-low-via-then-most-low+then-low-high+else-high-most, else-most-low-via-then-most-low+else-low-high, else-most-low-via-else-most-low}
use Rattle.bk_dev.proofs.arrays.interval.Goals as goal

le-then : (x y : ℤ) → int_le x y ≡ true → x ≤ℤ y
le-then x y h = grind (arith, ints)

all-three : (a b c : Bool) → (a && b) && c ≡ true → (a ≡ true) × (b ≡ true) × (c ≡ true)
all-three true true true h = (refl, refl, refl)
all-three true true false h = absurd (cc)
all-three true false c h = absurd (cc)
all-three false b c h = absurd (cc)

none-where : (b : Bool) (d : ArrayDomain) → (b ≡ true → ⊥) → None ≡ cond b (Some d) None
none-where true d h = absurd (h refl)
none-where false d h = refl

-- what is no interval
no-interval : (max low high : ℤ) → (((pos 0 -ℤ max) ≤ℤ low) × (low ≤ℤ high) × (high ≤ℤ max) → ⊥) → None ≡ interval_of max (Some low) (Some high)
no-interval max low high h = none-where ((int_le (pos 0 -ℤ max) low && int_le low high) && int_le high max) (Interval low high) (λ t.
    let each = all-three (int_le (pos 0 -ℤ max) low) (int_le low high) (int_le high max) t in
    h (le-then (pos 0 -ℤ max) low each.0, le-then low high each.1, le-then high max each.2))

pub returns : goal.returns
returns c =
    let max = c.args.max in
    let low = c.args.low in
    let high = c.args.high in
    elim c.else-most-low.branch [
      | else-most-low-via-then-most-low+then-low-high+else-high-most w ↦ no-interval max low high (λ h. absurd (omega (arith, ints, h.2, w.if-high-most.false)))
      | else-most-low-via-then-most-low+else-low-high w ↦ no-interval max low high (λ h. absurd (omega (arith, ints, h.1, w.if-low-high.false)))
      | else-most-low-via-else-most-low w ↦ no-interval max low high (λ h. absurd (omega (arith, ints, h.0, w.if-most-low.false, c.from-most.ensures)))
    ]
