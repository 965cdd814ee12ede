use Rattle.std.proofs.Common.{◌≡◌, pos, ◌≤ℤ◌, inl, inr, subst, ◌∙◌, arith, FitsSigned}
use lib.IntN.{negsuc}
use Rattle.std.specs.Int.{w128}
use Rattle.std.proofs.lemmas.Int.{ints, to_z-of_z}
use Rattle.bk_val.proofs.Powers.{wide_power, even_power, odd_power, low_power}
use Rattle.bk_val.specs.Number.{power_of}
use Rattle.bk_val.proofs.arithmetic.power.Goals as goal
use Rattle.bk_val.proofs.arithmetic.power.Goals.{then-a-ltminus1-via-then-a-ltminus1, then-a-ltminus1-via-else-a-ltminus1+then-a-gt1, else-a-lt0-via-then-a-lt0+else-b-eq0, else-a-lt0-via-else-a-lt0}

pub returns-then-a-ltminus1 : goal.returns-then-a-ltminus1
returns-then-a-ltminus1 c =
    let h : pos 256 ≤ℤ c.args.b = grind (arith, ints) in
    wide_power c.args.a c.args.b h (elim c.then-a-ltminus1.branch [
      | then-a-ltminus1-via-then-a-ltminus1 w ↦ inl (grind (arith, ints))
      | then-a-ltminus1-via-else-a-ltminus1+then-a-gt1 w ↦ inr (grind (arith, ints))
    ])

fits_one : FitsSigned w128 (pos 1)
fits_one = grind (arith, ints)

pub returns-then-b-eq0 : goal.returns-then-b-eq0
returns-then-b-eq0 c =
    let fits = c.ranges.b in
    let h : pos 256 ≤ℤ c.args.b = grind (arith, ints) in
    let e : c.args.a ≡ negsuc 0 = grind (arith, ints) in
    let r = simp to_z-of_z at c.if-b-eq0.true in
    let p = even_power c.args.a c.args.b h e r in
    (subst (FitsSigned w128) p fits_one, p)

pub returns : goal.returns
returns c =
    let fits = c.ranges.b in
    let fits_a = c.ranges.a in
    let h : pos 256 ≤ℤ c.args.b = grind (arith, ints) in
    let p : c.args.a ≡ power_of c.args.a c.args.b = elim c.else-a-lt0.branch [
      | else-a-lt0-via-then-a-lt0+else-b-eq0 w ↦ odd_power c.args.a c.args.b h (grind (arith, ints)) (simp to_z-of_z at w.if-b-eq0.false)
      | else-a-lt0-via-else-a-lt0 w ↦ low_power c.args.a c.args.b h (grind (arith, ints)) (grind (arith, ints))
    ] in
    (subst (FitsSigned w128) p c.ranges.a, to_z-of_z w128 c.args.a c.ranges.a ∙ p)
