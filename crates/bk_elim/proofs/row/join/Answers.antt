use Rattle.std.proofs.Common.{◌≡◌, ℕ, ℤ, pos, ◌+ℤ◌, ◌-ℤ◌, ◌*ℤ◌, ap, ◌∙◌, arith, rules}
use Rattle.std.specs.Int.{w128, cast_signed, cast_unsigned}
use Rattle.bk_lin.proofs.Adding.{back}
use Rattle.bk_elim.specs.Elimination.{entry}
use Rattle.bk_elim.proofs.Joining.{fits_same, joined_more, joined_all}
use Rattle.bk_elim.proofs.row.join.Goals as goal

pub mix-requires-clause-sum : goal.mix-requires-clause-sum
mix-requires-clause-sum c =
    let k : ℕ = c.loop-k.k in
    let up : ℕ → ℤ = entry c.args.up.now in
    let down : ℕ → ℤ = entry c.args.down.now in
    let a : cast_signed w128 (cast_unsigned w128 (up k)) ≡ up k = back (up k) (search rules) in
    let b : cast_signed w128 (cast_unsigned w128 (down k)) ≡ down k = back (down k) (search rules) in
    let d : cast_signed w128 (cast_unsigned w128 (up c.args.atom)) ≡ up c.args.atom = back (up c.args.atom) (search rules) in
    let e : cast_signed w128 (cast_unsigned w128 (down c.args.atom)) ≡ down c.args.atom = back (down c.args.atom) (search rules) in
    let n : cast_signed w128 (cast_unsigned w128 c.negated-by.result) ≡ c.negated-by.result = back c.negated-by.result (search rules) in
    let m : c.negated-by.result ≡ pos 0 -ℤ down c.args.atom = c.negated-by.ensures ∙ ap (λ w. pos 0 -ℤ w) e in
    fits_same _ ((pos 0 -ℤ down c.args.atom) *ℤ up k +ℤ up c.args.atom *ℤ down k) (cc) (c.requires.fits.sum k)

pub loop-k-preserved : goal.loop-k-preserved
loop-k-preserved c =
    let k : ℕ = c.loop-k.k in
    let up : ℕ → ℤ = entry c.args.up.now in
    let down : ℕ → ℤ = entry c.args.down.now in
    let a : cast_signed w128 (cast_unsigned w128 (up k)) ≡ up k = back (up k) (search rules) in
    let b : cast_signed w128 (cast_unsigned w128 (down k)) ≡ down k = back (down k) (search rules) in
    let d : cast_signed w128 (cast_unsigned w128 (up c.args.atom)) ≡ up c.args.atom = back (up c.args.atom) (search rules) in
    let e : cast_signed w128 (cast_unsigned w128 (down c.args.atom)) ≡ down c.args.atom = back (down c.args.atom) (search rules) in
    let n : cast_signed w128 (cast_unsigned w128 c.negated-by.result) ≡ c.negated-by.result = back c.negated-by.result (search rules) in
    let m : c.negated-by.result ≡ pos 0 -ℤ down c.args.atom = c.negated-by.ensures ∙ ap (λ w. pos 0 -ℤ w) e in
    let v : cast_signed w128 (cast_unsigned w128 c.mix.result) ≡ c.mix.result = back c.mix.result (search rules) in
    joined_more c.args.atom c.args.up.now c.args.down.now k (cast_signed w128 (cast_unsigned w128 c.mix.result)) c.loop-k.row.items c.push.new.self.items
    (omega arith) c.requires.wide c.loop-k.invariant c.in_ok-push.ensures.items (v ∙ c.mix.ensures ∙ cc)

pub returns : goal.returns
returns c = c.loop-k.invariant ∙ joined_all c.args.atom c.args.up.now c.args.down.now c.loop-k.k c.requires.wide (omega arith)
