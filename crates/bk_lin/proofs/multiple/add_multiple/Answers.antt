use Rattle.std.proofs.Common.{◌≡◌, ℤ, true, false, pos, ◌+ℤ◌, ◌*ℤ◌, ◌∷◌, List, get_or, sym, ap, ◌∙◌, arith, rules, refl, ◌&&◌}
use Rattle.std.specs.Int.{w128, cast_signed, cast_unsigned}
use Rattle.std.proofs.lemmas.Bool.{false_from_ne_true}
use Rattle.bk_lin.specs.Inequality.{is_narrow, times, plus}
use Rattle.bk_lin.specs.Layout.{held_in, shown}
use Rattle.bk_lin.proofs.Adding.{all_fit, entry_fits, all_fit-more, all_fit-fails, all_fit-end, all_fit-row, added-more, back, none_is_not_some}
use Rattle.bk_lin.proofs.multiple.add_multiple.Goals as goal

pub loop-k-preserved : goal.loop-k-preserved
loop-k-preserved c =
    let m : ℤ = cast_signed w128 (cast_unsigned w128 c.args.multiplier) in
    let entries : List ℤ = c.args.row.constant ∷ c.args.row.coefs.now in
    let s : ℤ = get_or c.loop-k.target c.loop-k.k (pos 0) in
    let e : ℤ = get_or entries c.loop-k.k (pos 0) in
    let v : ℤ = cast_signed w128 (cast_unsigned w128 c.in_ok-sum.field-0) in
    let same_s : cast_signed w128 (cast_unsigned w128 s) ≡ s = back s (search rules) in
    let same_e : cast_signed w128 (cast_unsigned w128 c.entry.result) ≡ e = back c.entry.result (search rules) ∙ c.entry.ensures in
    let same_v : v ≡ c.in_ok-sum.field-0 = back c.in_ok-sum.field-0 (search rules) in
    let fits : entry_fits m s e ≡ true =
    ap (λ x. entry_fits m x e) (sym same_s) ∙ ap (λ x. entry_fits m (cast_signed w128 (cast_unsigned w128 s)) x) (sym same_e) ∙ c.in_ok-sum.ensures.0 in
    let value : v ≡ s +ℤ m *ℤ e =
    same_v ∙ c.in_ok-sum.ensures.1 ∙ ap (λ x. x +ℤ m *ℤ cast_signed w128 (cast_unsigned w128 c.entry.result)) same_s ∙ ap (λ x. s +ℤ m *ℤ x) same_e in
    record {
      sums = added-more m c.loop-k.target entries c.loop-k.k v (omega arith) (omega arith) value ∙ c.loop-k.invariant.sums;
      fits = all_fit-more m c.loop-k.target entries c.loop-k.k v (omega arith) (omega arith) fits ∙ c.loop-k.invariant.fits;
    }

pub returns-in_err-sum-clause-narrow : goal.returns-in_err-sum-clause-narrow
returns-in_err-sum-clause-narrow c =
    let m : ℤ = cast_signed w128 (cast_unsigned w128 c.args.multiplier) in
    let entries : List ℤ = c.args.row.constant ∷ c.args.row.coefs.now in
    let s : ℤ = get_or c.loop-k.target c.loop-k.k (pos 0) in
    let e : ℤ = get_or entries c.loop-k.k (pos 0) in
    let same_m : m ≡ c.args.multiplier = back c.args.multiplier c.ranges.multiplier in
    let same_s : cast_signed w128 (cast_unsigned w128 s) ≡ s = back s (search rules) in
    let same_e : cast_signed w128 (cast_unsigned w128 c.entry.result) ≡ e = back c.entry.result (search rules) ∙ c.entry.ensures in
    let fails : entry_fits m s e ≡ false =
    ap (λ x. entry_fits m x e) (sym same_s) ∙ ap (λ x. entry_fits m (cast_signed w128 (cast_unsigned w128 s)) x) (sym same_e) ∙ false_from_ne_true _ c.in_err-sum.ensures in
    let all : (is_narrow (times c.args.multiplier (shown c.args.row.coefs.now c.args.row.constant)) && is_narrow (plus (held_in c.args.target.now) (times c.args.multiplier (shown c.args.row.coefs.now c.args.row.constant)))) ≡ false =
    sym (all_fit-row c.args.multiplier c.args.target.now c.args.row.coefs.now c.args.row.constant (omega arith))
    ∙ ap (λ x. all_fit x c.args.target.now entries) (sym same_m)
    ∙ sym c.loop-k.invariant.fits
    ∙ all_fit-fails m c.loop-k.target entries c.loop-k.k (omega arith) (omega arith) fails in
    (λ some. absurd (none_is_not_some _ c.from_residual.ensures some), λ yes. absurd (cc (all, yes)))

pub returns-clause-narrow : goal.returns-clause-narrow
returns-clause-narrow c =
    let m : ℤ = cast_signed w128 (cast_unsigned w128 c.args.multiplier) in
    let entries : List ℤ = c.args.row.constant ∷ c.args.row.coefs.now in
    let same_m : m ≡ c.args.multiplier = back c.args.multiplier c.ranges.multiplier in (
      λ _. sym (all_fit-row c.args.multiplier c.args.target.now c.args.row.coefs.now c.args.row.constant (omega arith))
          ∙ ap (λ x. all_fit x c.args.target.now entries) (sym same_m)
          ∙ sym c.loop-k.invariant.fits
          ∙ all_fit-end m c.loop-k.target entries c.loop-k.k (omega arith) (omega arith),
      λ _. refl,
    )
