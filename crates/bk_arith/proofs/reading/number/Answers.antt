use Rattle.std.proofs.Common.{◌≡◌, pos, length, replicate, sym, ap, ◌∙◌, rules, true, Some}
use Rattle.std.specs.Int.{w128, cast_signed, cast_unsigned}
use Rattle.bk_val.specs.Value.{fits_i128}
use Rattle.bk_lin.specs.Layout.{shown}
use Rattle.bk_lin.proofs.Adding.{back}
use Rattle.bk_arith.proofs.Narrow.{narrow, zeros_fit}
use Rattle.bk_arith.proofs.reading.number.Goals as goal

pub returns-clause-value : goal.returns-clause-value
returns-clause-value c =
    let fits : fits_i128 c.args.value ≡ true = search rules in
    let n = length c.args.atoms.now in
    let zeros : c.in_ok-vec.field-0.items ≡ replicate (length c.args.atoms.now) (pos 0) = c.in_ok-vec.ensures.items_if_clones_equal (λ y h. h) in
    let same : cast_signed w128 (cast_unsigned w128 c.args.value) ≡ c.args.value = back c.args.value c.ranges.value in
    narrow c.args.value (replicate (length c.args.atoms.now) (pos 0)) fits (zeros_fit (length c.args.atoms.now))
    ∙ sym (ap (λ cs. Some (shown cs (cast_signed w128 (cast_unsigned w128 c.args.value)))) zeros ∙ ap (λ z. Some (shown (replicate (length c.args.atoms.now) (pos 0)) z)) same)
