use Rattle.std.proofs.Common.{◌≡◌, ℕ, ℤ, true, pos, get_or, sym, ap, ◌∙◌, arith, rules}
use Rattle.std.specs.Int.{w128, cast_signed, cast_unsigned}
use Rattle.bk_val.specs.Value.{fits_i128}
use Rattle.bk_lin.proofs.Adding.{back}
use Rattle.bk_arith.specs.Layout.{entry_of}
use Rattle.bk_arith.proofs.Entries.{all_fit-more, zipped-more}
use Rattle.bk_arith.proofs.joining.combine_entries.Goals as goal

pub loop-k-preserved : goal.loop-k-preserved
loop-k-preserved c =
    let f : ℤ → ℤ → ℤ = entry_of c.args.join in
    let i : ℕ = c.loop-k.k in
    let s : ℤ = get_or c.loop-k.target i (pos 0) in
    let e : ℤ = get_or c.args.other.now i (pos 0) in
    let v : ℤ = cast_signed w128 (cast_unsigned w128 c.in_ok-number.field-0) in
    let same_s : cast_signed w128 (cast_unsigned w128 s) ≡ s = back s (search rules) in
    let same_e : cast_signed w128 (cast_unsigned w128 e) ≡ e = back e (search rules) in
    let same_v : v ≡ c.in_ok-number.field-0 = back c.in_ok-number.field-0 (search rules) in
    let fits : fits_i128 (f s e) ≡ true =
    ap (λ x. fits_i128 (f x e)) (sym same_s) ∙ ap (λ x. fits_i128 (f (cast_signed w128 (cast_unsigned w128 s)) x)) (sym same_e) ∙ c.in_ok-number.ensures.0 in
    let value : v ≡ f s e =
    same_v ∙ c.in_ok-number.ensures.1 ∙ ap (λ x. f x (cast_signed w128 (cast_unsigned w128 e))) same_s ∙ ap (λ x. f s x) same_e in
    record {
      made = zipped-more f c.loop-k.target c.args.other.now i v (omega arith) (omega arith) value ∙ c.loop-k.invariant.made;
      fits = all_fit-more f c.loop-k.target c.args.other.now i v (omega arith) (omega arith) fits ∙ c.loop-k.invariant.fits;
    }
