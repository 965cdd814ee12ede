use Rattle.std.proofs.Common.{◌≡◌, ℕ, ℤ, true, false, pos, ◌*ℤ◌, ◌++◌, take, drop, map, get_or, sym, ap, ◌∙◌, arith, rules, refl}
use Rattle.std.specs.Int.{w128, cast_signed, cast_unsigned}
use Rattle.std.specs.List.{list_all}
use Rattle.std.proofs.lemmas.Bool.{false_from_ne_true}
use Rattle.std.proofs.lemmas.List.{take_all, drop_all, append-nil}
use Rattle.bk_val.specs.Value.{fits_i128}
use Rattle.bk_lin.proofs.Adding.{back, none_is_not_some}
use Rattle.bk_arith.proofs.Entries.{zipped, all_fit-more, all_fit-fails, all_fit-end, zipped-more, zipped-map}
use Rattle.bk_arith.proofs.joining.scale_entries.Goals as goal

no_truth : false ≡ true → ⊥
no_truth h = cc

pub loop-number-preserved : goal.loop-number-preserved
loop-number-preserved c =
    let m : ℤ = cast_signed w128 (cast_unsigned w128 c.args.by) in
    let f : ℤ → ℤ → ℤ = λ x y. m *ℤ x in
    let i : ℕ = c.loop-number.number-index in
    let s : ℤ = get_or c.loop-number.target i (pos 0) in
    let v : ℤ = cast_signed w128 (cast_unsigned w128 c.in_ok-number.field-0) in
    let same_s : cast_signed w128 (cast_unsigned w128 s) ≡ s = back s (search rules) in
    let same_v : v ≡ c.in_ok-number.field-0 = back c.in_ok-number.field-0 (search rules) in
    let fits : fits_i128 (f s (get_or c.args.target.now i (pos 0))) ≡ true = ap (λ x. fits_i128 (m *ℤ x)) (sym same_s) ∙ c.in_ok-number.ensures.0 in
    let value : v ≡ f s (get_or c.args.target.now i (pos 0)) = same_v ∙ c.in_ok-number.ensures.1 ∙ ap (λ x. m *ℤ x) same_s in
    record {
      made = zipped-more f c.loop-number.target c.args.target.now i v (omega arith) (omega arith) value ∙ c.loop-number.invariant.made;
      fits = all_fit-more f c.loop-number.target c.args.target.now i v (omega arith) (omega arith) fits ∙ c.loop-number.invariant.fits;
    }

pub returns-in_err-number-clause-fits : goal.returns-in_err-number-clause-fits
returns-in_err-number-clause-fits c =
    let m : ℤ = cast_signed w128 (cast_unsigned w128 c.args.by) in
    let f : ℤ → ℤ → ℤ = λ x y. m *ℤ x in
    let i : ℕ = c.loop-number.number-index in
    let s : ℤ = get_or c.loop-number.target i (pos 0) in
    let same_m : m ≡ c.args.by = back c.args.by c.ranges.by in
    let same_s : cast_signed w128 (cast_unsigned w128 s) ≡ s = back s (search rules) in
    let fails : fits_i128 (f s (get_or c.args.target.now i (pos 0))) ≡ false =
    ap (λ x. fits_i128 (m *ℤ x)) (sym same_s) ∙ false_from_ne_true _ c.in_err-number.ensures in
    let all : list_all fits_i128 (map (λ x. c.args.by *ℤ x) c.args.target.now) ≡ false =
    ap (λ n. list_all fits_i128 (map (λ x. n *ℤ x) c.args.target.now)) (sym same_m)
    ∙ ap (λ xs. list_all fits_i128 xs) (sym (zipped-map m c.args.target.now))
    ∙ sym c.loop-number.invariant.fits
    ∙ all_fit-fails f c.loop-number.target c.args.target.now i (omega arith) (omega arith) fails in
    (λ some. absurd (none_is_not_some _ c.from_residual.ensures some), λ yes. absurd (no_truth (sym all ∙ yes)))

pub returns-clause-fits : goal.returns-clause-fits
returns-clause-fits c =
    let m : ℤ = cast_signed w128 (cast_unsigned w128 c.args.by) in
    let f : ℤ → ℤ → ℤ = λ x y. m *ℤ x in
    let same_m : m ≡ c.args.by = back c.args.by c.ranges.by in
    let all : list_all fits_i128 (map (λ x. c.args.by *ℤ x) c.args.target.now) ≡ true =
    ap (λ n. list_all fits_i128 (map (λ x. n *ℤ x) c.args.target.now)) (sym same_m)
    ∙ ap (λ xs. list_all fits_i128 xs) (sym (zipped-map m c.args.target.now))
    ∙ sym c.loop-number.invariant.fits
    ∙ all_fit-end f c.loop-number.target c.args.target.now c.loop-number.number-index (omega arith) in
    (λ _. all, λ _. refl)

pub returns-clause-made : goal.returns-clause-made
returns-clause-made c =
    let m : ℤ = cast_signed w128 (cast_unsigned w128 c.args.by) in
    let f : ℤ → ℤ → ℤ = λ x y. m *ℤ x in
    let i : ℕ = c.loop-number.number-index in
    let same_m : m ≡ c.args.by = back c.args.by c.ranges.by in
    let whole : take i c.loop-number.target ++ zipped f (drop i c.loop-number.target) (drop i c.args.target.now) ≡ c.loop-number.target =
    ap (λ xs. take i c.loop-number.target ++ zipped f xs (drop i c.args.target.now)) (drop_all i c.loop-number.target (omega arith))
    ∙ append-nil (take i c.loop-number.target) ∙ take_all i c.loop-number.target (omega arith) in
    sym whole ∙ c.loop-number.invariant.made ∙ zipped-map m c.args.target.now ∙ ap (λ n. map (λ x. n *ℤ x) c.args.target.now) same_m
