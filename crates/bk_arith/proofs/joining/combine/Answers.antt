use Rattle.std.proofs.Common.{◌≡◌, ℕ, ℤ, List, ◌++◌, take, drop, length, arith, sym, ap, ◌∙◌, rules, true, false, refl, Some}
use Rattle.std.specs.Int.{w128, cast_signed, cast_unsigned}
use Rattle.std.specs.List.{list_all}
use Rattle.std.specs.Option.{option_map}
use Rattle.std.proofs.lemmas.Bool.{false_from_ne_true}
use Rattle.std.proofs.lemmas.List.{take_all, take-append-le}
use Rattle.bk_val.specs.Value.{fits_i128}
use Rattle.bk_lin.specs.Certificate.{inequality_of}
use Rattle.bk_lin.specs.Layout.{shown}
use Rattle.bk_lin.proofs.Adding.{back}
use Rattle.bk_arith.specs.Reading.{if_narrow}
use Rattle.bk_arith.specs.Layout.{entry_of, entries_of}
use Rattle.bk_arith.proofs.Narrow.{narrow, wide_coefs, joined-entries}
use Rattle.std.specs.Vec.{with_items}
use Rattle.bk_arith.proofs.joining.combine.Goals as goal

refilled : (n : ℕ) (ws xs : List ℤ) → length ws ≡ n → take n (ws ++ drop (length ws) xs) ≡ ws
refilled n ws xs h = take-append-le n ws (drop (length ws) xs) (omega arith) ∙ take_all n ws (omega arith)

no_truth : false ≡ true → ⊥
no_truth h = cc

pub returns-in_err-combine_entries-clause-value : goal.returns-in_err-combine_entries-clause-value
returns-in_err-combine_entries-clause-value c =
    let xs : List ℤ = c.args.left.coefs.items in
    let ys : List ℤ = c.args.right.now.coefs.items in
    let z : ℤ = entry_of c.args.join c.args.left.constant c.args.right.now.constant in
    let wide : list_all fits_i128 (entries_of c.args.join xs ys) ≡ false =
    ap (λ us. list_all fits_i128 (entries_of c.args.join us ys)) (sym c.as_mut_slice.ensures.value)
    ∙ ap (λ us. list_all fits_i128 (entries_of c.args.join c.as_mut_slice.result.now us)) (sym c.as_slice.ensures.value)
    ∙ false_from_ne_true _ (λ yes. no_truth (c.in_err-combine_entries.ensures.fits.1 yes)) in
    ap (λ o. option_map inequality_of o) c.from_residual-in_err-combine_entries.ensures
    ∙ sym (ap (λ p. if_narrow p) (joined-entries c.args.join (inequality_of c.args.left) (inequality_of c.args.right.now) c.requires)
    ∙ wide_coefs z (entries_of c.args.join xs ys) wide)

pub returns-clause-value : goal.returns-clause-value
returns-clause-value c =
    let xs : List ℤ = c.args.left.coefs.items in
    let ys : List ℤ = c.args.right.now.coefs.items in
    let lc : ℤ = cast_signed w128 (cast_unsigned w128 c.args.left.constant) in
    let same_l : lc ≡ c.args.left.constant = back c.args.left.constant (search rules) in
    let same_r : cast_signed w128 (cast_unsigned w128 c.args.right.now.constant) ≡ c.args.right.now.constant = back c.args.right.now.constant (search rules) in
    let z : ℤ = entry_of c.args.join c.args.left.constant c.args.right.now.constant in
    let same_z : entry_of c.args.join lc (cast_signed w128 (cast_unsigned w128 c.args.right.now.constant)) ≡ z =
    ap (λ w. entry_of c.args.join w (cast_signed w128 (cast_unsigned w128 c.args.right.now.constant))) same_l ∙ ap (λ w. entry_of c.args.join c.args.left.constant w) same_r in
    let made : c.combine_entries.new.target ≡ entries_of c.args.join xs ys =
    c.in_ok-combine_entries.ensures.made
    ∙ ap (λ us. entries_of c.args.join us c.as_slice.result.now) c.as_mut_slice.ensures.value
    ∙ ap (λ us. entries_of c.args.join xs us) c.as_slice.ensures.value in
    let fits : list_all fits_i128 (entries_of c.args.join xs ys) ≡ true =
    ap (λ us. list_all fits_i128 us) (sym made) ∙ ap (λ us. list_all fits_i128 us) c.in_ok-combine_entries.ensures.made ∙ c.in_ok-combine_entries.ensures.fits.0 refl in
    let constant : cast_signed w128 (cast_unsigned w128 c.in_ok-constant.constant) ≡ z =
    back c.in_ok-constant.constant (search rules) ∙ c.in_ok-constant.ensures.1 ∙ same_z in
    let constant_fits : fits_i128 z ≡ true = ap (λ w. fits_i128 w) (sym same_z) ∙ c.in_ok-constant.ensures.0 in
    let items : (with_items c.args.left.coefs c.combine_entries.new.target).items ≡ c.combine_entries.new.target =
    refilled c.args.left.coefs.len c.combine_entries.new.target c.args.left.coefs.items (omega (arith, c.combine_entries.auto.target, c.as_mut_slice.ensures.len)) in
    ap (λ us. Some (shown us (cast_signed w128 (cast_unsigned w128 c.in_ok-constant.constant)))) (items ∙ made)
    ∙ ap (λ w. Some (shown (entries_of c.args.join xs ys) w)) constant
    ∙ sym (ap (λ p. if_narrow p) (joined-entries c.args.join (inequality_of c.args.left) (inequality_of c.args.right.now) c.requires)
    ∙ narrow z (entries_of c.args.join xs ys) constant_fits fits)
