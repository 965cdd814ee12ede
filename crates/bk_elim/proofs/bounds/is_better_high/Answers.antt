use Rattle.std.proofs.Common.{◌≡◌, pos, ◌-ℤ◌, ◌*◌, ◌*ℤ◌, rules, ap, ◌∙◌, arith}
use Rattle.std.specs.Int.{w128, cast_signed, cast_unsigned}
use Rattle.bk_lin.proofs.Adding.{back}
use Rattle.bk_lin.specs.Certificate.{inequalities}
use Rattle.bk_elim.specs.Elimination.{entry}
use Rattle.bk_elim.proofs.Joining.{fits_same, iff_same}
use Rattle.bk_elim.proofs.Rows.{abs-minus}
use Rattle.bk_elim.proofs.Fitting.{product_fits_back, entry_small, atom_small}
use Rattle.bk_elim.proofs.bounds.is_better_high.Goals as goal

pub is_less-requires-clause-left : goal.is_less-requires-clause-left
is_less-requires-clause-left c =
    let q4 : cast_signed w128 (cast_unsigned w128 (entry c.args.row.now 4)) ≡ entry c.args.row.now 4 = back (entry c.args.row.now 4) (search rules) in
    let o4 : cast_signed w128 (cast_unsigned w128 (entry c.args.old.now 4)) ≡ entry c.args.old.now 4 = back (entry c.args.old.now 4) (search rules) in
    let q3 : cast_signed w128 (cast_unsigned w128 (entry c.args.row.now 3)) ≡ entry c.args.row.now 3 = back (entry c.args.row.now 3) (search rules) in
    let o3 : cast_signed w128 (cast_unsigned w128 (entry c.args.old.now 3)) ≡ entry c.args.old.now 3 = back (entry c.args.old.now 3) (search rules) in
    let m : c.negated-coef.result ≡ pos 0 -ℤ entry c.args.row.now 3 = c.negated-coef.ensures ∙ ap (λ w. pos 0 -ℤ w) q3 in
    let n : c.negated-old_coef.result ≡ pos 0 -ℤ entry c.args.old.now 3 = c.negated-old_coef.ensures ∙ ap (λ w. pos 0 -ℤ w) o3 in
    let mm : cast_signed w128 (cast_unsigned w128 c.negated-coef.result) ≡ c.negated-coef.result = back c.negated-coef.result (search rules) in
    let nn : cast_signed w128 (cast_unsigned w128 c.negated-old_coef.result) ≡ c.negated-old_coef.result = back c.negated-old_coef.result (search rules) in
    fits_same _ (entry c.args.row.now 4 *ℤ (pos 0 -ℤ entry c.args.old.now 3)) (cc)
    (product_fits_back (entry c.args.row.now 4) (pos 0 -ℤ entry c.args.old.now 3) (abs-minus (entry c.args.old.now 3) (163840000000 * 20) (atom_small (inequalities c.args.facts.now) 3 c.args.old.now 3 (omega arith) (omega arith) c.requires.old)) (entry_small (inequalities c.args.facts.now) 3 c.args.row.now 4 (omega arith) c.requires.row))

pub is_less-requires-clause-right : goal.is_less-requires-clause-right
is_less-requires-clause-right c =
    let q4 : cast_signed w128 (cast_unsigned w128 (entry c.args.row.now 4)) ≡ entry c.args.row.now 4 = back (entry c.args.row.now 4) (search rules) in
    let o4 : cast_signed w128 (cast_unsigned w128 (entry c.args.old.now 4)) ≡ entry c.args.old.now 4 = back (entry c.args.old.now 4) (search rules) in
    let q3 : cast_signed w128 (cast_unsigned w128 (entry c.args.row.now 3)) ≡ entry c.args.row.now 3 = back (entry c.args.row.now 3) (search rules) in
    let o3 : cast_signed w128 (cast_unsigned w128 (entry c.args.old.now 3)) ≡ entry c.args.old.now 3 = back (entry c.args.old.now 3) (search rules) in
    let m : c.negated-coef.result ≡ pos 0 -ℤ entry c.args.row.now 3 = c.negated-coef.ensures ∙ ap (λ w. pos 0 -ℤ w) q3 in
    let n : c.negated-old_coef.result ≡ pos 0 -ℤ entry c.args.old.now 3 = c.negated-old_coef.ensures ∙ ap (λ w. pos 0 -ℤ w) o3 in
    let mm : cast_signed w128 (cast_unsigned w128 c.negated-coef.result) ≡ c.negated-coef.result = back c.negated-coef.result (search rules) in
    let nn : cast_signed w128 (cast_unsigned w128 c.negated-old_coef.result) ≡ c.negated-old_coef.result = back c.negated-old_coef.result (search rules) in
    fits_same _ (entry c.args.old.now 4 *ℤ (pos 0 -ℤ entry c.args.row.now 3)) (cc)
    (product_fits_back (entry c.args.old.now 4) (pos 0 -ℤ entry c.args.row.now 3) (abs-minus (entry c.args.row.now 3) (163840000000 * 20) (atom_small (inequalities c.args.facts.now) 3 c.args.row.now 3 (omega arith) (omega arith) c.requires.row)) (entry_small (inequalities c.args.facts.now) 3 c.args.old.now 4 (omega arith) c.requires.old))

pub returns : goal.returns
returns c =
    let q4 : cast_signed w128 (cast_unsigned w128 (entry c.args.row.now 4)) ≡ entry c.args.row.now 4 = back (entry c.args.row.now 4) (search rules) in
    let o4 : cast_signed w128 (cast_unsigned w128 (entry c.args.old.now 4)) ≡ entry c.args.old.now 4 = back (entry c.args.old.now 4) (search rules) in
    let q3 : cast_signed w128 (cast_unsigned w128 (entry c.args.row.now 3)) ≡ entry c.args.row.now 3 = back (entry c.args.row.now 3) (search rules) in
    let o3 : cast_signed w128 (cast_unsigned w128 (entry c.args.old.now 3)) ≡ entry c.args.old.now 3 = back (entry c.args.old.now 3) (search rules) in
    let m : c.negated-coef.result ≡ pos 0 -ℤ entry c.args.row.now 3 = c.negated-coef.ensures ∙ ap (λ w. pos 0 -ℤ w) q3 in
    let n : c.negated-old_coef.result ≡ pos 0 -ℤ entry c.args.old.now 3 = c.negated-old_coef.ensures ∙ ap (λ w. pos 0 -ℤ w) o3 in
    let mm : cast_signed w128 (cast_unsigned w128 c.negated-coef.result) ≡ c.negated-coef.result = back c.negated-coef.result (search rules) in
    let nn : cast_signed w128 (cast_unsigned w128 c.negated-old_coef.result) ≡ c.negated-old_coef.result = back c.negated-old_coef.result (search rules) in
    iff_same c.is_less.result _ _ (entry c.args.row.now 4 *ℤ (pos 0 -ℤ entry c.args.old.now 3)) (entry c.args.old.now 4 *ℤ (pos 0 -ℤ entry c.args.row.now 3)) c.is_less.ensures (cc) (cc)
