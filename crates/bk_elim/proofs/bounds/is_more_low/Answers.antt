use Rattle.std.proofs.Common.{◌≡◌, ◌*ℤ◌, rules, arith}
use Rattle.std.specs.Int.{w128, cast_signed, cast_unsigned}
use Rattle.bk_lin.proofs.Adding.{back}
use Rattle.bk_lin.specs.Certificate.{inequalities}
use Rattle.bk_elim.specs.Elimination.{entry}
use Rattle.bk_elim.proofs.Joining.{fits_same, iff_same}
use Rattle.bk_elim.proofs.Fitting.{product_fits_back, entry_small, atom_small}
use Rattle.bk_elim.proofs.bounds.is_more_low.Goals as goal

pub is_less-requires-clause-left : goal.is_less-requires-clause-left
is_less-requires-clause-left c =
    let a : cast_signed w128 (cast_unsigned w128 c.args.constant) ≡ c.args.constant = back c.args.constant (search rules) in
    let b : cast_signed w128 (cast_unsigned w128 (entry c.args.old.now 3)) ≡ entry c.args.old.now 3 = back (entry c.args.old.now 3) (search rules) in
    fits_same _ (c.args.constant *ℤ entry c.args.old.now 3) (cc)
    (product_fits_back c.args.constant (entry c.args.old.now 3) (atom_small (inequalities c.args.facts.now) 3 c.args.old.now 3 (omega arith) (omega arith) c.requires.old) c.requires.constant)

pub is_less-requires-clause-right : goal.is_less-requires-clause-right
is_less-requires-clause-right c =
    let a : cast_signed w128 (cast_unsigned w128 (entry c.args.old.now 4)) ≡ entry c.args.old.now 4 = back (entry c.args.old.now 4) (search rules) in
    let b : cast_signed w128 (cast_unsigned w128 c.args.coef) ≡ c.args.coef = back c.args.coef (search rules) in
    fits_same _ (entry c.args.old.now 4 *ℤ c.args.coef) (cc)
    (product_fits_back (entry c.args.old.now 4) c.args.coef c.requires.coef (entry_small (inequalities c.args.facts.now) 3 c.args.old.now 4 (omega arith) c.requires.old))

pub returns : goal.returns
returns c =
    let a : cast_signed w128 (cast_unsigned w128 c.args.constant) ≡ c.args.constant = back c.args.constant (search rules) in
    let b : cast_signed w128 (cast_unsigned w128 (entry c.args.old.now 3)) ≡ entry c.args.old.now 3 = back (entry c.args.old.now 3) (search rules) in
    let d : cast_signed w128 (cast_unsigned w128 (entry c.args.old.now 4)) ≡ entry c.args.old.now 4 = back (entry c.args.old.now 4) (search rules) in
    let e : cast_signed w128 (cast_unsigned w128 c.args.coef) ≡ c.args.coef = back c.args.coef (search rules) in
    iff_same c.is_less.result _ _ (c.args.constant *ℤ entry c.args.old.now 3) (entry c.args.old.now 4 *ℤ c.args.coef) c.is_less.ensures (cc) (cc)
