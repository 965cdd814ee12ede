use Rattle.std.proofs.Common.{◌≡◌, ◌*ℤ◌, rules, arith}
use Rattle.std.specs.Int.{w128, cast_signed, cast_unsigned}
use Rattle.bk_lin.proofs.Adding.{back}
use Rattle.bk_lin.specs.Certificate.{inequalities}
use Rattle.bk_elim.specs.Elimination.{entry}
use Rattle.bk_elim.proofs.Joining.{fits_same}
use Rattle.bk_elim.proofs.Fitting.{product_fits_back, entry_small, atom_small}
use Rattle.bk_elim.proofs.bounds.is_better_low.Goals as goal

pub is_less-requires-clause-left : goal.is_less-requires-clause-left
is_less-requires-clause-left c =
    let a : cast_signed w128 (cast_unsigned w128 (entry c.args.row.now 4)) ≡ entry c.args.row.now 4 = back (entry c.args.row.now 4) (search rules) in
    let b : cast_signed w128 (cast_unsigned w128 (entry c.args.old.now 3)) ≡ entry c.args.old.now 3 = back (entry c.args.old.now 3) (search rules) in
    fits_same _ (entry c.args.row.now 4 *ℤ entry c.args.old.now 3) (cc)
    (product_fits_back (entry c.args.row.now 4) (entry c.args.old.now 3) (atom_small (inequalities c.args.facts.now) 3 c.args.old.now 3 (omega arith) (omega arith) c.requires.old) (entry_small (inequalities c.args.facts.now) 3 c.args.row.now 4 (omega arith) c.requires.row))

pub is_less-requires-clause-right : goal.is_less-requires-clause-right
is_less-requires-clause-right c =
    let a : cast_signed w128 (cast_unsigned w128 (entry c.args.old.now 4)) ≡ entry c.args.old.now 4 = back (entry c.args.old.now 4) (search rules) in
    let b : cast_signed w128 (cast_unsigned w128 (entry c.args.row.now 3)) ≡ entry c.args.row.now 3 = back (entry c.args.row.now 3) (search rules) in
    fits_same _ (entry c.args.old.now 4 *ℤ entry c.args.row.now 3) (cc)
    (product_fits_back (entry c.args.old.now 4) (entry c.args.row.now 3) (atom_small (inequalities c.args.facts.now) 3 c.args.row.now 3 (omega arith) (omega arith) c.requires.row) (entry_small (inequalities c.args.facts.now) 3 c.args.old.now 4 (omega arith) c.requires.old))
