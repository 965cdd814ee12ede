use Rattle.std.proofs.Common.{◌≡◌, ◌≤◌, ◌*◌, ◌^◌, sym, rules, ◌∙◌, arith, subst}
use Rattle.std.specs.Int.{w128, cast_signed, cast_unsigned}
use Rattle.std.specs.Int.RustNames.{unsigned_abs}
use Rattle.bk_lin.proofs.Adding.{back}
use Rattle.bk_lin.specs.Certificate.{inequalities}
use Rattle.bk_elim.specs.Elimination.{entry, joined}
use Rattle.bk_elim.specs.Rows.{IsRow}
use Rattle.bk_elim.proofs.Rows.{IsRow-joined}
use Rattle.bk_elim.proofs.Fitting.{entry_small, atom_small}
use Rattle.bk_elim.proofs.elimination.is_wanted.Goals as goal

pub wants-requires-clause-coef : goal.wants-requires-clause-coef
wants-requires-clause-coef c =
    let row : IsRow (inequalities c.args.facts.now) 3 (joined 2 c.args.up.now c.args.down.now) = IsRow-joined (inequalities c.args.facts.now) 2 c.args.up.now c.args.down.now (omega arith) c.requires.up_row c.requires.down_row c.requires.up c.requires.down in
    let same : cast_signed w128 (cast_unsigned w128 c.joined_entry-coef.result) ≡ entry (joined 2 c.args.up.now c.args.down.now) 3 = back c.joined_entry-coef.result (search rules) ∙ c.joined_entry-coef.ensures in
    subst (λ z. unsigned_abs z ≤ 163840000000 * 20) (sym same) (atom_small (inequalities c.args.facts.now) 3 (joined 2 c.args.up.now c.args.down.now) 3 (omega arith) (omega arith) row)

pub wants-requires-clause-constant : goal.wants-requires-clause-constant
wants-requires-clause-constant c =
    let row : IsRow (inequalities c.args.facts.now) 3 (joined 2 c.args.up.now c.args.down.now) = IsRow-joined (inequalities c.args.facts.now) 2 c.args.up.now c.args.down.now (omega arith) c.requires.up_row c.requires.down_row c.requires.up c.requires.down in
    let same : cast_signed w128 (cast_unsigned w128 c.joined_entry-constant.result) ≡ entry (joined 2 c.args.up.now c.args.down.now) 4 = back c.joined_entry-constant.result (search rules) ∙ c.joined_entry-constant.ensures in
    subst (λ z. unsigned_abs z ≤ 163840000000 * 2 ^ 40) (sym same) (entry_small (inequalities c.args.facts.now) 3 (joined 2 c.args.up.now c.args.down.now) 4 (omega arith) row)
