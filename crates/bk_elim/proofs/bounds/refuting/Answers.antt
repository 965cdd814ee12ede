use Rattle.std.proofs.Common.{◌≡◌, sym, rules, arith, subst}
use Rattle.std.proofs.lemmas.Int.{ints}
use Rattle.std.specs.Int.{w128, cast_signed, cast_unsigned}
use Rattle.bk_lin.proofs.Adding.{back}
use Rattle.bk_lin.specs.Certificate.{inequalities}
use Rattle.bk_elim.specs.Elimination.{entry}
use Rattle.bk_elim.specs.Rows.{IsRow}
use Rattle.bk_elim.proofs.Rows.{IsRow-joined}
use Rattle.bk_elim.proofs.Fitting.{can_join}
use Rattle.bk_elim.proofs.Steps.{at_index}
use Rattle.bk_elim.proofs.bounds.refuting.Goals as goal

pub join-requires-clause-fits : goal.join-requires-clause-fits
join-requires-clause-fits c = can_join (inequalities c.args.facts.now) 3 c.args.low.now c.args.high.now (omega arith) c.requires.low c.requires.high

pub returns-then-index-lt0 : goal.returns-then-index-lt0
returns-then-index-lt0 c =
    let row : IsRow (inequalities c.args.facts.now) 4 c.in_ok-both.both.items =
    subst (IsRow (inequalities c.args.facts.now) 4) (sym c.in_ok-both.ensures) (IsRow-joined (inequalities c.args.facts.now) 3 c.args.low.now c.args.high.now (omega arith) c.requires.low c.requires.high c.requires.up c.requires.down) in
    let read : c.index.result.now ≡ entry c.in_ok-both.both.items 4 = at_index c.in_ok-both.both.items 4 c.index.result.now (let e = row.wide in omega arith) c.index.ensures in
    let same : cast_signed w128 (cast_unsigned w128 c.index.result.now) ≡ c.index.result.now = back c.index.result.now (search rules) in
    record { whole = row; negative = omega (arith, ints) }
