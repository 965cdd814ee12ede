use Rattle.std.proofs.Common.{sym, arith, subst}
use Rattle.bk_lin.specs.Certificate.{inequalities}
use Rattle.bk_elim.specs.Rows.{IsRow}
use Rattle.bk_elim.proofs.Rows.{IsRow-joined}
use Rattle.bk_elim.proofs.Fitting.{can_join}
use Rattle.bk_elim.proofs.elimination.take_one.Goals as goal

pub join-requires-clause-fits : goal.join-requires-clause-fits
join-requires-clause-fits c = can_join (inequalities c.args.facts.now) 2 c.args.up.now c.args.down.now (omega arith) c.requires.up_row c.requires.down_row

pub take-requires-clause-row : goal.take-requires-clause-row
take-requires-clause-row c = subst (IsRow (inequalities c.args.facts.now) 3) (sym c.in_ok-row.ensures) (IsRow-joined (inequalities c.args.facts.now) 2 c.args.up.now c.args.down.now (omega arith) c.requires.up_row c.requires.down_row c.requires.up c.requires.down)
