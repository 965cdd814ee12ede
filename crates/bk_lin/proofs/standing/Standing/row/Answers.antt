use Rattle.std.proofs.Common.{sym, ◌∙◌, arith}
use Rattle.bk_lin.proofs.Held.{line_has_number, fact_at-line}
use Rattle.bk_lin.proofs.standing.Standing.row.Goals as goal

pub row_of_line-requires-clause-made : goal.row_of_line-requires-clause-made
row_of_line-requires-clause-made c = line_has_number c.args.self.now.given.now c.args.self.now.size c.args.self.now.lines c.args.self.now.made.now c.args.number c.requires.stands (omega arith)

pub returns-clause-fact : goal.returns-clause-fact
returns-clause-fact c =
    c.row_of_line.ensures.fact
    ∙ sym (fact_at-line c.args.self.now.given.now c.args.self.now.size c.args.self.now.lines c.args.self.now.made.now c.args.number (omega arith)
    (line_has_number c.args.self.now.given.now c.args.self.now.size c.args.self.now.lines c.args.self.now.made.now c.args.number c.requires.stands (omega arith)))
