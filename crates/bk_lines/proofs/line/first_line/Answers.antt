use Rattle.std.proofs.Common.{rules}
use Rattle.bk_lines.proofs.line.first_line.Goals as goal
use Rattle.bk_lines.proofs.Cut.{lines_at, lines_none}

pub returns-in-Some-clause-line : goal.returns-in-Some-clause-line
returns-in-Some-clause-line c = rw (c.without_carriage_return.ensures) (lines_at c.args.text.now c.in-Some.end (search rules) (search rules) (λ k h e. search rules))

pub returns-in-None-clause-line : goal.returns-in-None-clause-line
returns-in-None-clause-line c = lines_none c.args.text.now (search rules) (λ k h e. search rules)
