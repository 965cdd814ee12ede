use Rattle.bk_calls.proofs.Longest.{no_line_is_longer, longest_is_line}
use Rattle.bk_calls.proofs.laws.longest_lines_are_longest.Goals as goal

pub returns-clause-none : goal.returns-clause-none
returns-clause-none c = no_line_is_longer

pub returns-clause-line : goal.returns-clause-line
returns-clause-line c = longest_is_line
