use Rattle.std.proofs.Common.{◌+◌, ◌++◌, List, ℕ, codes, ap, sym, arith}
use Rattle.bk_print.proofs.Pieces.{semicolon-more, semicolon-none}
use Rattle.bk_print.proofs.printing.end_of_line.Goals as goal

pub returns-then-index-rules : goal.returns-then-index-rules
returns-then-index-rules c = ap (λ (t : List ℕ). t ++ codes "\n") (sym (semicolon-more c.args.rules.now (c.args.index + 1) (omega arith)))

pub returns-else-index-rules : goal.returns-else-index-rules
returns-else-index-rules c = ap (λ (t : List ℕ). t ++ codes "\n") (sym (semicolon-none c.args.rules.now (c.args.index + 1) (omega arith)))
