use Rattle.std.proofs.Common.{rules, ◌∙◌}
use Rattle.bk_lex.proofs.Numbered.{numbered}
use Rattle.bk_calls.proofs.table.WordTable.number.Goals as goal

pub returns : goal.returns
returns c = search (rules, numbered, ◌∙◌)
