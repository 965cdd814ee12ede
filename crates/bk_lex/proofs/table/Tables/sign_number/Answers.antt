use Rattle.std.proofs.Common.{rules, ◌∙◌}
use Rattle.bk_lex.proofs.Numbered.{numbered}
use Rattle.bk_lex.proofs.table.Tables.sign_number.Goals as goal

pub returns : goal.returns
returns c = search (rules, numbered, ◌∙◌)
