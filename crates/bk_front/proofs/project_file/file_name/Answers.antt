use Rattle.std.proofs.Common.{rules}
use Rattle.bk_front.proofs.Trimming.{no_space, no_text}
use Rattle.bk_front.proofs.project_file.file_name.Goals as goal

pub returns-then-not-begins_with_space : goal.returns-then-not-begins_with_space
returns-then-not-begins_with_space c name = no_space c.args.word.now c.args.line.now c.in_ok-rest.rest.now (search rules) (search rules) name

pub returns-then-not-is_text : goal.returns-then-not-is_text
returns-then-not-is_text c name = no_text c.args.word.now c.args.line.now c.in_ok-rest.rest.now (search rules) (search rules) name
