use Rattle.std.proofs.Common.{rules}
use Rattle.bk_front.proofs.ProjectFiles.{no_kind}
use Rattle.bk_front.proofs.project_file.kind_and_name.Goals as goal

pub returns-clause-line : goal.returns-clause-line
returns-clause-line c = no_kind c.args.line.now (search rules) (search rules) (search rules) (search rules) (search rules)
