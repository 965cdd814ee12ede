use Rattle.bk_front.proofs.ProjectFiles.{lines_are_one, lines_exclude}
use Rattle.bk_front.proofs.laws.project_files.Goals as goal

pub returns-clause-one : goal.returns-clause-one
returns-clause-one c = lines_are_one

pub returns-clause-exclude : goal.returns-clause-exclude
returns-clause-exclude c = lines_exclude
