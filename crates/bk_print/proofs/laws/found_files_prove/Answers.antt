use Rattle.bk_print.proofs.FoundFiles.{found-files-prove}
use Rattle.bk_print.proofs.laws.found_files_prove.Goals as goal

pub returns : goal.returns
returns c = found-files-prove
