use Rattle.bk_sources.proofs.OneCut.{shallow_files_have_no_fault}
use Rattle.bk_sources.proofs.laws.shallow_files_have_no_fault.Goals as goal

pub returns : goal.returns
returns c = shallow_files_have_no_fault
