use Rattle.bk_image.proofs.OneFault.{one_fault}
use Rattle.bk_image.proofs.Verdicts.{encodes_one, faults_exclude, one_image}
use Rattle.bk_image.proofs.laws.spellings_are_unique.Goals as goal

pub returns : goal.returns
returns c = record { image = one_image; encoded = encodes_one; no_fault = faults_exclude; one_fault = one_fault }
