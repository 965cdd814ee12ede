use Rattle.std.proofs.Common.{arith}
use Rattle.std.proofs.lemmas.Int.{to_z-of_z}
use Rattle.bk_vm.proofs.Tops.{tops-push}
use Rattle.bk_vm.proofs.execute.settle.Goals as goal

pub returns-in-Ok-clause-outcome : goal.returns-in-Ok-clause-outcome
returns-in-Ok-clause-outcome c = grind (arith, to_z-of_z, tops-push)
