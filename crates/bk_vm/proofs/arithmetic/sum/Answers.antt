use Rattle.std.proofs.Common.{◌∙◌, ap}
use Rattle.bk_code.specs.Numbers.{int_max, bounded}
use Rattle.bk_vm.proofs.Steps.{sum_is}
use Rattle.bk_vm.proofs.arithmetic.sum.Goals as goal

pub returns : goal.returns
returns g c = c.bounded.ensures ∙ ap (bounded (int_max c.args.image.now)) (sum_is c.args.a c.args.b c.requires.first c.requires.second)
