use Rattle.bk_form.proofs.OperandTypes.{operands_are_typed}
use Rattle.bk_form.proofs.laws.operands.Goals as goal

pub returns : goal.returns
returns c = operands_are_typed
