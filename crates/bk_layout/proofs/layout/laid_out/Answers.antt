use Rattle.std.proofs.Common.{arith}
use Rattle.bk_layout.proofs.layout.laid_out.Goals as goal

pub returns-clause-short : goal.returns-clause-short
returns-clause-short c = λ fits. absurd (omega arith)
