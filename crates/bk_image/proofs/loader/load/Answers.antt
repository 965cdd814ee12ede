use Rattle.std.proofs.Common.{arith}
use Rattle.bk_image.proofs.Verdicts.{verdict}
use Rattle.bk_image.proofs.loader.load.Goals as goal

pub returns-clause-only : goal.returns-clause-only
returns-clause-only c = verdict c.args.bytes.now c.load_in_rounds.result (λ i. omega (arith, c.type_inv.bytes i)) c.load_in_rounds.ensures.found c.load_in_rounds.ensures.fault
