use Rattle.bk_print.proofs.Examples.{tally_reads_in_scope}
use Rattle.bk_print.proofs.laws.tally_reads_in_scope.Goals as goal

pub returns : goal.returns
returns c = tally_reads_in_scope
