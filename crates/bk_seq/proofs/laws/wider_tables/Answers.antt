use Rattle.bk_seq.proofs.Widening.{validity_widens}
use Rattle.bk_seq.proofs.laws.wider_tables.Goals as goal

pub returns : goal.returns
returns c = validity_widens
