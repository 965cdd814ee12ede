use Rattle.bk_seq.proofs.SizedValidity.{sizes_keep_sequents}
use Rattle.bk_seq.proofs.laws.sized_tables.Goals as goal

pub returns : goal.returns
returns c = sizes_keep_sequents
