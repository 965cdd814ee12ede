use Rattle.bk_seqs.specs.RowNames.{instance_of}
use Rattle.bk_seqs.proofs.True.{law-is-true}
use Rattle.bk_seqs.proofs.instances.instance.Goals as goal

pub returns-clause-is_true : goal.returns-clause-is_true
returns-clause-is_true c = law-is-true (instance_of c.in_ok-built.field-0) c.in-Some.row c.args.picks.now c.in_ok-built.ensures
