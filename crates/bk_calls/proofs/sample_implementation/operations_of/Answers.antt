use Rattle.std.proofs.Common.{append_assoc}
use Rattle.bk_calls.proofs.sample_implementation.operations_of.Goals as goal

pub returns : goal.returns
returns c = simp append_assoc c.in_ok-format.ensures.ok
