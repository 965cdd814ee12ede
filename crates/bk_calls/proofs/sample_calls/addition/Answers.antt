use Rattle.std.proofs.Common.{append_assoc}
use Rattle.bk_calls.specs.Sample.{addition}
use Rattle.bk_calls.proofs.sample_calls.addition.Goals as goal

pub returns : goal.returns
unfolding addition
returns c = simp append_assoc c.in_ok-format.ensures.ok
