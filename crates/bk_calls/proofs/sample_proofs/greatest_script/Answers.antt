use Rattle.std.proofs.Common.{append_assoc}
use Rattle.bk_calls.specs.Sample.{greatest_script}
use Rattle.bk_calls.proofs.sample_proofs.greatest_script.Goals as goal

pub returns : goal.returns
unfolding greatest_script
returns c = simp append_assoc c.in_ok-format.ensures.ok
