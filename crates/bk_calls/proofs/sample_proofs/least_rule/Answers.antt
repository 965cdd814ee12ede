use Rattle.std.proofs.Common.{append_assoc}
use Rattle.bk_calls.specs.Sample.{least_rule}
use Rattle.bk_calls.proofs.sample_proofs.least_rule.Goals as goal

pub returns : goal.returns
unfolding least_rule
returns c = simp append_assoc c.in_ok-format.ensures.ok
