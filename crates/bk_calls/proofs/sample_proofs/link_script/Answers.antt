use Rattle.std.proofs.Common.{append_assoc}
use Rattle.bk_calls.specs.Sample.{link_script}
use Rattle.bk_calls.proofs.sample_proofs.link_script.Goals as goal

pub returns : goal.returns
unfolding link_script
returns c = simp append_assoc c.in_ok-format.ensures.ok
