use Rattle.std.proofs.Common.{append_assoc}
use Rattle.bk_calls.specs.Sample.{implementation_script}
use Rattle.bk_calls.proofs.sample_proofs.implementation_script.Goals as goal

pub returns : goal.returns
unfolding implementation_script
returns c =
    let h = simp (c.in_ok-range.ensures) at c.in_ok-format.ensures.ok in
    simp append_assoc h
