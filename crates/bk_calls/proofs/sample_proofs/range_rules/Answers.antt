use Rattle.std.proofs.Common.{append_assoc}
use Rattle.bk_calls.specs.Sample.{range_rules}
use Rattle.bk_calls.proofs.sample_proofs.range_rules.Goals as goal

pub returns : goal.returns
unfolding range_rules
returns c =
    let h = simp (c.in_ok-least.ensures) at c.in_ok-format.ensures.ok in
    simp append_assoc h
