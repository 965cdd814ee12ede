use Rattle.std.proofs.Common.{append_assoc}
use Rattle.bk_calls.specs.Sample.{implementation_text}
use Rattle.bk_calls.proofs.sample_implementation.implementation_text.Goals as goal

pub returns : goal.returns
unfolding implementation_text
returns c =
    let h = simp (c.in_ok-variables.ensures, c.in_ok-ranges.ensures, c.in_ok-assignments.ensures, c.in_ok-operations.ensures) at c.in_ok-format.ensures.ok in
    simp append_assoc h
