use Rattle.std.proofs.Common.{append_assoc}
use Rattle.bk_calls.specs.Sample.{scripts}
use Rattle.bk_calls.proofs.sample_proofs.scripts.Goals as goal

pub returns : goal.returns
unfolding scripts
returns c =
    let h = simp (c.in_ok-machine.ensures, c.in_ok-implementation.ensures, c.in_ok-link.ensures, c.in_ok-least.ensures, c.in_ok-greatest.ensures) at c.in_ok-format.ensures.ok in
    simp append_assoc h
