use Rattle.std.proofs.Common.{◌≡◌, drop}
use Rattle.bk_gsl.specs.State.{among}
use Rattle.bk_check_subs.proofs.left.is_among.Given as goal

abbrev pub invariant-loop-other : goal.invariant-loop-other
invariant-loop-other l = among (drop l.other-index l.numbers) l.number ≡ among l.numbers l.number
