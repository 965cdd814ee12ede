use Rattle.std.proofs.Common.{◌≡◌, drop}
use Rattle.bk_seq.specs.Paths.{sub_at}
use Rattle.bk_seq.proofs.path.at.Given as goal

abbrev pub invariant-loop-number : goal.invariant-loop-number
invariant-loop-number l = sub_at l.here (drop l.number-index l.path) ≡ sub_at l.form l.path
