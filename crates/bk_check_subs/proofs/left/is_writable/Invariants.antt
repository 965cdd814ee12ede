use Rattle.std.proofs.Common.{◌≡◌, drop}
use Rattle.bk_check_subs.specs.Written.{writable_by}
use Rattle.bk_check_subs.proofs.left.is_writable.Given as goal

abbrev pub invariant-loop-interval : goal.invariant-loop-interval
invariant-loop-interval l = writable_by (drop l.interval-index l.writable) l.number ≡ writable_by l.writable l.number
