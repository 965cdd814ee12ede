use Rattle.std.proofs.Common.{◌≡◌, ◌+◌, ◌-◌}
use Rattle.bk_scripts.specs.LawNames.{spelled_from}
use Rattle.bk_scripts.proofs.law.spelled.Given as goal

abbrev pub invariant-loop-before : goal.invariant-loop-before
invariant-loop-before l = spelled_from (l.before + 1) (l.most - l.before) l.digits ≡ spelled_from 1 l.most l.digits
