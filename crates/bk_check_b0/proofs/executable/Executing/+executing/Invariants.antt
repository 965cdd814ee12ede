use Rattle.std.proofs.Common.{◌+◌, ◌*◌}
use Rattle.std.specs.Option.{option_copied}
use Rattle.bk_raw.specs.Trees.SubTree.{sub_size, branches_size}
use Rattle.bk_scope.specs.Shown.{branches_shown}
use Rattle.bk_check_b0.proofs.executable.Executing.+executing.Given as goal

abbrev pub decreases-statement : goal.decreases-statement
decreases-statement l = 2 * sub_size l.sub.now

abbrev pub decreases-branch : goal.decreases-branch
decreases-branch l = 2 * (sub_size l.first.now + branches_size (branches_shown l.others.now (option_copied l.last))) + 1

abbrev pub decreases-branches : goal.decreases-branches
decreases-branches l = 2 * branches_size (branches_shown l.branches.now (option_copied l.last)) + 2

abbrev pub decreases-local : goal.decreases-local
decreases-local l = 2 * sub_size l.body.now + 1
