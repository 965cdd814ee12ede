use Rattle.std.proofs.Common.{◌+◌, ◌*◌}
use Rattle.std.specs.Option.{option_copied}
use Rattle.bk_raw.specs.Trees.SubTree.{sub_size, branches_size, choices_size}
use Rattle.bk_raw.specs.Codes.SubView.{choices_of}
use Rattle.bk_scope.specs.Shown.{branches_shown}
use Rattle.bk_check_subs.proofs.left.+written.Given as goal

abbrev pub decreases-push_writes : goal.decreases-push_writes
decreases-push_writes l = 2 * sub_size l.sub.now

abbrev pub decreases-push_outer_writes : goal.decreases-push_outer_writes
decreases-push_outer_writes l = 2 * sub_size l.body.now + 1

abbrev pub decreases-push_branches_writes : goal.decreases-push_branches_writes
decreases-push_branches_writes l = 2 * branches_size (branches_shown l.branches.now (option_copied l.last)) + 1

abbrev pub decreases-push_choices_writes : goal.decreases-push_choices_writes
decreases-push_choices_writes l = 2 * choices_size (choices_of l.choices.now) + 1
