use Rattle.std.proofs.Common.{◌*◌, ◌+◌}
use Rattle.std.specs.Option.{option_copied}
use Rattle.bk_scope.specs.Shown.{branches_shown}
use Rattle.bk_raw.specs.Trees.SubTree.{branches_size, choices_size, sub_size}
use Rattle.bk_raw.specs.Codes.SubView.{choices_of}
use Rattle.bk_scope.proofs.binders.+counting.Given as goal

abbrev pub decreases-binder_count : goal.decreases-binder_count
decreases-binder_count l = 2 * sub_size l.sub.now

abbrev pub decreases-branches_count : goal.decreases-branches_count
decreases-branches_count l = 2 * branches_size (branches_shown l.branches.now (option_copied l.last)) + 1

abbrev pub decreases-choices_count : goal.decreases-choices_count
decreases-choices_count l = 2 * choices_size (choices_of l.choices.now) + 1
