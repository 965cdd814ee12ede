use Rattle.std.proofs.Common.{◌+◌, ◌*◌}
use Rattle.std.specs.Option.{option_copied}
use Rattle.bk_raw.specs.Trees.SubTree.{sub_size, branches_size, choices_size}
use Rattle.bk_raw.specs.Codes.SubView.{choices_of}
use Rattle.bk_scope.specs.Shown.{branches_shown}
use Rattle.bk_infer.proofs.counting.+subs.Given as goal

abbrev pub decreases-sub_names : goal.decreases-sub_names
decreases-sub_names l = 2 * sub_size l.sub.now

abbrev pub decreases-branches_names : goal.decreases-branches_names
decreases-branches_names l = 2 * branches_size (branches_shown l.branches.now (option_copied l.last)) + 1

abbrev pub decreases-choices_names : goal.decreases-choices_names
decreases-choices_names l = 2 * choices_size (choices_of l.choices.now) + 1
