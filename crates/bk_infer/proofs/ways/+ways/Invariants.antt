use Rattle.std.proofs.Common.{◌+◌, ◌*◌}
use Rattle.std.specs.Option.{option_copied}
use Rattle.bk_raw.specs.Trees.SubTree.{sub_size, branches_size, choices_size}
use Rattle.bk_raw.specs.Codes.SubView.{choices_of}
use Rattle.bk_scope.specs.Shown.{branches_shown}
use Rattle.bk_infer.proofs.ways.+ways.Given as goal

abbrev pub decreases-push_ways : goal.decreases-push_ways
decreases-push_ways l = 2 * sub_size l.sub.now

abbrev pub decreases-push_branches_ways : goal.decreases-push_branches_ways
decreases-push_branches_ways l = 2 * branches_size (branches_shown l.branches.now (option_copied l.last)) + 1

abbrev pub decreases-push_choices_ways : goal.decreases-push_choices_ways
decreases-push_choices_ways l = 2 * choices_size (choices_of l.choices.now) + 1
