use Rattle.std.proofs.Common.{◌*◌, ◌+◌}
use Rattle.std.specs.Option.{option_copied}
use Rattle.bk_scope.specs.Shown.{branches_shown}
use Rattle.bk_raw.specs.Trees.SubTree.{branches_size, choices_size, sub_size}
use Rattle.bk_raw.specs.Codes.SubView.{choices_of}
use Rattle.bk_goal.proofs.written.+written.Given as goal

abbrev pub decreases-add_substitution : goal.decreases-add_substitution
decreases-add_substitution l = 2 * sub_size l.sub.now

abbrev pub decreases-add_branches : goal.decreases-add_branches
decreases-add_branches l = 2 * branches_size (branches_shown l.branches.now (option_copied l.last)) + 1

abbrev pub decreases-add_choices : goal.decreases-add_choices
decreases-add_choices l = 2 * choices_size (choices_of l.choices.now) + 1
