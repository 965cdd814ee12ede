use Rattle.std.proofs.Common.{◌+◌, ◌*◌}
use Rattle.std.specs.Option.{option_copied}
use Rattle.bk_raw.specs.Trees.SubTree.{sub_size, branches_size, choices_size}
use Rattle.bk_raw.specs.Codes.SubView.{choices_of}
use Rattle.bk_scope.specs.Shown.{branches_shown}
use Rattle.bk_check_subs.proofs.judging.Judge.+judging.Given as goal

abbrev pub decreases-substitution : goal.decreases-substitution
decreases-substitution l = 2 * sub_size l.sub.now

abbrev pub decreases-branches : goal.decreases-branches
decreases-branches l = 2 * branches_size (branches_shown l.branches.now (option_copied l.last)) + 1

abbrev pub decreases-choices : goal.decreases-choices
decreases-choices l = 2 * choices_size (choices_of l.choices.now) + 1

abbrev pub decreases-binder : goal.decreases-binder
decreases-binder l = 2 * sub_size l.body.now + 1

abbrev pub decreases-repetition : goal.decreases-repetition
decreases-repetition l = 2 * sub_size l.body.now + 1

abbrev pub decreases-parallel : goal.decreases-parallel
decreases-parallel l = 2 * (sub_size l.left.now + sub_size l.right.now) + 1
