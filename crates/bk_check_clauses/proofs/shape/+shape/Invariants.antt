use Rattle.std.proofs.Common.{◌*◌, ◌+◌}
use Rattle.std.specs.Option.{option_copied}
use Rattle.bk_scope.specs.Shown.{branches_shown}
use Rattle.bk_raw.specs.Trees.SubTree.{branches_size, choices_size, sub_size}
use Rattle.bk_raw.specs.Codes.SubView.{choices_of}
use Rattle.bk_check_clauses.proofs.shape.+shape.Given as goal

abbrev pub decreases-shape_fault : goal.decreases-shape_fault
decreases-shape_fault l = 2 * sub_size l.sub.now

abbrev pub decreases-branches_shape : goal.decreases-branches_shape
decreases-branches_shape l = 2 * branches_size (branches_shown l.branches.now (option_copied l.last)) + 1

abbrev pub decreases-choices_shape : goal.decreases-choices_shape
decreases-choices_shape l = 2 * choices_size (choices_of l.choices.now) + 1
