use Rattle.std.proofs.Common.{◌+◌, ◌*◌}
use Rattle.std.specs.Option.{option_copied}
use Rattle.bk_raw.specs.Trees.SubTree.{sub_size, branches_size, choices_size}
use Rattle.bk_raw.specs.Codes.SubView.{choices_of}
use Rattle.bk_scope.specs.Shown.{branches_shown}
use Rattle.bk_infer.proofs.ways.+first.Given as goal

abbrev pub decreases-first_way : goal.decreases-first_way
decreases-first_way l = 2 * sub_size l.sub.now

abbrev pub decreases-first_branch : goal.decreases-first_branch
decreases-first_branch l = 2 * branches_size (branches_shown l.branches.now (option_copied l.last)) + 1

abbrev pub decreases-first_choice : goal.decreases-first_choice
decreases-first_choice l = 2 * choices_size (choices_of l.choices.now) + 1
