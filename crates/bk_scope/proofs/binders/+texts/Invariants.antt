use Rattle.std.proofs.Common.{◌*◌, ◌+◌}
use Rattle.std.specs.Option.{option_copied}
use Rattle.bk_scope.specs.Shown.{branches_shown}
use Rattle.bk_raw.specs.Trees.SubTree.{branches_size, choices_size, sub_size}
use Rattle.bk_raw.specs.Codes.SubView.{choices_of}
use Rattle.bk_scope.proofs.binders.+texts.Given as goal

abbrev pub decreases-push_binder_texts : goal.decreases-push_binder_texts
decreases-push_binder_texts l = 2 * sub_size l.sub.now

abbrev pub decreases-push_branches_texts : goal.decreases-push_branches_texts
decreases-push_branches_texts l = 2 * branches_size (branches_shown l.branches.now (option_copied l.last)) + 1

abbrev pub decreases-push_choices_texts : goal.decreases-push_choices_texts
decreases-push_choices_texts l = 2 * choices_size (choices_of l.choices.now) + 1
