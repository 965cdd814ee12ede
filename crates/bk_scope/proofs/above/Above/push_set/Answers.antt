use Rattle.std.proofs.Common.{rules}
use Rattle.bk_elab_terms.specs.Visible.{visible_names}
use Rattle.bk_scope.specs.Shown.{above_shown}
use Rattle.bk_scope.proofs.StandsAbove.{empty_set, same_behind, two_behind, unnamed_set, whole_set}
use Rattle.bk_scope.proofs.above.Above.push_set.Goals as goal

pub returns-in_default-set_name : goal.returns-in_default-set_name
returns-in_default-set_name c = same_behind _ _ (unnamed_set c.args.set (above_shown c.args.self.now).table (search rules))

pub returns-in_default-elements : goal.returns-in_default-elements
returns-in_default-elements c = same_behind _ _ (empty_set c.args.set (above_shown c.args.self.now).table (search rules))

pub returns : goal.returns
returns c =
    two_behind (visible_names c.args.names.now.items) (visible_names c.push_set_name.new.names.items) (visible_names c.push_elements.new.names.items) _ _ _
    c.in_ok-push_set_name.ensures c.in_ok-push_elements.ensures
    (whole_set c.args.set (above_shown c.args.self.now).table _ _ (search rules) (search rules))
