use Rattle.std.proofs.Common.{◌∙◌, sym}
use Rattle.bk_p_sub.specs.Statements.{tested_node}
use Rattle.bk_p_sub.proofs.Heights.{if_node, select_node}
use Rattle.bk_p_sub.proofs.statement.node_tested.Goals as goal

pub returns-in-If : goal.returns-in-If
returns-in-If c = λ bs height h. if_node c.args.condition c.args.body c.args.branches c.args.last bs height h ∙ (λ i. tested_node (sym c.in-If.is i) c.args.condition c.args.body.value bs)

pub returns-in-Select : goal.returns-in-Select
returns-in-Select c = λ bs height h. select_node c.args.condition c.args.body c.args.branches c.args.last bs height h ∙ (λ i. tested_node (sym c.in-Select.is i) c.args.condition c.args.body.value bs)
