use Rattle.std.proofs.Common.{◌≡◌, ◌≤◌, ◌<◌, ◌∙◌, subst, arith}
use Rattle.std.proofs.lemmas.Result.{IfOk-weaker}
use Rattle.bk_limits.specs.declared.TheConstants.{GREATEST_TREE_HEIGHT}
use Rattle.bk_raw.specs.Trees.SubTree.{sub, sub_height}
use Rattle.bk_p_sub.specs.Statements.{IsStatement, joint_node}
use Rattle.bk_p_sub.proofs.Heights.{high_statement, joint_height}
use Rattle.bk_p_sub.proofs.statement.Statement.with.Goals as goal

pub returns-in_default : goal.returns-in_default
returns-in_default c = λ s t h m.
    let k : GREATEST_TREE_HEIGHT < sub_height s = high_statement c.args.self s c.in_default.is h in
    omega (arith, k, joint_height c.args.joint s t)

pub returns-in_default-other : goal.returns-in_default-other
returns-in_default-other c = λ s t h m.
    let k : GREATEST_TREE_HEIGHT < sub_height t = high_statement c.args.other t c.in_default-other.is m in
    omega (arith, k, joint_height c.args.joint s t)

pub returns : goal.returns
returns c = IfOk-weaker c.built.result _ _ (λ new made s t h m.
    let k : (c.in-Built.left.value ≡ s) × (c.in-Built.one ≡ sub_height s) × (c.in-Built.one ≤ GREATEST_TREE_HEIGHT) = subst (λ x. IsStatement s x) c.in-Built.is h in
    let l : (c.in-Built-other.right.value ≡ t) × (c.in-Built-other.two ≡ sub_height t) × (c.in-Built-other.two ≤ GREATEST_TREE_HEIGHT) = subst (λ x. IsStatement t x) c.in-Built-other.is m in
    made (sub c.args.at (joint_node c.args.joint s t)) ((λ i. sub c.args.at (c.node_joined.ensures i)) ∙ (λ i. sub c.args.at (joint_node c.args.joint (k.0 i) (l.0 i)))) (omega (arith, joint_height c.args.joint s t, k.1, l.1, c.max.ensures))) c.built.ensures
