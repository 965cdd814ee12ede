use Rattle.std.proofs.Common.{◌≡◌, ◌≤◌, ◌<◌, ◌∙◌, refl, subst, arith, ap}
use Rattle.std.proofs.lemmas.Result.{IfOk-weaker}
use Rattle.bk_limits.specs.declared.TheConstants.{GREATEST_TREE_HEIGHT}
use Rattle.bk_raw.specs.Trees.RawTree.{tree_height}
use Rattle.bk_raw.specs.Trees.SubTree.{sub, sub_height, branches_height}
use Rattle.bk_p_sub.specs.Statements.{IsTerm, IsStatement, IsBranches, tested_node}
use Rattle.bk_p_sub.specs.declared.branches.Branches.TheVariants.{Built}
use Rattle.bk_p_sub.proofs.Heights.{is_built, high_statement, high_term, high_branches, is_high_enough, tested_height}
use Rattle.bk_p_sub.proofs.statement.Statement.tested.Goals as goal

pub returns-in_default : goal.returns-in_default
returns-in_default c = λ p s bs h m n.
    let k : GREATEST_TREE_HEIGHT < sub_height s = high_statement c.args.self s c.in_default.is h in
    omega (arith, k, tested_height c.args.test p s bs)

pub returns-in_default-condition : goal.returns-in_default-condition
returns-in_default-condition c = λ p s bs h m n.
    let k : GREATEST_TREE_HEIGHT < tree_height p = high_term c.args.condition p (ap is_built c.in_default-condition.is) m in
    omega (arith, k, tested_height c.args.test p s bs)

pub returns-in_default-branches : goal.returns-in_default-branches
returns-in_default-branches c = λ p s bs h m n.
    let k : GREATEST_TREE_HEIGHT < branches_height bs = high_branches c.args.branches bs c.in_default-branches.is n in
    omega (arith, k, tested_height c.args.test p s bs)

pub returns : goal.returns
returns c = IfOk-weaker c.built.result _ _ (λ new made p s bs h m n.
    let k : (c.in-Built.body.value ≡ s) × (c.in-Built.one ≡ sub_height s) × (c.in-Built.one ≤ GREATEST_TREE_HEIGHT) = subst (λ x. IsStatement s x) c.in-Built.is h in
    let l : (c.in-Built-condition.condition.value ≡ p) × (c.in-Built-condition.two ≡ tree_height p) × (c.in-Built-condition.two ≤ GREATEST_TREE_HEIGHT) = subst (λ x. IsTerm p x) c.in-Built-condition.is m in
    let b : IsBranches bs (Built c.in-Built-branches.all c.in-Built-branches.last c.in-Built-branches.three) = subst (λ x. IsBranches bs x) c.in-Built-branches.is n in
    made (sub c.args.at (tested_node c.args.test p s bs)) ((λ i. sub c.args.at (c.node_tested-node.ensures bs c.in-Built-branches.three b i)) ∙ (λ i. sub c.args.at (tested_node c.args.test ((c.into_inner.ensures ∙ l.0) i) (k.0 i) bs))) (omega (arith, tested_height c.args.test p s bs, k.1, l.1, is_high_enough bs (Built c.in-Built-branches.all c.in-Built-branches.last c.in-Built-branches.three) c.in-Built-branches.three refl refl b, c.max.ensures, c.max-2.ensures))) c.built.ensures
