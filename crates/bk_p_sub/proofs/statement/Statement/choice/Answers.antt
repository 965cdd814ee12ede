use Rattle.std.proofs.Common.{◌≡◌, ◌≤◌, ◌<◌, subst, arith}
use Rattle.std.proofs.lemmas.Result.{IfOk-weaker}
use Rattle.bk_limits.specs.declared.TheConstants.{GREATEST_TREE_HEIGHT}
use Rattle.bk_raw.specs.Trees.SubTree.{sub, sub_choice, sub_height, choices_height}
use Rattle.bk_raw.specs.Codes.SubView.{choices_of}
use Rattle.bk_p_sub.specs.Statements.{IsStatement, IsChoices}
use Rattle.bk_p_sub.proofs.statement.Statement.choice.Goals as goal

pub returns-in_default : goal.returns-in_default
returns-in_default c = λ s cs h m.
    let k : GREATEST_TREE_HEIGHT < sub_height s = subst (λ t. IsStatement s t) c.in_default.is h in
    omega (arith, k)

pub returns-in_default-choices : goal.returns-in_default-choices
returns-in_default-choices c = λ s cs h m.
    let k : GREATEST_TREE_HEIGHT < choices_height cs = subst (λ t. IsChoices cs t) c.in_default-choices.is m in
    omega (arith, k)

pub returns : goal.returns
returns c = IfOk-weaker c.built.result _ _ (λ new made s cs h m.
    let k : (c.in-Built.body.value ≡ s) × (c.in-Built.one ≡ sub_height s) × (c.in-Built.one ≤ GREATEST_TREE_HEIGHT) = subst (λ t. IsStatement s t) c.in-Built.is h in
    let l : (choices_of c.in-Built-choices.all.items ≡ cs) × (c.in-Built-choices.two ≡ choices_height cs) × (c.in-Built-choices.two ≤ GREATEST_TREE_HEIGHT) = subst (λ t. IsChoices cs t) c.in-Built-choices.is m in
    made (sub c.args.at (sub_choice s cs)) (λ i. sub c.args.at (sub_choice (k.0 i) (l.0 i))) (omega (arith, k.1, l.1, c.max.ensures))) c.built.ensures
