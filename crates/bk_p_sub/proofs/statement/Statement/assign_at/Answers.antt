use Rattle.std.proofs.Common.{◌∙◌, ◌≡◌, ◌≤◌, ◌<◌, subst, arith, ap}
use Rattle.std.proofs.lemmas.Result.{IfOk-weaker}
use Rattle.bk_limits.specs.declared.TheConstants.{GREATEST_TREE_HEIGHT}
use Rattle.bk_raw.specs.Trees.RawTree.{tree_height}
use Rattle.bk_raw.specs.Trees.SubTree.{sub, sub_assign_at}
use Rattle.bk_p_sub.specs.Statements.{IsTerm}
use Rattle.bk_p_sub.proofs.Heights.{is_built, high_term}
use Rattle.bk_p_sub.proofs.statement.Statement.assign_at.Goals as goal

pub returns-in_default : goal.returns-in_default
returns-in_default c = λ x e h m.
    let k : GREATEST_TREE_HEIGHT < tree_height x = high_term c.args.place x (ap is_built c.in_default.is) h in
    omega (arith, k)

pub returns-in_default-value : goal.returns-in_default-value
returns-in_default-value c = λ x e h m.
    let k : GREATEST_TREE_HEIGHT < tree_height e = high_term c.args.value e (ap is_built c.in_default-value.is) m in
    omega (arith, k)

pub returns : goal.returns
returns c = IfOk-weaker c.built.result _ _ (λ new made x e h m.
    let k : (c.in-Built.place.value ≡ x) × (c.in-Built.one ≡ tree_height x) × (c.in-Built.one ≤ GREATEST_TREE_HEIGHT) = subst (λ t. IsTerm x t) c.in-Built.is h in
    let l : (c.in-Built-value.value.value ≡ e) × (c.in-Built-value.two ≡ tree_height e) × (c.in-Built-value.two ≤ GREATEST_TREE_HEIGHT) = subst (λ t. IsTerm e t) c.in-Built-value.is m in
    made (sub c.args.at (sub_assign_at c.args.name x e)) (λ i. sub c.args.at (sub_assign_at c.args.name ((c.into_inner.ensures ∙ k.0) i) ((c.into_inner-2.ensures ∙ l.0) i))) (omega (arith, k.1, l.1, c.max.ensures))) c.built.ensures
