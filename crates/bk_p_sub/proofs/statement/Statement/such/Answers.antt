use Rattle.std.proofs.Common.{◌∙◌, ◌≡◌, ◌≤◌, ◌<◌, subst, arith, ap}
use Rattle.std.proofs.lemmas.Result.{IfOk-weaker}
use Rattle.bk_limits.specs.declared.TheConstants.{GREATEST_TREE_HEIGHT}
use Rattle.bk_raw.specs.Trees.RawTree.{tree_height}
use Rattle.bk_raw.specs.Trees.SubTree.{sub, sub_such}
use Rattle.bk_p_sub.specs.Statements.{IsTerm}
use Rattle.bk_p_sub.proofs.Heights.{is_built, high_term}
use Rattle.bk_p_sub.proofs.statement.Statement.such.Goals as goal

pub returns-in_default : goal.returns-in_default
returns-in_default c = λ e h.
    let k : GREATEST_TREE_HEIGHT < tree_height e = high_term c.args.predicate e (ap is_built c.in_default.is) h in
    omega (arith, k)

pub returns : goal.returns
returns c = IfOk-weaker c.built.result _ _ (λ new made e h.
    let k : (c.in-Built.predicate.value ≡ e) × (c.in-Built.height ≡ tree_height e) × (c.in-Built.height ≤ GREATEST_TREE_HEIGHT) = subst (λ t. IsTerm e t) c.in-Built.is h in
    made (sub c.args.at (sub_such c.args.names.items e)) (λ i. sub c.args.at (sub_such c.args.names.items ((c.into_inner.ensures ∙ k.0) i))) (omega (arith, k.1))) c.built.ensures
