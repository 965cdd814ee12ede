use Rattle.std.proofs.Common.{◌≡◌, ◌≤◌, ◌<◌, subst, arith, ap}
use Rattle.std.proofs.lemmas.Result.{IfOk-weaker}
use Rattle.bk_limits.specs.declared.TheConstants.{GREATEST_TREE_HEIGHT}
use Rattle.bk_raw.specs.Trees.RawTree.{trees_of, trees_height}
use Rattle.bk_raw.specs.Trees.SubTree.{sub, sub_assign}
use Rattle.bk_p_expr.specs.Pieces.{IsTerms}
use Rattle.bk_p_sub.proofs.Heights.{are_built, high_terms}
use Rattle.bk_p_sub.proofs.statement.Statement.assign.Goals as goal

pub returns-in_default : goal.returns-in_default
returns-in_default c = λ us h.
    let k : GREATEST_TREE_HEIGHT < trees_height us = high_terms c.args.terms us (ap are_built c.in_default.is) h in
    omega (arith, k)

pub returns : goal.returns
returns c = IfOk-weaker c.built.result _ _ (λ new made us h.
    let k : (trees_of c.in-Built.terms.items ≡ us) × (c.in-Built.height ≡ trees_height us) × (c.in-Built.height ≤ GREATEST_TREE_HEIGHT) = subst (λ t. IsTerms us t) c.in-Built.is h in
    made (sub c.args.at (sub_assign c.args.names.items us)) (λ i. sub c.args.at (sub_assign c.args.names.items (k.0 i))) (omega (arith, k.1))) c.built.ensures
