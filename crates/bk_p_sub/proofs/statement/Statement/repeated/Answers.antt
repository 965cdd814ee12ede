use Rattle.std.proofs.Common.{◌∙◌, ◌≡◌, ◌≤◌, ◌<◌, subst, arith, ap}
use Rattle.std.proofs.lemmas.Result.{IfOk-weaker}
use Rattle.bk_limits.specs.declared.TheConstants.{GREATEST_TREE_HEIGHT}
use Rattle.bk_raw.specs.Trees.RawTree.{tree_height}
use Rattle.bk_raw.specs.Trees.SubTree.{sub, sub_while, sub_height}
use Rattle.bk_p_sub.specs.Statements.{IsTerm, IsStatement}
use Rattle.bk_p_sub.proofs.Heights.{is_built, high_statement, high_term}
use Rattle.bk_p_sub.proofs.statement.Statement.repeated.Goals as goal

pub returns-in_default : goal.returns-in_default
returns-in_default c = λ p s i v h m n o.
    let k : GREATEST_TREE_HEIGHT < sub_height s = high_statement c.args.self s c.in_default.is h in
    omega (arith, k)

pub returns-in_default-condition : goal.returns-in_default-condition
returns-in_default-condition c = λ p s i v h m n o.
    let k : GREATEST_TREE_HEIGHT < tree_height p = high_term c.args.condition p (ap is_built c.in_default-condition.is) m in
    omega (arith, k)

pub returns-in_default-invariant : goal.returns-in_default-invariant
returns-in_default-invariant c = λ p s i v h m n o.
    let k : GREATEST_TREE_HEIGHT < tree_height i = high_term c.args.invariant i (ap is_built c.in_default-invariant.is) n in
    omega (arith, k)

pub returns-in_default-variant : goal.returns-in_default-variant
returns-in_default-variant c = λ p s i v h m n o.
    let k : GREATEST_TREE_HEIGHT < tree_height v = high_term c.args.variant v (ap is_built c.in_default-variant.is) o in
    omega (arith, k)

pub returns : goal.returns
returns c = IfOk-weaker c.built.result _ _ (λ new made p s i v h m n o.
    let k : (c.in-Built.body.value ≡ s) × (c.in-Built.one ≡ sub_height s) × (c.in-Built.one ≤ GREATEST_TREE_HEIGHT) = subst (λ x. IsStatement s x) c.in-Built.is h in
    let l : (c.in-Built-condition.condition.value ≡ p) × (c.in-Built-condition.two ≡ tree_height p) × (c.in-Built-condition.two ≤ GREATEST_TREE_HEIGHT) = subst (λ x. IsTerm p x) c.in-Built-condition.is m in
    let q : (c.in-Built-invariant.invariant.value ≡ i) × (c.in-Built-invariant.three ≡ tree_height i) × (c.in-Built-invariant.three ≤ GREATEST_TREE_HEIGHT) = subst (λ x. IsTerm i x) c.in-Built-invariant.is n in
    let r : (c.in-Built-variant.variant.value ≡ v) × (c.in-Built-variant.four ≡ tree_height v) × (c.in-Built-variant.four ≤ GREATEST_TREE_HEIGHT) = subst (λ x. IsTerm v x) c.in-Built-variant.is o in
    made (sub c.args.at (sub_while p s i v)) (λ j. sub c.args.at (sub_while ((c.into_inner.ensures ∙ l.0) j) (k.0 j) ((c.into_inner-2.ensures ∙ q.0) j) ((c.into_inner-3.ensures ∙ r.0) j))) (omega (arith, k.1, l.1, q.1, r.1, c.max.ensures, c.max-2.ensures, c.max-height.ensures))) c.built.ensures
