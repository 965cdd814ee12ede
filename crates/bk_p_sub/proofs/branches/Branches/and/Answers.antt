use Rattle.std.proofs.Common.{◌≡◌, ◌≤◌, ◌<◌, ◌∙◌, None, subst, arith, ap}
use Rattle.bk_limits.specs.declared.TheConstants.{GREATEST_TREE_HEIGHT}
use Rattle.bk_raw.specs.Trees.RawTree.{tree_height}
use Rattle.bk_raw.specs.Trees.SubTree.{no_branches, branch_and, sub_height, branches_height}
use Rattle.bk_raw.specs.Codes.SubView.{branches_of}
use Rattle.bk_p_sub.specs.Statements.{IsTerm, IsStatement, IsBranches, IsOpen, followed_by}
use Rattle.bk_p_sub.specs.declared.branches.Branches.TheVariants.{Built}
use Rattle.bk_p_sub.proofs.Heights.{is_built, high_statement, high_term, branches_too_high, branches_with_high, branches_of_last, followed_height}
use Rattle.bk_p_sub.proofs.branches.Branches.and.Goals as goal

pub returns-in_default-clause-made : goal.returns-in_default-clause-made
returns-in_default-clause-made c = λ bs p s h m k. branches_too_high c.args.self bs (branch_and p s no_branches) c.in_default.is h

pub returns-in_default-condition-clause-made : goal.returns-in_default-condition-clause-made
returns-in_default-condition-clause-made c = λ bs p s h m k.
    let none : c.in-Built.field-1 ≡ None = subst (λ b. IsOpen b) c.in-Built.is c.requires in
    let is : (branches_of c.in-Built.all.items no_branches ≡ bs) × (c.in-Built.height ≡ branches_height bs) × (c.in-Built.height ≤ GREATEST_TREE_HEIGHT) = subst (λ o. IsBranches bs (Built c.in-Built.all o c.in-Built.height)) none (subst (λ b. IsBranches bs b) c.in-Built.is h) in
    let l : GREATEST_TREE_HEIGHT < tree_height p = high_term c.args.condition p (ap is_built c.in_default-condition.is) m in
    branches_with_high c.in-Built.all.items bs (branch_and p s no_branches) is.0 (omega (arith, l))

pub returns-in_default-body-clause-made : goal.returns-in_default-body-clause-made
returns-in_default-body-clause-made c = λ bs p s h m k.
    let none : c.in-Built.field-1 ≡ None = subst (λ b. IsOpen b) c.in-Built.is c.requires in
    let is : (branches_of c.in-Built.all.items no_branches ≡ bs) × (c.in-Built.height ≡ branches_height bs) × (c.in-Built.height ≤ GREATEST_TREE_HEIGHT) = subst (λ o. IsBranches bs (Built c.in-Built.all o c.in-Built.height)) none (subst (λ b. IsBranches bs b) c.in-Built.is h) in
    let l : GREATEST_TREE_HEIGHT < sub_height s = high_statement c.args.body s c.in_default-body.is k in
    branches_with_high c.in-Built.all.items bs (branch_and p s no_branches) is.0 (omega (arith, l))

pub returns-clause-made : goal.returns-clause-made
returns-clause-made c = λ bs p s h m k.
    let none : c.in-Built.field-1 ≡ None = subst (λ b. IsOpen b) c.in-Built.is c.requires in
    let is : (branches_of c.in-Built.all.items no_branches ≡ bs) × (c.in-Built.height ≡ branches_height bs) × (c.in-Built.height ≤ GREATEST_TREE_HEIGHT) = subst (λ o. IsBranches bs (Built c.in-Built.all o c.in-Built.height)) none (subst (λ b. IsBranches bs b) c.in-Built.is h) in
    let q : (c.in-Built-condition.condition.value ≡ p) × (c.in-Built-condition.one ≡ tree_height p) × (c.in-Built-condition.one ≤ GREATEST_TREE_HEIGHT) = subst (λ t. IsTerm p t) c.in-Built-condition.is m in
    let r : (c.in-Built-body.body.value ≡ s) × (c.in-Built-body.two ≡ sub_height s) × (c.in-Built-body.two ≤ GREATEST_TREE_HEIGHT) = subst (λ t. IsStatement s t) c.in-Built-body.is k in (
      (λ i. branches_of (c.in_ok-push.ensures.items i) no_branches) ∙ branches_of_last c.in-Built.all.items (record { condition = c.into_inner-condition.result; body = c.into_inner-body.result }) ∙ (λ i. followed_by (is.0 i) (branch_and ((c.into_inner-condition.ensures ∙ q.0) i) ((c.into_inner-body.ensures ∙ r.0) i) no_branches)),
      omega (arith, followed_height c.in-Built.all.items bs (branch_and p s no_branches) is.0, is.1, q.1, r.1, c.max.ensures, c.max-2.ensures),
      omega (arith, is.2, q.2, r.2, c.max.ensures, c.max-2.ensures),
    )
