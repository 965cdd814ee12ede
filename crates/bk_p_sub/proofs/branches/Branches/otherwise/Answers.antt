use Rattle.std.proofs.Common.{◌≡◌, ◌≤◌, ◌<◌, ◌∙◌, None, subst, arith}
use Rattle.bk_limits.specs.declared.TheConstants.{GREATEST_TREE_HEIGHT}
use Rattle.bk_raw.specs.Trees.SubTree.{no_branches, else_branch, sub_height, branches_height}
use Rattle.bk_raw.specs.Codes.SubView.{branches_of}
use Rattle.bk_p_sub.specs.Statements.{IsStatement, IsBranches, IsOpen, followed_by}
use Rattle.bk_p_sub.specs.declared.branches.Branches.TheVariants.{Built}
use Rattle.bk_p_sub.proofs.Heights.{high_statement, branches_too_high, branches_with_high, branches_of_else, followed_height}
use Rattle.bk_p_sub.proofs.branches.Branches.otherwise.Goals as goal

pub returns-in_default : goal.returns-in_default
returns-in_default c = λ bs s h k. branches_too_high c.args.self bs (else_branch s) c.in_default.is h

pub returns-in_default-body : goal.returns-in_default-body
returns-in_default-body c = λ bs s h k.
    let none : c.in-Built.field-1 ≡ None = subst (λ b. IsOpen b) c.in-Built.is c.requires in
    let is : (branches_of c.in-Built.all.items no_branches ≡ bs) × (c.in-Built.height ≡ branches_height bs) × (c.in-Built.height ≤ GREATEST_TREE_HEIGHT) = subst (λ o. IsBranches bs (Built c.in-Built.all o c.in-Built.height)) none (subst (λ b. IsBranches bs b) c.in-Built.is h) in
    let l : GREATEST_TREE_HEIGHT < sub_height s = high_statement c.args.body s c.in_default-body.is k in
    branches_with_high c.in-Built.all.items bs (else_branch s) is.0 l

pub returns : goal.returns
returns c = λ bs s h k.
    let none : c.in-Built.field-1 ≡ None = subst (λ b. IsOpen b) c.in-Built.is c.requires in
    let is : (branches_of c.in-Built.all.items no_branches ≡ bs) × (c.in-Built.height ≡ branches_height bs) × (c.in-Built.height ≤ GREATEST_TREE_HEIGHT) = subst (λ o. IsBranches bs (Built c.in-Built.all o c.in-Built.height)) none (subst (λ b. IsBranches bs b) c.in-Built.is h) in
    let r : (c.in-Built-body.body.value ≡ s) × (c.in-Built-body.other ≡ sub_height s) × (c.in-Built-body.other ≤ GREATEST_TREE_HEIGHT) = subst (λ t. IsStatement s t) c.in-Built-body.is k in (
      branches_of_else c.in-Built.all.items c.in-Built-body.body.value ∙ (λ i. followed_by (is.0 i) (else_branch (r.0 i))),
      omega (arith, followed_height c.in-Built.all.items bs (else_branch s) is.0, is.1, r.1, c.max.ensures),
      omega (arith, is.2, r.2, c.max.ensures),
    )
