use Rattle.std.proofs.Common.{◌≡◌, ◌≤◌, ◌<◌, ◌∙◌, subst, arith}
use Rattle.bk_limits.specs.declared.TheConstants.{GREATEST_TREE_HEIGHT}
use Rattle.bk_raw.specs.Trees.SubTree.{no_choices, choice_and, sub_height, choices_height}
use Rattle.bk_raw.specs.Codes.SubView.{choices_of}
use Rattle.bk_p_sub.specs.Statements.{IsStatement, IsChoices, chosen_then}
use Rattle.bk_p_sub.proofs.Heights.{high_statement, choices_too_high, choices_of_last, chosen_height}
use Rattle.bk_p_sub.proofs.branches.Choices.and.Goals as goal

pub returns-in_default : goal.returns-in_default
returns-in_default c = λ cs s h k. choices_too_high c.args.self cs (choice_and s no_choices) c.in_default.is h

pub returns-in_default-body : goal.returns-in_default-body
returns-in_default-body c = λ cs s h k.
    let l : GREATEST_TREE_HEIGHT < sub_height s = high_statement c.args.body s c.in_default-body.is k in
    omega (arith, l, chosen_height cs (choice_and s no_choices))

pub returns : goal.returns
returns c = λ cs s h k.
    let is : (choices_of c.in-Built.all.items ≡ cs) × (c.in-Built.height ≡ choices_height cs) × (c.in-Built.height ≤ GREATEST_TREE_HEIGHT) = subst (λ b. IsChoices cs b) c.in-Built.is h in
    let r : (c.in-Built-body.body.value ≡ s) × (c.in-Built-body.other ≡ sub_height s) × (c.in-Built-body.other ≤ GREATEST_TREE_HEIGHT) = subst (λ t. IsStatement s t) c.in-Built-body.is k in (
      (λ i. choices_of (c.in_ok-push.ensures.items i)) ∙ choices_of_last c.in-Built.all.items c.into_inner.result ∙ (λ i. chosen_then (is.0 i) (choice_and ((c.into_inner.ensures ∙ r.0) i) no_choices)),
      omega (arith, chosen_height cs (choice_and s no_choices), is.1, r.1, c.max.ensures),
      omega (arith, is.2, r.2, c.max.ensures),
    )
