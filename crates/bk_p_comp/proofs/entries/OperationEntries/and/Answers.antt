use Rattle.std.proofs.Common.{◌≡◌, ◌≤◌, ◌++◌, [], ◌∷◌, ◌∙◌, arith, subst}
use Rattle.bk_limits.specs.declared.TheConstants.{GREATEST_TREE_HEIGHT}
use Rattle.bk_raw.specs.Trees.ComponentTree.{RawOperation, clause_operations, parts_height}
use Rattle.bk_raw.specs.Trees.SubTree.{sub_height}
use Rattle.bk_p_sub.specs.Statements.{IsStatement}
use Rattle.bk_p_comp.specs.Entries.{titled}
use Rattle.bk_p_comp.specs.Parts.{AreOperations}
use Rattle.bk_p_comp.proofs.Standings.{high_last, high_more, low_more}
use Rattle.bk_p_comp.proofs.entries.OperationEntries.and.Goals as goal

pub returns-in_default : goal.returns-in_default
returns-in_default c = λ os s a b. high_more (λ (o : RawOperation). sub_height o.body) os (titled c.args.title s) (subst (λ p. AreOperations os p) c.in_default.is a)

pub returns-in_default-body : goal.returns-in_default-body
returns-in_default-body c = λ os s a b. high_last (λ (o : RawOperation). sub_height o.body) os (titled c.args.title s) (subst (λ q. IsStatement s q) c.in_default-body.is b)

pub returns : goal.returns
returns c = λ os s a b.
    let k : (c.in-Built.all.items ≡ os) × (parts_height (clause_operations os) ≤ GREATEST_TREE_HEIGHT) = subst (λ p. AreOperations os p) c.in-Built.is a in
    let p = subst (λ q. IsStatement s q) c.in-Built-body.is b in
    (c.in_ok-push.ensures.items ∙ (λ i. k.0 i ++ titled c.args.title ((c.into_inner-body.ensures ∙ p.0) i) ∷ []), low_more (λ (o : RawOperation). sub_height o.body) os (titled c.args.title s) k.1 (omega (arith, p.1, p.2)))
