use Rattle.std.proofs.Common.{◌≡◌, ◌≤◌, ◌∙◌, ap, subst}
use Rattle.bk_limits.specs.declared.TheConstants.{GREATEST_TREE_HEIGHT}
use Rattle.bk_raw.specs.Trees.FreeNames.{conjuncts}
use Rattle.bk_raw.specs.Trees.RawTree.{tree_height}
use Rattle.bk_p_expr.specs.Conjuncts.{AreConjuncts}
use Rattle.bk_p_sub.specs.Statements.{IsTerm}
use Rattle.bk_p_sub.specs.Defining.{define_each}
use Rattle.bk_p_sub.proofs.Heights.{is_built, high_known, known_of}
use Rattle.bk_p_sub.proofs.DefinedNames.{is_defining, is_not_defining}
use Rattle.bk_p_sub.proofs.defining.defines.Goals as goal

pub returns-in_ok-known-in-Built-clause-defining : goal.returns-in_ok-known-in-Built-clause-defining
returns-in_ok-known-in-Built-clause-defining c = λ p h t.
    let k : (c.in-Built.term.value ≡ p) × (c.in-Built.field-1 ≡ tree_height p) × (c.in-Built.field-1 ≤ GREATEST_TREE_HEIGHT) = subst (λ q. IsTerm p q) c.in-Built.is h in
    is_defining c.args.names.now p c.in_ok-known-in-Built.known.items c.define_each.result (subst (λ q. AreConjuncts (conjuncts q) c.in_ok-known-in-Built.known.items) (c.deref.ensures ∙ k.0) c.in_ok-known-in-Built.ensures) (c.define_each.ensures ∙ ap (λ ks. define_each c.args.names.now c.args.names.now ks) c.deref-in-Built.ensures.value) t

pub returns-in_ok-known-in-Built-clause-not_defining : goal.returns-in_ok-known-in-Built-clause-not_defining
returns-in_ok-known-in-Built-clause-not_defining c = λ p h t.
    let k : (c.in-Built.term.value ≡ p) × (c.in-Built.field-1 ≡ tree_height p) × (c.in-Built.field-1 ≤ GREATEST_TREE_HEIGHT) = subst (λ q. IsTerm p q) c.in-Built.is h in
    is_not_defining c.args.names.now p c.in_ok-known-in-Built.known.items c.define_each.result (subst (λ q. AreConjuncts (conjuncts q) c.in_ok-known-in-Built.known.items) (c.deref.ensures ∙ k.0) c.in_ok-known-in-Built.ensures) (c.define_each.ensures ∙ ap (λ ks. define_each c.args.names.now c.args.names.now ks) c.deref-in-Built.ensures.value) t

pub returns-in-High-clause-defining : goal.returns-in-High-clause-defining
returns-in-High-clause-defining c = λ p h t.
    let k : AreConjuncts (conjuncts p) c.in-High.known.items = subst (λ q. AreConjuncts (conjuncts p) (known_of q)) c.in-High.is (high_known p c.args.predicate.now (ap is_built c.in-High.is) h) in
    is_defining c.args.names.now p c.in-High.known.items c.define_each-in-High.result k (c.define_each-in-High.ensures ∙ ap (λ ks. define_each c.args.names.now c.args.names.now ks) c.deref-in-High.ensures.value) t

pub returns-in-High-clause-not_defining : goal.returns-in-High-clause-not_defining
returns-in-High-clause-not_defining c = λ p h t.
    let k : AreConjuncts (conjuncts p) c.in-High.known.items = subst (λ q. AreConjuncts (conjuncts p) (known_of q)) c.in-High.is (high_known p c.args.predicate.now (ap is_built c.in-High.is) h) in
    is_not_defining c.args.names.now p c.in-High.known.items c.define_each-in-High.result k (c.define_each-in-High.ensures ∙ ap (λ ks. define_each c.args.names.now c.args.names.now ks) c.deref-in-High.ensures.value) t
