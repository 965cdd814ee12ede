use Rattle.std.specs.Prelude.{Contains}
use Rattle.std.proofs.Common.{◌≢◌, ◌∙◌, All, map, refl, sym, subst, rules}
use Rattle.bk_raw.specs.Trees.ComponentTree.{ClauseParts, clause_number}
use Rattle.bk_p_expr.specs.Fronts.{Longest}
use Rattle.bk_p_expr.proofs.Choices.{if_none, if_some}
use Rattle.bk_p_comp.specs.Parts.{AreKept, Standing}
use Rattle.bk_p_comp.proofs.Follows.{follow_found, follow_in_none, follow_no_parts, follow_no_word, follow_not_allowed, follow_twice, not_among}
use Rattle.bk_p_comp.proofs.clause.next_clause.Goals as goal

pub returns-in_default-clause-found : goal.returns-in_default-clause-found
returns-in_default-clause-found c = λ cs a. follow_in_none c.args.kind.now cs c.args.tokens.now c.in_default.ensures

pub returns-in_default-word_of-clause-found : goal.returns-in_default-word_of-clause-found
returns-in_default-word_of-clause-found c = λ cs a. follow_no_word c.args.kind.now cs c.args.tokens.now c.in-Some.behind.now c.in-Some.first.now c.in-Some.ensures c.in_default-word_of.ensures

pub returns-in_default-2-clause-found : goal.returns-in_default-2-clause-found
returns-in_default-2-clause-found c = λ cs a. follow_no_parts c.args.kind.now cs c.args.tokens.now c.in-Some.behind.now c.in-Some.first.now c.in-Some-word_of.word c.in-Some.ensures c.in-Some-word_of.ensures (if_none _ _ _ c.in_ok-parts.ensures.found c.in_default-2.is)

pub returns-then-not-allows-clause-found : goal.returns-then-not-allows-clause-found
returns-then-not-allows-clause-found c = λ cs a. follow_not_allowed c.args.kind.now cs c.args.tokens.now c.in-Some.behind.now c.in-Some.first.now c.in-Some-word_of.word c.in-Some.ensures c.in-Some-word_of.ensures (sym c.allows.ensures ∙ c.if-not-allows.true)

pub returns-then-contains-clause-found : goal.returns-then-contains-clause-found
returns-then-contains-clause-found c = λ cs a.
    let m : Contains (map (λ d. clause_number d.word) cs) (clause_number c.in-Some-word_of.word) = subst (λ ns. Contains ns (clause_number c.in-Some-word_of.word)) a.0 (search rules) in
    follow_twice c.args.kind.now cs c.args.tokens.now c.in-Some.behind.now c.in-Some.first.now c.in-Some-word_of.word c.in-Some.ensures c.in-Some-word_of.ensures m

pub returns-clause-found : goal.returns-clause-found
returns-clause-found c = λ cs a.
    let n : Contains c.args.done.now.numbers.items (clause_number c.in-Some-word_of.word) → ⊥ = search rules in
    let f : (x : ClauseParts) × Longest (Standing c.in-Some-word_of.word) c.in-Some.behind.now x c.in-Some-2.rest.now × AreKept x c.in-Some-2.parts = if_some _ _ _ _ c.in_ok-parts.ensures.found c.in-Some-2.is in
    (record { word = c.in-Some-word_of.word; at = c.in-Some.first.now.start; parts = f.0 }, follow_found c.args.kind.now cs c.args.tokens.now c.in-Some.behind.now c.in-Some-2.rest.now c.in-Some.first.now c.in-Some-word_of.word f.0 c.in-Some.ensures c.in-Some-word_of.ensures (sym c.allows.ensures ∙ c.if-not-allows.false) (subst (λ ns. All (λ m. clause_number c.in-Some-word_of.word ≢ m) ns) a.0 (not_among c.args.done.now.numbers.items (clause_number c.in-Some-word_of.word) n)) f.1, (refl, refl, f.2))
