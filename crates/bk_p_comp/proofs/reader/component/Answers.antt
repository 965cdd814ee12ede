use Rattle.std.proofs.Common.{◌≡◌, ◌≤◌, List, [], length, ap, sym, subst, arith}
use Rattle.std.proofs.lemmas.List.{length-append}
use Rattle.bk_limits.specs.declared.TheConstants.{GREATEST_TREE_HEIGHT}
use Rattle.bk_raw.specs.Grammar.ComponentSpelling.{SpellsComponent}
use Rattle.bk_raw.specs.Trees.ComponentTree.{RawClause}
use Rattle.bk_p_expr.proofs.Choices.{if_none, if_some}
use Rattle.bk_p_comp.specs.Clauses.{AreDone, AreKeptUnless, IsHeaded, ReadOn, clauses_height, headed}
use Rattle.bk_p_comp.proofs.Whole.{component_no_header, component_no_end, component_more, component_whole, read_no_longer}
use Rattle.bk_p_comp.proofs.reader.component.Goals as goal

-- no header is in front
pub returns-in_default-2-clause-fault : goal.returns-in_default-2-clause-fault
returns-in_default-2-clause-fault c = (c.in_default.ensures, component_no_header c.args.tokens.now c.before_addition-front.result.now c.before_addition-front.ensures (if_none _ _ _ c.in_ok-headed.ensures.found c.in_default-2.is))

-- behind the clauses END is missing
pub returns-in_default-after_word-clause-fault : goal.returns-in_default-after_word-clause-fault
returns-in_default-after_word-clause-fault c =
    let h : IsHeaded c.before_addition-front.result.now c.in-Some-2.headed c.in-Some-2.behind.now = if_some _ _ _ _ c.in_ok-headed.ensures.found c.in-Some-2.is in
    let r : (cs : List RawClause) × ReadOn c.in-Some-2.headed.kind [] cs c.in-Some-2.behind.now c.in_ok-done.rest.now × AreDone cs c.in_ok-done.done = c.in_ok-done.ensures in
    let l : length c.in_ok-done.rest.now ≤ length c.in-Some-2.behind.now = read_no_longer c.in-Some-2.headed.kind [] r.0 c.in-Some-2.behind.now c.in_ok-done.rest.now r.1 in
    (c.in_default.ensures, component_no_end c.args.tokens.now c.before_addition-front.result.now h.0 c.in-Some-2.behind.now c.in_ok-done.rest.now (headed c.in-Some-2.headed r.0) _ c.before_addition-front.ensures h.1 (h.2 r.0) r.1 c.in_default-after_word.ensures.found (omega (arith, l, ap length h.1, length-append h.0 c.in-Some-2.behind.now)))

-- tokens stand behind END
pub returns-then-tokens-place-clause-fault : goal.returns-then-tokens-place-clause-fault
returns-then-tokens-place-clause-fault c =
    let h : IsHeaded c.before_addition-front.result.now c.in-Some-2.headed c.in-Some-2.behind.now = if_some _ _ _ _ c.in_ok-headed.ensures.found c.in-Some-2.is in
    let r : (cs : List RawClause) × ReadOn c.in-Some-2.headed.kind [] cs c.in-Some-2.behind.now c.in_ok-done.rest.now × AreDone cs c.in_ok-done.done = c.in_ok-done.ensures in
    let l : length c.in_ok-done.rest.now ≤ length c.in-Some-2.behind.now = read_no_longer c.in-Some-2.headed.kind [] r.0 c.in-Some-2.behind.now c.in_ok-done.rest.now r.1 in
    (c.in_default.ensures, component_more c.args.tokens.now c.before_addition-front.result.now h.0 c.in-Some-2.behind.now c.in_ok-done.rest.now c.in-Some-after_word.ended.now (headed c.in-Some-2.headed r.0) _ c.before_addition-front.ensures h.1 (h.2 r.0) r.1 c.in-Some-after_word.ensures.found (omega (arith, l, c.in-Some-after_word.ensures.shorter, ap length h.1, length-append h.0 c.in-Some-2.behind.now)) c.if-tokens-place.true)

-- the component is written, and too high
pub returns-then-done-clause-fault : goal.returns-then-done-clause-fault
returns-then-done-clause-fault c =
    let h : IsHeaded c.before_addition-front.result.now c.in-Some-2.headed c.in-Some-2.behind.now = if_some _ _ _ _ c.in_ok-headed.ensures.found c.in-Some-2.is in
    let r : (cs : List RawClause) × ReadOn c.in-Some-2.headed.kind [] cs c.in-Some-2.behind.now c.in_ok-done.rest.now × AreDone cs c.in_ok-done.done = c.in_ok-done.ensures in
    let l : length c.in_ok-done.rest.now ≤ length c.in-Some-2.behind.now = read_no_longer c.in-Some-2.headed.kind [] r.0 c.in-Some-2.behind.now c.in_ok-done.rest.now r.1 in
    (c.in_default.ensures, headed c.in-Some-2.headed r.0, component_whole c.args.tokens.now c.before_addition-front.result.now h.0 c.in-Some-2.behind.now c.in_ok-done.rest.now c.in-Some-after_word.ended.now (headed c.in-Some-2.headed r.0) _ c.before_addition-front.ensures h.1 (h.2 r.0) r.1 c.in-Some-after_word.ensures.found (omega (arith, l, c.in-Some-after_word.ensures.shorter, ap length h.1, length-append h.0 c.in-Some-2.behind.now)) c.if-tokens-place.false, subst (λ b. AreKeptUnless b c.in_ok-done.done.clauses.items r.0) c.if-done.true r.2.1)

-- the component is written
pub returns-clause-ok : goal.returns-clause-ok
returns-clause-ok c =
    let h : IsHeaded c.before_addition-front.result.now c.in-Some-2.headed c.in-Some-2.behind.now = if_some _ _ _ _ c.in_ok-headed.ensures.found c.in-Some-2.is in
    let r : (cs : List RawClause) × ReadOn c.in-Some-2.headed.kind [] cs c.in-Some-2.behind.now c.in_ok-done.rest.now × AreDone cs c.in_ok-done.done = c.in_ok-done.ensures in
    let l : length c.in_ok-done.rest.now ≤ length c.in-Some-2.behind.now = read_no_longer c.in-Some-2.headed.kind [] r.0 c.in-Some-2.behind.now c.in_ok-done.rest.now r.1 in
    let k : (c.in_ok-done.done.clauses.items ≡ r.0) × (clauses_height r.0 ≤ GREATEST_TREE_HEIGHT) = subst (λ b. AreKeptUnless b c.in_ok-done.done.clauses.items r.0) c.if-done.false r.2.1 in
    subst (λ cs. SpellsComponent (headed c.in-Some-2.headed cs) c.args.tokens.now) (sym k.0) (component_whole c.args.tokens.now c.before_addition-front.result.now h.0 c.in-Some-2.behind.now c.in_ok-done.rest.now c.in-Some-after_word.ended.now (headed c.in-Some-2.headed r.0) _ c.before_addition-front.ensures h.1 (h.2 r.0) r.1 c.in-Some-after_word.ensures.found (omega (arith, l, c.in-Some-after_word.ensures.shorter, ap length h.1, length-append h.0 c.in-Some-2.behind.now)) c.if-tokens-place.false)

pub returns-clause-low : goal.returns-clause-low
returns-clause-low c =
    let r : (cs : List RawClause) × ReadOn c.in-Some-2.headed.kind [] cs c.in-Some-2.behind.now c.in_ok-done.rest.now × AreDone cs c.in_ok-done.done = c.in_ok-done.ensures in
    let k : (c.in_ok-done.done.clauses.items ≡ r.0) × (clauses_height r.0 ≤ GREATEST_TREE_HEIGHT) = subst (λ b. AreKeptUnless b c.in_ok-done.done.clauses.items r.0) c.if-done.false r.2.1 in
    subst (λ cs. clauses_height cs ≤ GREATEST_TREE_HEIGHT) (sym k.0) k.1

-- places are differences of lengths: what is left is no longer than what was there
pub overflow_sub-result : goal.overflow_sub-result
overflow_sub-result c =
    let h : IsHeaded c.before_addition-front.result.now c.in-Some-2.headed c.in-Some-2.behind.now = if_some _ _ _ _ c.in_ok-headed.ensures.found c.in-Some-2.is in
    let r : (cs : List RawClause) × ReadOn c.in-Some-2.headed.kind [] cs c.in-Some-2.behind.now c.in_ok-done.rest.now × AreDone cs c.in_ok-done.done = c.in_ok-done.ensures in
    let l : length c.in_ok-done.rest.now ≤ length c.in-Some-2.behind.now = read_no_longer c.in-Some-2.headed.kind [] r.0 c.in-Some-2.behind.now c.in_ok-done.rest.now r.1 in
    omega (arith, l, ap length h.1, length-append h.0 c.in-Some-2.behind.now)

pub overflow_sub-place : goal.overflow_sub-place
overflow_sub-place c =
    let h : IsHeaded c.before_addition-front.result.now c.in-Some-2.headed c.in-Some-2.behind.now = if_some _ _ _ _ c.in_ok-headed.ensures.found c.in-Some-2.is in
    let r : (cs : List RawClause) × ReadOn c.in-Some-2.headed.kind [] cs c.in-Some-2.behind.now c.in_ok-done.rest.now × AreDone cs c.in_ok-done.done = c.in_ok-done.ensures in
    let l : length c.in_ok-done.rest.now ≤ length c.in-Some-2.behind.now = read_no_longer c.in-Some-2.headed.kind [] r.0 c.in-Some-2.behind.now c.in_ok-done.rest.now r.1 in
    omega (arith, l, c.in-Some-after_word.ensures.shorter, ap length h.1, length-append h.0 c.in-Some-2.behind.now)
