use Rattle.std.proofs.Common.{refl, rules, subst, arith}
use Rattle.bk_form.specs.declared.token.TokenKind.TheVariants.{Word}
use Rattle.bk_ops.specs.declared.word.TheConstants.{THEN}
use Rattle.bk_raw.specs.Grammar.Pieces.{◌⌢◌}
use Rattle.bk_raw.specs.Trees.RawTree.{RawTree}
use Rattle.bk_raw.specs.Grammar.Reading.{start}
use Rattle.bk_raw.specs.Trees.SubTree.{SubTree, sub, sub_choice, sub_while, Branches, Choices}
use Rattle.bk_raw.specs.Grammar.SubSpelling.{Sub}
use Rattle.bk_p_expr.proofs.Choices.{if_none, if_some}
use Rattle.bk_p_sub.specs.Longest.{Left}
use Rattle.bk_p_sub.specs.Found.{Ahead, NotAhead, Atom, BranchesEnd, ChoicesEnd, FoundBefore, LoopEnd, Opens}
use Rattle.bk_p_sub.specs.Statements.{IsTerm, tested_node, word_of}
use Rattle.bk_p_sub.proofs.Joined.{semicolons_begin, semicolons_go_on, semicolons_end, semicolons_end_before, semicolons_fail, bars_begin, bars_go_on, bars_end, bars_end_before, bars_fail}
use Rattle.bk_p_sub.proofs.Blocks.{FoundSub, around_found, around_none_body, around_none_end, block_none_body, tested_found, tested_none, choice_found, choice_none, loop_found, loop_none, branch_word, branches_begin, branches_none_test, branches_none_body, branches_go_on, branches_none_else, branches_none_end, branches_else, branches_stop, branches_done, choices_begin, choices_none_body, choices_go_on, choices_stop, choices_done}
use Rattle.bk_p_sub.proofs.substitutions.+substitution.Goals as goal

pub sequence-returns-in_default-clause-found : goal.sequence-returns-in_default-clause-found
sequence-returns-in_default-clause-found t c = semicolons_fail c.args.calls c.args.tokens.now (if_none _ _ _ c.in_ok-first.ensures.found c.in_default.is)

pub sequence-loop-behind-init : goal.sequence-loop-behind-init
sequence-loop-behind-init t c =
    let f : FoundSub c.args.calls 1 c.args.tokens.now c.in-Some.first c.in-Some.after.now = if_some _ _ _ _ c.in_ok-first.ensures.found c.in-Some.is in
    semicolons_begin c.args.calls c.args.tokens.now c.in-Some.after.now f.0 c.in-Some.first f.1 f.2 (if_some _ _ _ _ c.in_ok-first.ensures.shorter c.in-Some.is)

pub sequence-loop-behind-preserved : goal.sequence-loop-behind-preserved
sequence-loop-behind-preserved t c =
    let f : FoundSub c.args.calls 1 c.in-Some-after_sign.behind.now c.in-Some-2.right c.in-Some-2.after.now = if_some _ _ _ _ c.in_ok-right.ensures.found c.in-Some-2.is in
    semicolons_go_on c.args.calls c.args.tokens.now c.loop-behind.rest.now c.in-Some-after_sign.behind.now c.in-Some-2.after.now c.loop-behind.left c.in-Some-2.right c.in_ok-left.left f.0 c.start_of-at.result c.loop-behind.invariant c.in-Some-after_sign.ensures.found f.1 f.2 (if_some _ _ _ _ c.in_ok-right.ensures.shorter c.in-Some-2.is) c.start_of-at.ensures c.in_ok-left.ensures

pub sequence-returns-in_default-2-clause-found : goal.sequence-returns-in_default-2-clause-found
sequence-returns-in_default-2-clause-found t c = semicolons_end_before c.args.calls c.args.tokens.now c.loop-behind.rest.now c.in-Some-after_sign.behind.now c.loop-behind.left c.loop-behind.invariant c.in-Some-after_sign.ensures.found (if_none _ _ _ c.in_ok-right.ensures.found c.in_default-2.is)

pub sequence-returns-clause-found : goal.sequence-returns-clause-found
sequence-returns-clause-found t c = semicolons_end c.args.calls c.args.tokens.now c.loop-behind.rest.now c.loop-behind.left c.loop-behind.invariant c.in_default-after_sign.ensures.found

pub parallel-returns-in_default-clause-found : goal.parallel-returns-in_default-clause-found
parallel-returns-in_default-clause-found t c = bars_fail c.args.calls c.args.tokens.now (if_none _ _ _ c.in_ok-first.ensures.found c.in_default.is)

pub parallel-loop-behind-init : goal.parallel-loop-behind-init
parallel-loop-behind-init t c =
    let f : FoundSub c.args.calls 2 c.args.tokens.now c.in-Some.first c.in-Some.after.now = if_some _ _ _ _ c.in_ok-first.ensures.found c.in-Some.is in
    bars_begin c.args.calls c.args.tokens.now c.in-Some.after.now f.0 c.in-Some.first f.1 f.2 (if_some _ _ _ _ c.in_ok-first.ensures.shorter c.in-Some.is)

pub parallel-loop-behind-preserved : goal.parallel-loop-behind-preserved
parallel-loop-behind-preserved t c =
    let f : FoundSub c.args.calls 2 c.in-Some-after_sign.behind.now c.in-Some-2.right c.in-Some-2.after.now = if_some _ _ _ _ c.in_ok-right.ensures.found c.in-Some-2.is in
    bars_go_on c.args.calls c.args.tokens.now c.loop-behind.rest.now c.in-Some-after_sign.behind.now c.in-Some-2.after.now c.loop-behind.left c.in-Some-2.right c.in_ok-left.left f.0 c.start_of-at.result c.loop-behind.invariant c.in-Some-after_sign.ensures.found f.1 f.2 (if_some _ _ _ _ c.in_ok-right.ensures.shorter c.in-Some-2.is) c.start_of-at.ensures c.in_ok-left.ensures

pub parallel-returns-in_default-2-clause-found : goal.parallel-returns-in_default-2-clause-found
parallel-returns-in_default-2-clause-found t c = bars_end_before c.args.calls c.args.tokens.now c.loop-behind.rest.now c.in-Some-after_sign.behind.now c.loop-behind.left c.loop-behind.invariant c.in-Some-after_sign.ensures.found (if_none _ _ _ c.in_ok-right.ensures.found c.in_default-2.is)

pub parallel-returns-clause-found : goal.parallel-returns-clause-found
parallel-returns-clause-found t c = bars_end c.args.calls c.args.tokens.now c.loop-behind.rest.now c.loop-behind.left c.loop-behind.invariant c.in_default-after_sign.ensures.found

pub atom-returns-in_default-clause-found : goal.atom-returns-in_default-clause-found
atom-returns-in_default-clause-found t c = if_none _ _ _ c.in_ok-opening.ensures.found c.in_default.is

pub atom-returns-in-Closed-clause-found : goal.atom-returns-in-Closed-clause-found
atom-returns-in-Closed-clause-found t c =
    let f : Opens c.args.calls c.args.tokens.now c.in-Some.opening c.in-Some.inside.now = if_some _ _ _ _ c.in_ok-opening.ensures.found c.in-Some.is in
    let s : FoundSub c.args.calls 2 c.args.tokens.now c.in-Closed.statement c.in-Some.inside.now = subst (λ o. Opens c.args.calls c.args.tokens.now o c.in-Some.inside.now) c.in-Closed.is f in
    (s.0, s.1, s.2)

pub atom-returns-in_default-2-clause-found : goal.atom-returns-in_default-2-clause-found
atom-returns-in_default-2-clause-found t c =
    let f : Opens c.args.calls c.args.tokens.now c.in-Some.opening c.in-Some.inside.now = if_some _ _ _ _ c.in_ok-opening.ensures.found c.in-Some.is in
    around_none_body c.args.calls c.args.tokens.now c.in-Some.inside.now c.in-Around.block (subst (λ o. Opens c.args.calls c.args.tokens.now o c.in-Some.inside.now) c.in-Around.is f) (if_none _ _ _ c.in_ok-body-in-Around.ensures.found c.in_default-2.is)

pub atom-returns-in_default-after_word-clause-found : goal.atom-returns-in_default-after_word-clause-found
atom-returns-in_default-after_word-clause-found t c =
    let f : Opens c.args.calls c.args.tokens.now c.in-Some.opening c.in-Some.inside.now = if_some _ _ _ _ c.in_ok-opening.ensures.found c.in-Some.is in
    let b : FoundSub c.args.calls 0 c.in-Some.inside.now c.in-Some-2.body c.in-Some-2.after.now = if_some _ _ _ _ c.in_ok-body-in-Around.ensures.found c.in-Some-2.is in
    around_none_end c.args.calls c.args.tokens.now c.in-Some.inside.now c.in-Some-2.after.now c.in-Around.block c.in-Some-2.body (subst (λ o. Opens c.args.calls c.args.tokens.now o c.in-Some.inside.now) c.in-Around.is f) b c.in_default-after_word.ensures.found

pub atom-returns-in_ok-around-in-Around-clause-found : goal.atom-returns-in_ok-around-in-Around-clause-found
atom-returns-in_ok-around-in-Around-clause-found t c =
    let f : Opens c.args.calls c.args.tokens.now c.in-Some.opening c.in-Some.inside.now = if_some _ _ _ _ c.in_ok-opening.ensures.found c.in-Some.is in
    let b : FoundSub c.args.calls 0 c.in-Some.inside.now c.in-Some-2.body c.in-Some-2.after.now = if_some _ _ _ _ c.in_ok-body-in-Around.ensures.found c.in-Some-2.is in
    around_found c.args.calls c.args.tokens.now c.in-Some.inside.now c.in-Some-2.after.now c.in-Some-after_word.rest.now c.start_of-at.result c.in-Around.block c.in-Some-2.body c.in_ok-around-in-Around.field-0 c.start_of-at.ensures (subst (λ o. Opens c.args.calls c.args.tokens.now o c.in-Some.inside.now) c.in-Around.is f) b c.in-Some-after_word.ensures.found c.in_ok-around-in-Around.ensures

pub atom-returns-in_default-3-clause-found : goal.atom-returns-in_default-3-clause-found
atom-returns-in_default-3-clause-found t c =
    let f : Opens c.args.calls c.args.tokens.now c.in-Some.opening c.in-Some.inside.now = if_some _ _ _ _ c.in_ok-opening.ensures.found c.in-Some.is in
    let o : (p : RawTree) × IsTerm p c.in-Tested.condition × Left (Atom c.args.calls) c.args.tokens.now (λ (q : SubTree × Branches). Sub c.args.calls q.0 0 ⌢ BranchesEnd c.args.calls (word_of c.in-Tested.test) q.1) c.in-Some.inside.now (λ q. sub (start c.args.tokens.now) (tested_node c.in-Tested.test p q.0 q.1)) = subst (λ o. Opens c.args.calls c.args.tokens.now o c.in-Some.inside.now) c.in-Tested.is f in
    block_none_body c.args.calls (BranchesEnd c.args.calls (word_of c.in-Tested.test)) c.args.tokens.now c.in-Some.inside.now (λ q. sub (start c.args.tokens.now) (tested_node c.in-Tested.test o.0 q.0 q.1)) o.2 (if_none _ _ _ c.in_ok-body-in-Tested.ensures.found c.in_default-3.is)

pub atom-returns-in_default-4-clause-found : goal.atom-returns-in_default-4-clause-found
atom-returns-in_default-4-clause-found t c =
    let f : Opens c.args.calls c.args.tokens.now c.in-Some.opening c.in-Some.inside.now = if_some _ _ _ _ c.in_ok-opening.ensures.found c.in-Some.is in
    let o : (p : RawTree) × IsTerm p c.in-Tested.condition × Left (Atom c.args.calls) c.args.tokens.now (λ (q : SubTree × Branches). Sub c.args.calls q.0 0 ⌢ BranchesEnd c.args.calls (word_of c.in-Tested.test) q.1) c.in-Some.inside.now (λ q. sub (start c.args.tokens.now) (tested_node c.in-Tested.test p q.0 q.1)) = subst (λ o. Opens c.args.calls c.args.tokens.now o c.in-Some.inside.now) c.in-Tested.is f in
    let b : FoundSub c.args.calls 0 c.in-Some.inside.now c.in-Some-3.body c.in-Some-3.after.now = if_some _ _ _ _ c.in_ok-body-in-Tested.ensures.found c.in-Some-3.is in
    tested_none c.args.calls c.in-Tested.test c.args.tokens.now c.in-Some.inside.now c.in-Some-3.after.now c.in-Tested.condition c.in-Some-3.body o b (if_none _ _ _ c.in_ok-branches-in-Tested.ensures.found c.in_default-4.is)

pub atom-returns-in_ok-tested-in-Tested-clause-found : goal.atom-returns-in_ok-tested-in-Tested-clause-found
atom-returns-in_ok-tested-in-Tested-clause-found t c =
    let f : Opens c.args.calls c.args.tokens.now c.in-Some.opening c.in-Some.inside.now = if_some _ _ _ _ c.in_ok-opening.ensures.found c.in-Some.is in
    let o : (p : RawTree) × IsTerm p c.in-Tested.condition × Left (Atom c.args.calls) c.args.tokens.now (λ (q : SubTree × Branches). Sub c.args.calls q.0 0 ⌢ BranchesEnd c.args.calls (word_of c.in-Tested.test) q.1) c.in-Some.inside.now (λ q. sub (start c.args.tokens.now) (tested_node c.in-Tested.test p q.0 q.1)) = subst (λ o. Opens c.args.calls c.args.tokens.now o c.in-Some.inside.now) c.in-Tested.is f in
    let b : FoundSub c.args.calls 0 c.in-Some.inside.now c.in-Some-3.body c.in-Some-3.after.now = if_some _ _ _ _ c.in_ok-body-in-Tested.ensures.found c.in-Some-3.is in
    tested_found c.args.calls c.in-Tested.test c.args.tokens.now c.in-Some.inside.now c.in-Some-3.after.now c.in-Some-4.rest.now c.start_of-at.result c.in-Tested.condition c.in-Some-3.body c.in_ok-tested-in-Tested.field-0 c.in-Some-4.branches c.start_of-at.ensures o b (if_some _ _ _ _ c.in_ok-branches-in-Tested.ensures.found c.in-Some-4.is) c.in_ok-tested-in-Tested.ensures

pub atom-returns-in_default-5-clause-found : goal.atom-returns-in_default-5-clause-found
atom-returns-in_default-5-clause-found t c =
    let f : Opens c.args.calls c.args.tokens.now c.in-Some.opening c.in-Some.inside.now = if_some _ _ _ _ c.in_ok-opening.ensures.found c.in-Some.is in
    let o : Left (Atom c.args.calls) c.args.tokens.now (λ (q : SubTree × Choices). Sub c.args.calls q.0 0 ⌢ ChoicesEnd c.args.calls q.1) c.in-Some.inside.now (λ q. sub (start c.args.tokens.now) (sub_choice q.0 q.1)) = subst (λ o. Opens c.args.calls c.args.tokens.now o c.in-Some.inside.now) c.in-Choice.is f in
    block_none_body c.args.calls (ChoicesEnd c.args.calls) c.args.tokens.now c.in-Some.inside.now (λ q. sub (start c.args.tokens.now) (sub_choice q.0 q.1)) o (if_none _ _ _ c.in_ok-body-in-Choice.ensures.found c.in_default-5.is)

pub atom-returns-in_default-6-clause-found : goal.atom-returns-in_default-6-clause-found
atom-returns-in_default-6-clause-found t c =
    let f : Opens c.args.calls c.args.tokens.now c.in-Some.opening c.in-Some.inside.now = if_some _ _ _ _ c.in_ok-opening.ensures.found c.in-Some.is in
    let o : Left (Atom c.args.calls) c.args.tokens.now (λ (q : SubTree × Choices). Sub c.args.calls q.0 0 ⌢ ChoicesEnd c.args.calls q.1) c.in-Some.inside.now (λ q. sub (start c.args.tokens.now) (sub_choice q.0 q.1)) = subst (λ o. Opens c.args.calls c.args.tokens.now o c.in-Some.inside.now) c.in-Choice.is f in
    let b : FoundSub c.args.calls 0 c.in-Some.inside.now c.in-Some-5.body c.in-Some-5.after.now = if_some _ _ _ _ c.in_ok-body-in-Choice.ensures.found c.in-Some-5.is in
    choice_none c.args.calls c.args.tokens.now c.in-Some.inside.now c.in-Some-5.after.now c.in-Some-5.body o b (if_none _ _ _ c.in_ok-choices-in-Choice.ensures.found c.in_default-6.is)

pub atom-returns-in_ok-choice-in-Choice-clause-found : goal.atom-returns-in_ok-choice-in-Choice-clause-found
atom-returns-in_ok-choice-in-Choice-clause-found t c =
    let f : Opens c.args.calls c.args.tokens.now c.in-Some.opening c.in-Some.inside.now = if_some _ _ _ _ c.in_ok-opening.ensures.found c.in-Some.is in
    let o : Left (Atom c.args.calls) c.args.tokens.now (λ (q : SubTree × Choices). Sub c.args.calls q.0 0 ⌢ ChoicesEnd c.args.calls q.1) c.in-Some.inside.now (λ q. sub (start c.args.tokens.now) (sub_choice q.0 q.1)) = subst (λ o. Opens c.args.calls c.args.tokens.now o c.in-Some.inside.now) c.in-Choice.is f in
    let b : FoundSub c.args.calls 0 c.in-Some.inside.now c.in-Some-5.body c.in-Some-5.after.now = if_some _ _ _ _ c.in_ok-body-in-Choice.ensures.found c.in-Some-5.is in
    choice_found c.args.calls c.args.tokens.now c.in-Some.inside.now c.in-Some-5.after.now c.in-Some-6.rest.now c.start_of-at.result c.in-Some-5.body c.in_ok-choice-in-Choice.field-0 c.in-Some-6.choices c.start_of-at.ensures o b (if_some _ _ _ _ c.in_ok-choices-in-Choice.ensures.found c.in-Some-6.is) c.in_ok-choice-in-Choice.ensures

pub atom-looped-requires : goal.atom-looped-requires
atom-looped-requires t c =
    let f : Opens c.args.calls c.args.tokens.now c.in-Some.opening c.in-Some.inside.now = if_some _ _ _ _ c.in_ok-opening.ensures.found c.in-Some.is in
    (omega arith, (subst (λ o. Opens c.args.calls c.args.tokens.now o c.in-Some.inside.now) c.in-While.is f, if_some _ _ _ _ c.in_ok-opening.ensures.shorter c.in-Some.is))

pub looped-returns-in_default-clause-found : goal.looped-returns-in_default-clause-found
looped-returns-in_default-clause-found t c = block_none_body c.args.calls LoopEnd c.args.tokens.now c.args.inside.now (λ q. sub (start c.args.tokens.now) (sub_while c.requires.opens.0 q.0 q.1.0 q.1.1)) c.requires.opens.2 (if_none _ _ _ c.in_ok-body.ensures.found c.in_default.is)

pub looped-returns-in_default-2-clause-found : goal.looped-returns-in_default-2-clause-found
looped-returns-in_default-2-clause-found t c =
    let b : FoundSub c.args.calls 0 c.args.inside.now c.in-Some.body c.in-Some.after.now = if_some _ _ _ _ c.in_ok-body.ensures.found c.in-Some.is in
    loop_none c.args.calls c.args.tokens.now c.args.inside.now c.in-Some.after.now c.args.condition c.in-Some.body c.requires.opens b (if_none _ _ _ c.in_ok-invariant.ensures.found c.in_default-2.is)

pub looped-returns-clause-found : goal.looped-returns-clause-found
looped-returns-clause-found t c =
    let b : FoundSub c.args.calls 0 c.args.inside.now c.in-Some.body c.in-Some.after.now = if_some _ _ _ _ c.in_ok-body.ensures.found c.in-Some.is in
    loop_found c.args.calls c.args.tokens.now c.args.inside.now c.in-Some.after.now c.in-Some-2.rest.now c.start_of-at.result c.args.condition c.in-Some-2.invariant c.in-Some-2.variant c.in-Some.body c.in_ok-whole.whole c.start_of-at.ensures c.requires.opens b (if_some _ _ _ _ c.in_ok-invariant.ensures.found c.in-Some-2.is) c.in_ok-whole.ensures

pub branches-loop-behind-init : goal.branches-loop-behind-init
branches-loop-behind-init t c = branches_begin c.args.calls (word_of c.args.test) c.args.tokens.now _ (search rules) refl

pub branches-returns-in_default-2-clause-found : goal.branches-returns-in_default-2-clause-found
branches-returns-in_default-2-clause-found t c =
    let a : Ahead (Word (word_of c.args.test)) c.loop-behind.rest.now c.in-Some.behind.now = subst (λ k. Ahead (Word k) c.loop-behind.rest.now c.in-Some.behind.now) c.word.ensures c.in-Some.ensures.found in
    branches_none_test c.args.calls (word_of c.args.test) (branch_word c.args.test) c.args.tokens.now c.loop-behind.all c.loop-behind.rest.now c.loop-behind.invariant c.in-Some.behind.now a (if_none _ _ _ c.in_ok-condition.ensures.found c.in_default-2.is)

pub branches-returns-in_default-3-clause-found : goal.branches-returns-in_default-3-clause-found
branches-returns-in_default-3-clause-found t c =
    let a : Ahead (Word (word_of c.args.test)) c.loop-behind.rest.now c.in-Some.behind.now = subst (λ k. Ahead (Word k) c.loop-behind.rest.now c.in-Some.behind.now) c.word.ensures c.in-Some.ensures.found in
    let h : FoundBefore (Word THEN) c.in-Some.behind.now c.in-Some-2.condition c.in-Some-2.inside.now = if_some _ _ _ _ c.in_ok-condition.ensures.found c.in-Some-2.is in
    branches_none_body c.args.calls (word_of c.args.test) (branch_word c.args.test) c.args.tokens.now c.loop-behind.all c.loop-behind.rest.now c.loop-behind.invariant c.in-Some.behind.now c.in-Some-2.inside.now c.in-Some-2.condition a h (if_none _ _ _ c.in_ok-body.ensures.found c.in_default-3.is)

pub branches-and-requires : goal.branches-and-requires
branches-and-requires t c = c.loop-behind.invariant.has_no_else

pub branches-loop-behind-preserved : goal.branches-loop-behind-preserved
branches-loop-behind-preserved t c =
    let a : Ahead (Word (word_of c.args.test)) c.loop-behind.rest.now c.in-Some.behind.now = subst (λ k. Ahead (Word k) c.loop-behind.rest.now c.in-Some.behind.now) c.word.ensures c.in-Some.ensures.found in
    let h : FoundBefore (Word THEN) c.in-Some.behind.now c.in-Some-2.condition c.in-Some-2.inside.now = if_some _ _ _ _ c.in_ok-condition.ensures.found c.in-Some-2.is in
    let b : FoundSub c.args.calls 0 c.in-Some-2.inside.now c.in-Some-3.body c.in-Some-3.after.now = if_some _ _ _ _ c.in_ok-body.ensures.found c.in-Some-3.is in
    branches_go_on c.args.calls (word_of c.args.test) (branch_word c.args.test) c.args.tokens.now c.loop-behind.all c.loop-behind.rest.now c.loop-behind.invariant c.in-Some.behind.now c.in-Some-2.inside.now c.in-Some-3.after.now c.in-Some-2.condition c.in-Some-3.body c.in_ok-all.all a h b (if_some _ _ _ _ c.in_ok-condition.ensures.shorter c.in-Some-2.is) (if_some _ _ _ _ c.in_ok-body.ensures.shorter c.in-Some-3.is) c.in_ok-all.ensures.open c.in_ok-all.ensures.made

pub branches-returns-in_default-4-clause-found : goal.branches-returns-in_default-4-clause-found
branches-returns-in_default-4-clause-found t c = branches_none_else c.args.calls (word_of c.args.test) (branch_word c.args.test) c.args.tokens.now c.loop-behind.all c.loop-behind.rest.now c.loop-behind.invariant c.in-Some-after_word.behind.now c.in-Some-after_word.ensures.found (if_none _ _ _ c.in_ok-body-2.ensures.found c.in_default-4.is)

pub branches-returns-in_default-after_word-2-clause-found : goal.branches-returns-in_default-after_word-2-clause-found
branches-returns-in_default-after_word-2-clause-found t c =
    let b : FoundSub c.args.calls 0 c.in-Some-after_word.behind.now c.in-Some-4.body c.in-Some-4.after.now = if_some _ _ _ _ c.in_ok-body-2.ensures.found c.in-Some-4.is in
    branches_none_end c.args.calls (word_of c.args.test) (branch_word c.args.test) c.args.tokens.now c.loop-behind.all c.loop-behind.rest.now c.loop-behind.invariant c.in-Some-after_word.behind.now c.in-Some-4.after.now c.in-Some-4.body c.in-Some-after_word.ensures.found b c.in_default-after_word-2.ensures.found

pub branches-otherwise-requires : goal.branches-otherwise-requires
branches-otherwise-requires t c = c.loop-behind.invariant.has_no_else

pub branches-returns-in-Some-after_word-clause-found : goal.branches-returns-in-Some-after_word-clause-found
branches-returns-in-Some-after_word-clause-found t c =
    let b : FoundSub c.args.calls 0 c.in-Some-after_word.behind.now c.in-Some-4.body c.in-Some-4.after.now = if_some _ _ _ _ c.in_ok-body-2.ensures.found c.in-Some-4.is in
    branches_else c.args.calls (word_of c.args.test) (branch_word c.args.test) c.args.tokens.now c.loop-behind.all c.loop-behind.rest.now c.loop-behind.invariant c.in-Some-after_word.behind.now c.in-Some-4.after.now c.in-Some-after_word-2.rest.now c.in-Some-4.body c.otherwise.result c.in-Some-after_word.ensures.found b c.in-Some-after_word-2.ensures.found c.otherwise.ensures

pub branches-returns-in_default-after_word-3-clause-found : goal.branches-returns-in_default-after_word-3-clause-found
branches-returns-in_default-after_word-3-clause-found t c = branches_stop c.args.calls (word_of c.args.test) (branch_word c.args.test) c.args.tokens.now c.loop-behind.all c.loop-behind.rest.now c.loop-behind.invariant (subst (λ k. NotAhead (Word k) c.loop-behind.rest.now) c.word.ensures c.in_default.ensures.found) c.in_default-after_word.ensures.found c.in_default-after_word-3.ensures.found

pub branches-returns-clause-found : goal.branches-returns-clause-found
branches-returns-clause-found t c = branches_done c.args.calls (word_of c.args.test) (branch_word c.args.test) c.args.tokens.now c.loop-behind.all c.loop-behind.rest.now c.loop-behind.invariant c.in-Some-after_word-3.rest.now c.in-Some-after_word-3.ensures.found

pub choices-loop-behind-init : goal.choices-loop-behind-init
choices-loop-behind-init t c = choices_begin c.args.calls c.args.tokens.now _ (search rules)

pub choices-returns-in_default-2-clause-found : goal.choices-returns-in_default-2-clause-found
choices-returns-in_default-2-clause-found t c = choices_none_body c.args.calls c.args.tokens.now c.loop-behind.all c.loop-behind.rest.now c.loop-behind.invariant c.in-Some.behind.now c.in-Some.ensures.found (if_none _ _ _ c.in_ok-body.ensures.found c.in_default-2.is)

pub choices-loop-behind-preserved : goal.choices-loop-behind-preserved
choices-loop-behind-preserved t c =
    let b : FoundSub c.args.calls 0 c.in-Some.behind.now c.in-Some-2.body c.in-Some-2.after.now = if_some _ _ _ _ c.in_ok-body.ensures.found c.in-Some-2.is in
    choices_go_on c.args.calls c.args.tokens.now c.loop-behind.all c.loop-behind.rest.now c.loop-behind.invariant c.in-Some.behind.now c.in-Some-2.after.now c.in-Some-2.body c.in_ok-all.all c.in-Some.ensures.found b (if_some _ _ _ _ c.in_ok-body.ensures.shorter c.in-Some-2.is) c.in_ok-all.ensures

pub choices-returns-in_default-after_word-clause-found : goal.choices-returns-in_default-after_word-clause-found
choices-returns-in_default-after_word-clause-found t c = choices_stop c.args.calls c.args.tokens.now c.loop-behind.all c.loop-behind.rest.now c.loop-behind.invariant c.in_default.ensures.found c.in_default-after_word.ensures.found

pub choices-returns-clause-found : goal.choices-returns-clause-found
choices-returns-clause-found t c = choices_done c.args.calls c.args.tokens.now c.loop-behind.all c.loop-behind.rest.now c.loop-behind.invariant c.in-Some-after_word.rest.now c.in-Some-after_word.ensures.found
