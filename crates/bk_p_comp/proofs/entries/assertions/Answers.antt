use Rattle.std.proofs.Common.{subst, sym, rules}
use Rattle.bk_raw.specs.Trees.RawTree.{RawTree, no_trees, trees_of}
use Rattle.bk_raw.specs.Grammar.Spelling.{Term}
use Rattle.bk_raw.proofs.ClauseRuns.{division-term}
use Rattle.bk_p_expr.specs.Fronts.{Longest}
use Rattle.bk_p_expr.specs.Pieces.{IsPiece, IsTerms}
use Rattle.bk_p_expr.proofs.Choices.{if_none, if_some}
use Rattle.bk_p_expr.proofs.Heights.{trees_of_last}
use Rattle.bk_p_comp.proofs.EntryRows.{entries_begin, entries_end, entries_end_before, entries_fail, entries_go_on, one_term}
use Rattle.bk_p_comp.proofs.entries.assertions.Goals as goal

pub returns-in_default-clause-found : goal.returns-in_default-clause-found
returns-in_default-clause-found c = entries_fail (λ t. Term t 0) c.args.tokens.now (if_none _ _ _ c.in_ok-first.ensures.found c.in_default.is)

pub loop-behind-init : goal.loop-behind-init
loop-behind-init c =
    let t : (t : RawTree) × Longest (λ t. Term t 0) c.args.tokens.now t c.in-Some.after.now × IsPiece t c.in-Some.first = if_some _ _ _ _ c.in_ok-first.ensures.found c.in-Some.is in
    entries_begin (λ t. Term t 0) (λ ts all. IsTerms (trees_of ts) all) division-term one_term c.args.tokens.now c.in-Some.after.now t.0 c.in_ok-all.all t.1 (c.in_ok-all.ensures no_trees t.0 (search rules) t.2) (if_some _ _ _ _ c.in_ok-first.ensures.shorter c.in-Some.is)

pub loop-behind-preserved : goal.loop-behind-preserved
loop-behind-preserved c =
    let t : (t : RawTree) × Longest (λ t. Term t 0) c.in-Some-after_sign.behind.now t c.in-Some-2.after.now × IsPiece t c.in-Some-2.term = if_some _ _ _ _ c.in_ok-term.ensures.found c.in-Some-2.is in
    entries_go_on (λ t. Term t 0) (λ ts all. IsTerms (trees_of ts) all) division-term one_term c.args.tokens.now c.loop-behind.rest.now c.in-Some-after_sign.behind.now c.in-Some-2.after.now t.0 c.loop-behind.all c.in_ok-all-2.all c.loop-behind.invariant c.in-Some-after_sign.ensures.found t.1 (λ ts h. subst (λ us. IsTerms us c.in_ok-all-2.all) (sym (trees_of_last ts t.0)) (c.in_ok-all-2.ensures (trees_of ts) t.0 h t.2)) (if_some _ _ _ _ c.in_ok-term.ensures.shorter c.in-Some-2.is)

pub returns-in_default-2-clause-found : goal.returns-in_default-2-clause-found
returns-in_default-2-clause-found c = (entries_end_before (λ t. Term t 0) (λ ts all. IsTerms (trees_of ts) all) division-term one_term c.args.tokens.now c.loop-behind.rest.now c.in-Some-after_sign.behind.now c.loop-behind.all c.loop-behind.invariant c.in-Some-after_sign.ensures.found (if_none _ _ _ c.in_ok-term.ensures.found c.in_default-2.is))

pub returns-clause-found : goal.returns-clause-found
returns-clause-found c = (entries_end (λ t. Term t 0) (λ ts all. IsTerms (trees_of ts) all) division-term one_term c.args.tokens.now c.loop-behind.rest.now c.loop-behind.all c.loop-behind.invariant c.in_default-after_sign.ensures.found)

pub returns-in_default-2-clause-shorter : goal.returns-in_default-2-clause-shorter
returns-in_default-2-clause-shorter c = c.loop-behind.invariant.shorter

pub returns-clause-shorter : goal.returns-clause-shorter
returns-clause-shorter c = c.loop-behind.invariant.shorter
