use Rattle.std.proofs.Common.{[], rules}
use Rattle.bk_raw.specs.Grammar.ComponentSpelling.{Operation}
use Rattle.bk_raw.specs.Trees.SubTree.{SubTree}
use Rattle.bk_raw.proofs.ClauseRuns.{operation-leads}
use Rattle.bk_p_expr.specs.Fronts.{Longest}
use Rattle.bk_p_expr.proofs.Choices.{if_none, if_some}
use Rattle.bk_p_sub.specs.Statements.{IsStatement}
use Rattle.bk_p_comp.specs.Entries.{titled}
use Rattle.bk_p_comp.specs.Parts.{AreOperations}
use Rattle.bk_p_comp.proofs.EntryRows.{entries_begin, entries_end, entries_end_before, entries_fail, entries_go_on, one_operation}
use Rattle.bk_p_comp.proofs.entries.operations.Goals as goal

pub returns-in_default-clause-found : goal.returns-in_default-clause-found
returns-in_default-clause-found c = entries_fail Operation c.args.tokens.now (if_none _ _ _ c.in_ok-title.ensures.found c.in_default.is)

pub loop-behind-init : goal.loop-behind-init
loop-behind-init c =
    let o : (s : SubTree) × Longest Operation c.args.tokens.now (titled c.in-Some.title s) c.in-Some.after.now × IsStatement s c.in-Some.body = if_some _ _ _ _ c.in_ok-title.ensures.found c.in-Some.is in
    entries_begin Operation AreOperations operation-leads one_operation c.args.tokens.now c.in-Some.after.now (titled c.in-Some.title o.0) c.in_ok-all.all o.1 (c.in_ok-all.ensures [] o.0 (search rules) o.2) (if_some _ _ _ _ c.in_ok-title.ensures.shorter c.in-Some.is)

pub loop-behind-preserved : goal.loop-behind-preserved
loop-behind-preserved c =
    let o : (s : SubTree) × Longest Operation c.in-Some-after_sign.behind.now (titled c.in-Some-2.title s) c.in-Some-2.after.now × IsStatement s c.in-Some-2.body = if_some _ _ _ _ c.in_ok-title-2.ensures.found c.in-Some-2.is in
    entries_go_on Operation AreOperations operation-leads one_operation c.args.tokens.now c.loop-behind.rest.now c.in-Some-after_sign.behind.now c.in-Some-2.after.now (titled c.in-Some-2.title o.0) c.loop-behind.all c.in_ok-all-2.all c.loop-behind.invariant c.in-Some-after_sign.ensures.found o.1 (λ os h. c.in_ok-all-2.ensures os o.0 h o.2) (if_some _ _ _ _ c.in_ok-title-2.ensures.shorter c.in-Some-2.is)

pub returns-in_default-2-clause-found : goal.returns-in_default-2-clause-found
returns-in_default-2-clause-found c = (entries_end_before Operation AreOperations operation-leads one_operation c.args.tokens.now c.loop-behind.rest.now c.in-Some-after_sign.behind.now c.loop-behind.all c.loop-behind.invariant c.in-Some-after_sign.ensures.found (if_none _ _ _ c.in_ok-title-2.ensures.found c.in_default-2.is))

pub returns-clause-found : goal.returns-clause-found
returns-clause-found c = (entries_end Operation AreOperations operation-leads one_operation c.args.tokens.now c.loop-behind.rest.now c.loop-behind.all c.loop-behind.invariant c.in_default-after_sign.ensures.found)

pub returns-in_default-2-clause-shorter : goal.returns-in_default-2-clause-shorter
returns-in_default-2-clause-shorter c = c.loop-behind.invariant.shorter

pub returns-clause-shorter : goal.returns-clause-shorter
returns-clause-shorter c = c.loop-behind.invariant.shorter
