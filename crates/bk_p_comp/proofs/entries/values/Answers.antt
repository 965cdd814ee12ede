use Rattle.std.proofs.Common.{[], rules}
use Rattle.bk_raw.specs.Grammar.ComponentSpelling.{Value}
use Rattle.bk_raw.specs.Trees.RawTree.{RawTree}
use Rattle.bk_raw.proofs.ClauseRuns.{value-leads}
use Rattle.bk_p_expr.specs.Fronts.{Longest}
use Rattle.bk_p_expr.specs.Pieces.{IsPiece}
use Rattle.bk_p_expr.proofs.Choices.{if_none, if_some}
use Rattle.bk_p_comp.specs.Parts.{AreValues}
use Rattle.bk_p_comp.proofs.EntryRows.{entries_begin, entries_end, entries_end_before, entries_fail, entries_go_on, one_value}
use Rattle.bk_p_comp.proofs.entries.values.Goals as goal

pub returns-in_default-clause-found : goal.returns-in_default-clause-found
returns-in_default-clause-found c = entries_fail Value c.args.tokens.now (if_none _ _ _ c.in_ok-name.ensures.found c.in_default.is)

pub loop-behind-init : goal.loop-behind-init
loop-behind-init c =
    let v : (e : RawTree) × Longest Value c.args.tokens.now (record { name = c.in-Some.name; value = e }) c.in-Some.after.now × IsPiece e c.in-Some.first = if_some _ _ _ _ c.in_ok-name.ensures.found c.in-Some.is in
    entries_begin Value AreValues value-leads one_value c.args.tokens.now c.in-Some.after.now (record { name = c.in-Some.name; value = v.0 }) c.in_ok-all.all v.1 (c.in_ok-all.ensures [] v.0 (search rules) v.2) (if_some _ _ _ _ c.in_ok-name.ensures.shorter c.in-Some.is)

pub loop-behind-preserved : goal.loop-behind-preserved
loop-behind-preserved c =
    let v : (e : RawTree) × Longest Value c.in-Some-after_sign.behind.now (record { name = c.in-Some-2.name; value = e }) c.in-Some-2.after.now × IsPiece e c.in-Some-2.value = if_some _ _ _ _ c.in_ok-name-2.ensures.found c.in-Some-2.is in
    entries_go_on Value AreValues value-leads one_value c.args.tokens.now c.loop-behind.rest.now c.in-Some-after_sign.behind.now c.in-Some-2.after.now (record { name = c.in-Some-2.name; value = v.0 }) c.loop-behind.all c.in_ok-all-2.all c.loop-behind.invariant c.in-Some-after_sign.ensures.found v.1 (λ vs h. c.in_ok-all-2.ensures vs v.0 h v.2) (if_some _ _ _ _ c.in_ok-name-2.ensures.shorter c.in-Some-2.is)

pub returns-in_default-2-clause-found : goal.returns-in_default-2-clause-found
returns-in_default-2-clause-found c = (entries_end_before Value AreValues value-leads one_value c.args.tokens.now c.loop-behind.rest.now c.in-Some-after_sign.behind.now c.loop-behind.all c.loop-behind.invariant c.in-Some-after_sign.ensures.found (if_none _ _ _ c.in_ok-name-2.ensures.found c.in_default-2.is))

pub returns-clause-found : goal.returns-clause-found
returns-clause-found c = (entries_end Value AreValues value-leads one_value c.args.tokens.now c.loop-behind.rest.now c.loop-behind.all c.loop-behind.invariant c.in_default-after_sign.ensures.found)

pub returns-in_default-2-clause-shorter : goal.returns-in_default-2-clause-shorter
returns-in_default-2-clause-shorter c = c.loop-behind.invariant.shorter

pub returns-clause-shorter : goal.returns-clause-shorter
returns-clause-shorter c = c.loop-behind.invariant.shorter
