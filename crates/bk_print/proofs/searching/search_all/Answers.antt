use Rattle.std.proofs.Common.{◌≡◌, ◌+◌, ◌<◌, ◌≤◌, List, length, map, take, sym, subst, arith}
use Rattle.std.proofs.lemmas.List.{length-map}
use Rattle.bk_dev.specs.Flattened.{flattened}
use Rattle.bk_po.specs.Shown.{named_sequent}
use Rattle.bk_status.specs.declared.state.State.{State}
use Rattle.bk_print.specs.declared.outcome.Outcome.{Outcome}
use Rattle.bk_print.specs.Found.{AreFound, IsFoundFor}
use Rattle.bk_print.proofs.Steps.{found_turn, found_all, named_at, one_replayable}
use Rattle.bk_print.proofs.searching.search_all.Goals as goal

pub outcome_of-requires-clause-replayable : goal.outcome_of-requires-clause-replayable
outcome_of-requires-clause-replayable c =
    one_replayable c.args.dev.now c.args.types.now c.args.list.now c.loop-index.index c.index-list-index.result c.facts.ensures c.requires.within c.requires.types c.requires.list c.loop-index-test.true c.index-list-index.is

pub loop-index-preserved : goal.loop-index-preserved
loop-index-preserved c =
    let dev = flattened c.args.dev.now in
    let list = c.args.list.now in
    let i = c.loop-index.index in
    let o = c.index-list-index.result in
    let there : i < length (map named_sequent list) = omega (arith, c.loop-index-test.true, length-map list named_sequent) in
    let same : length c.args.rows.now ≡ length (map named_sequent list) = omega (arith, c.requires.rows, length-map list named_sequent) in
    let found = subst (λ (s : State). IsFoundFor dev (named_sequent o) s c.in_ok-outcome.outcome) c.state_at.ensures c.in_ok-outcome.ensures in
    subst (λ (xs : List Outcome). AreFound dev (take (i + 1) (map named_sequent list)) (take (i + 1) c.args.rows.now) xs) (sym c.in_ok-push.ensures.items)
    (found_turn dev (map named_sequent list) c.args.rows.now c.loop-index.outcomes.items i (named_sequent o) c.in_ok-outcome.outcome there same (named_at list i o c.loop-index-test.true c.index-list-index.is) c.loop-index.invariant found)

pub returns : goal.returns
returns c =
    let dev = flattened c.args.dev.now in
    let list = c.args.list.now in
    let past : length (map named_sequent list) ≤ c.loop-index.index = omega (arith, c.loop-index-test.false, length-map list named_sequent) in
    let same : length c.args.rows.now ≡ length (map named_sequent list) = omega (arith, c.requires.rows, length-map list named_sequent) in
    subst (λ os. AreFound dev os c.args.rows.now c.loop-index.outcomes.items) c.requires.list (found_all dev (map named_sequent list) c.args.rows.now c.loop-index.outcomes.items c.loop-index.index past same c.loop-index.invariant)
