use Rattle.std.proofs.Common.{sym, subst}
use Rattle.std.specs.Prelude.{Option, IfOk, IfSome}
use Rattle.bk_dev.specs.Flattened.{flattened}
use Rattle.bk_po.specs.Shown.{named_sequent}
use Rattle.bk_status.specs.Replayable.{IsReplayable}
use Rattle.bk_p_proof.specs.Files.{IsShort}
use Rattle.bk_goal.specs.declared.asked.Found.{Found}
use Rattle.bk_goal.specs.Shown.{ShowsGoal, ShowsAfter, ShowsAlone}
use Rattle.bk_goal.proofs.goal.goal_text.Goals as goal

pub behind_rules-requires-clause-replayable : goal.behind_rules-requires-clause-replayable
behind_rules-requires-clause-replayable c = subst (IsReplayable c.args.asked.table.now) (sym c.in_ok-sequent.ensures) c.requires.replayable

pub behind_rules-requires-clause-short : goal.behind_rules-requires-clause-short
behind_rules-requires-clause-short c = subst (λ (o : Option Found). IfSome o (λ (f : Found). IsShort f.script.now)) c.in-Some.is c.requires.short

pub returns-in-Some : goal.returns-in-Some
returns-in-Some c =
    let dev = flattened c.args.asked.dev.now in
    let at = c.args.asked.at in
    let o = c.args.asked.obligation.now in
    let shown = subst (λ s. IfOk c.behind_rules.result (λ g. ShowsAfter dev c.in-Some.found at (o.name, s) g.text.items g.is_open)) c.in_ok-sequent.ensures c.behind_rules.ensures in
    subst (λ f. IfOk c.behind_rules.result (λ g. ShowsGoal dev f at (named_sequent o) g.text.items g.is_open)) (sym c.in-Some.is) shown

pub returns-in-None : goal.returns-in-None
returns-in-None c =
    let dev = flattened c.args.asked.dev.now in
    let at = c.args.asked.at in
    let o = c.args.asked.obligation.now in
    let own = subst (λ s. IfOk c.alone.result (λ g. ShowsAlone c.args.asked.table.now (o.name, s) g.text.items g.is_open)) c.in_ok-sequent.ensures c.alone.ensures in
    let shown = subst (λ t. IfOk c.alone.result (λ g. ShowsAlone t (named_sequent o) g.text.items g.is_open)) c.requires.table own in
    subst (λ f. IfOk c.alone.result (λ g. ShowsGoal dev f at (named_sequent o) g.text.items g.is_open)) (sym c.in-None.is) shown
