use Rattle.std.proofs.Common.{subst}
use Rattle.std.specs.List.{AllZip}
use Rattle.bk_prune.specs.Pruned.{IsNoLonger, HaveSameRows}
use Rattle.bk_prune.proofs.Ready.{each_too}
use Rattle.bk_prune.proofs.states.have_states_of.Goals as goal

pub returns-then-are_short : goal.returns-then-are_short
returns-then-are_short c =
    let before = c.args.before.now in
    let after = c.args.after in
    let held = c.in_ok-are_short.ensures c.if-are_short.true in
    let first = subst (λ xs. AllZip IsNoLonger xs c.all-2.result.now) c.all.ensures held in
    let each = subst (λ xs. AllZip IsNoLonger before xs) c.all-2.ensures first in
    record {
      each = each_too (HaveSameRows c.args.dev.now before after) (AllZip IsNoLonger before after) c.have_same_rows.result c.have_same_rows.ensures each;
      same = c.have_same_rows.ensures;
    }
