use Rattle.bk_prune.specs.Pruned.{ProvesWithout, NeedsEachRule}
use Rattle.bk_prune.proofs.Ready.{none_needed, needed_none}
use Rattle.bk_prune.proofs.needs.needs_each.Goals as goal

pub returns : goal.returns
returns c =
    let here = ProvesWithout c.args.proved.dev.now c.args.proved.list.now c.args.script.now in
    let needs = NeedsEachRule c.args.proved.dev.now c.args.proved.list.now c.args.script.now in
    record {
      right = none_needed needs c.in_ok-spare.spare c.is_none.result c.is_none.ensures c.in_ok-spare.ensures.none;
      whole = needed_none here c.in_ok-spare.spare c.is_none.result c.is_none.ensures c.in_ok-spare.ensures.some;
    }
