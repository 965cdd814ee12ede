use Rattle.bk_prune.specs.Pruned.{IsWork}
use Rattle.bk_prune.proofs.Ready.{some_so}
use Rattle.bk_prune.proofs.file.planned.Goals as goal

pub steps-requires : goal.steps-requires
steps-requires c = (some_so (IsWork c.args.proved.dev.now c.args.proved.list.now c.args.script.now) c.in_ok-work.field-0 c.in-Some.work c.in-Some.is c.in_ok-work.ensures.some).replayable
