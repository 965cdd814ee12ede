use Rattle.std.proofs.Common.{map}
use Rattle.bk_seq.specs.Sequents.{sequent_of}
use Rattle.bk_kernel.specs.Standing.{in_order}
use Rattle.bk_status.specs.Replayable.{IsReplayable}
use Rattle.bk_prune.proofs.Ready.{each_replayable, each_placed}
use Rattle.bk_prune.proofs.steps.replaced.Goals as goal

pub returns-in-Ok : goal.returns-in-Ok
returns-in-Ok c =
    let table = c.args.types.now in
    let news = map sequent_of c.in-Ok.news.items in
    let step = c.in-Ok.ensures.value in
    each_placed (IsReplayable table) news (in_order c.args.open.now.items) (in_order c.put_news.new.open.items) c.put_news.result c.put_news.ensures (each_replayable table news step.type step.within) c.requires.others
