use Rattle.std.proofs.Common.{subst}
use Rattle.bk_prune.specs.Pruned.{CountsLeft}
use Rattle.bk_prune.proofs.file.prune_file.Goals as goal

pub returns : goal.returns
returns c = record {
  kept = c.in_ok-pruned.ensures;
  counted = subst (λ t. CountsLeft c.args.dev.now c.args.list.now t c.in_ok-left.left) c.deref.ensures.value c.in_ok-left.ensures;
}
