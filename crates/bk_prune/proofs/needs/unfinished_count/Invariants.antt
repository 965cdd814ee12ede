use Rattle.std.proofs.Common.{◌≡◌, ℕ, ◌<◌, get_or}
use Rattle.std.specs.Prelude.{All}
use Rattle.bk_raw.specs.Trees.ScriptTree.{RawScript}
use Rattle.bk_prune.specs.Pruned.{IsFinished}
use Rattle.bk_prune.proofs.needs.unfinished_count.Given as goal

abbrev pub invariant-loop-script : goal.invariant-loop-script
invariant-loop-script l = record {
  none : l.count ≡ 0 → (k : ℕ) (d : RawScript) → k < l.script-index → IsFinished l.proved.dev.now l.proved.list.now (get_or l.scripts k d);
  all : All (IsFinished l.proved.dev.now l.proved.list.now) l.scripts → l.count ≡ 0;
}
