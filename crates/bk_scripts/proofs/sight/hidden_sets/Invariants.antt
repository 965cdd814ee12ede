use Rattle.std.proofs.Common.{◌≡◌, take}
use Rattle.bk_scripts.specs.Sight.{hiding, set_texts}
use Rattle.bk_scripts.proofs.sight.hidden_sets.Given as goal

abbrev pub invariant-loop-set : goal.invariant-loop-set
invariant-loop-set l = l.entries.items ≡ hiding (set_texts (take l.set-index l.sets))
