use Rattle.std.proofs.Common.{◌≡◌, ◌++◌, take}
use Rattle.bk_scripts.specs.Sight.{hiding}
use Rattle.bk_scripts.proofs.sight.hide.Given as goal

abbrev pub invariant-loop-text : goal.invariant-loop-text
invariant-loop-text l = l.entries.items ≡ l.fn.entries.items ++ hiding (take l.text-index l.texts)
