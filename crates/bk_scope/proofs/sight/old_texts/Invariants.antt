use Rattle.std.proofs.Common.{◌≡◌, ◌++◌, drop}
use Rattle.bk_statics.specs.Binders.{old_texts}
use Rattle.bk_scope.proofs.sight.old_texts.Given as goal

abbrev pub invariant-loop-name : goal.invariant-loop-name
invariant-loop-name l = l.found.items ++ old_texts (drop l.name-index l.names) ≡ old_texts l.names
