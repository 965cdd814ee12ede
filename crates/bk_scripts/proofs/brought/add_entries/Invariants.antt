use Rattle.std.proofs.Common.{◌≡◌, ◌++◌, take}
use Rattle.bk_scripts.proofs.brought.add_entries.Given as goal

abbrev pub invariant-loop-entry : goal.invariant-loop-entry
invariant-loop-entry l = l.scope ≡ record { max = l.fn.scope.max; names = l.fn.scope.names ++ take l.entry-index l.entries }
