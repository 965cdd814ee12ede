use Rattle.std.proofs.Common.{◌≡◌, ◌++◌, drop}
use Rattle.bk_statics.specs.Binders.{texts}
use Rattle.bk_scope.proofs.binders.push_texts.Given as goal

abbrev pub invariant-loop-name : goal.invariant-loop-name
invariant-loop-name l = l.found.items ++ texts (drop l.name-index l.names) ≡ l.fn.found.items ++ texts l.names
