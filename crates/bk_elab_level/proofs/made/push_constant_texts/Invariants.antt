use Rattle.std.proofs.Common.{◌≡◌, ◌++◌, drop}
use Rattle.bk_statics.specs.Binders.{texts}
use Rattle.bk_scope.specs.Shown.{refs}
use Rattle.bk_elab_level.proofs.made.push_constant_texts.Given as goal

abbrev pub invariant-loop-constant : goal.invariant-loop-constant
invariant-loop-constant l = l.found.items ++ texts (refs (drop l.constant-index l.constants)) ≡ l.fn.found.items ++ texts (refs l.constants)
