use Rattle.std.proofs.Common.{◌≡◌, ◌++◌, drop}
use Rattle.bk_statics.specs.Binders.{texts}
use Rattle.bk_statics.specs.LevelOf.{at_level}
use Rattle.bk_elab_level.proofs.made.push_at_level.Given as goal

abbrev pub invariant-loop-name : goal.invariant-loop-name
invariant-loop-name l = l.found.items ++ at_level l.level (texts (drop l.name-index l.names)) ≡ l.fn.found.items ++ at_level l.level (texts l.names)
