use Rattle.std.proofs.Common.{◌≡◌, drop}
use Rattle.bk_statics.specs.ClauseFaults.{declared_at}
use Rattle.bk_scope.specs.Shown.{variables_shown}
use Rattle.bk_scope.proofs.places.place_of.Given as goal

abbrev pub invariant-loop-written : goal.invariant-loop-written
invariant-loop-written l = declared_at (variables_shown (drop l.written-index l.component.variables.items)) l.variable.text.now ≡ declared_at (variables_shown l.component.variables.items) l.variable.text.now
