use Rattle.std.proofs.Common.{◌≡◌, ◌+◌, ◌-◌, ◌++◌, [], ◌∷◌}
use Rattle.bk_b0.specs.Places.{fill}
use Rattle.bk_gen.proofs.array.add_stores.Given as goal

abbrev pub invariant-loop-place : goal.invariant-loop-place
invariant-loop-place l = l.code.items ++ fill (l.value ∷ []) (l.first + l.place) (l.count - l.place) ≡ l.initial.code.items ++ fill (l.value ∷ []) l.first l.count
