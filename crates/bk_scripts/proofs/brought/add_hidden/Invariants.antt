use Rattle.std.proofs.Common.{◌≡◌, ◌++◌, take, map}
use Rattle.bk_scripts.specs.Brought.{hidden}
use Rattle.bk_scripts.proofs.brought.add_hidden.Given as goal

abbrev pub invariant-loop-name : goal.invariant-loop-name
invariant-loop-name l = l.scope ≡ record { max = l.fn.scope.max; names = l.fn.scope.names ++ hidden (map (λ x. x.now) (take l.name-index l.names)) }
