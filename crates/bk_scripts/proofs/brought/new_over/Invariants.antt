use Rattle.std.proofs.Common.{◌≡◌, map, take}
use Rattle.bk_scripts.specs.Brought.{new_over}
use Rattle.bk_scripts.proofs.brought.new_over.Given as goal

abbrev pub invariant-loop-name : goal.invariant-loop-name
invariant-loop-name l = map (λ x. x.now) l.new.items ≡ new_over l.own (map (λ x. x.now) (take l.name-index l.names))
