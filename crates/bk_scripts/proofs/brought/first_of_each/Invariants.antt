use Rattle.std.proofs.Common.{◌≡◌, map, take, []}
use Rattle.bk_scripts.specs.Brought.{first_of_each}
use Rattle.bk_scripts.proofs.brought.first_of_each.Given as goal

abbrev pub invariant-loop-name : goal.invariant-loop-name
invariant-loop-name l = record {
  firsts : map (λ x. x.now) l.first.items ≡ first_of_each [] (map (λ x. x.now) (take l.name-index l.names));
  texts : map (λ k. k.items) l.texts.keys ≡ map (λ y. y.name.text) (map (λ x. x.now) l.first.items);
}
