use Rattle.std.proofs.Common.{◌≡◌, map, take}
use Rattle.bk_origins.specs.Concerns.{concern_of}
use Rattle.bk_origins.proofs.origin.origins.Given as goal

abbrev pub invariant-loop-index : goal.invariant-loop-index
invariant-loop-index l =
    (map (λ o. o.name) l.all.items ≡ map (λ o. o.name) (take l.index l.list)) ×
    (map (λ o. o.concern) l.all.items ≡ map (λ o. concern_of o.name) (take l.index l.list))
