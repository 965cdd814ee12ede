use Rattle.std.proofs.Common.{◌≡◌, map, take}
use Rattle.std.specs.List.{flat_map}
use Rattle.bk_p_proof.specs.TypedNames.{rule_names}
use Rattle.bk_p_proof.proofs.second.typed_names.Given as goal

abbrev pub invariant-loop-rule : goal.invariant-loop-rule
invariant-loop-rule l = map (λ x. x.now) l.all.items ≡ flat_map rule_names (take l.rule-index l.rule-items)
