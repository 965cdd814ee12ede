use Rattle.std.proofs.Common.{◌≡◌, map, take}
use Rattle.std.specs.List.{flat_map}
use Rattle.bk_raw.specs.Codes.ScriptView.{part_of}
use Rattle.bk_p_proof.specs.TypedNames.{part_names}
use Rattle.bk_p_proof.proofs.second.rule_names.Given as goal

abbrev pub invariant-loop-part : goal.invariant-loop-part
invariant-loop-part l = map (λ x. x.now) l.all.items ≡ flat_map part_names (map part_of (take l.part-index l.parts))
