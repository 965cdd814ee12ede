use Rattle.std.proofs.Common.{◌≡◌, map, take}
use Rattle.serde_json.specs.View.{view}
use Rattle.bk_evidence.specs.Json.{input_data}
use Rattle.bk_evidence.proofs.json.inputs_value.Given as goal

abbrev pub invariant-loop-input : goal.invariant-loop-input
invariant-loop-input l = map view l.list.items ≡ map input_data (take l.input-index l.inputs)
