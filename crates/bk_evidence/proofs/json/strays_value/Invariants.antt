use Rattle.std.proofs.Common.{◌≡◌, map, take}
use Rattle.serde_json.specs.View.{view}
use Rattle.bk_evidence.specs.Json.{stray_data}
use Rattle.bk_evidence.proofs.json.strays_value.Given as goal

abbrev pub invariant-loop-stray : goal.invariant-loop-stray
invariant-loop-stray l = map view l.list.items ≡ map stray_data (take l.stray-index l.strays)
