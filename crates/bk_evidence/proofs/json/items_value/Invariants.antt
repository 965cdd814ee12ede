use Rattle.std.proofs.Common.{◌≡◌, map, take}
use Rattle.std.specs.List.{flat_map}
use Rattle.serde_json.specs.View.{view}
use Rattle.bk_evidence.specs.Json.{asked_data}
use Rattle.bk_evidence.proofs.json.items_value.Given as goal

abbrev pub invariant-loop-item : goal.invariant-loop-item
invariant-loop-item l = map view l.list.items ≡ flat_map (asked_data l.is_open_only) (take l.item-index l.items)
