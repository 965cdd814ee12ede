use Rattle.std.proofs.Common.{◌∙◌, ap, arith}
use Rattle.std.specs.List.{flat_map}
use Rattle.std.proofs.lemmas.List.{take_all}
use Rattle.bk_evidence.specs.Json.{asked_data}
use Rattle.bk_evidence.proofs.Views.{view_list}
use Rattle.bk_evidence.proofs.json.items_value.Goals as goal

pub returns : goal.returns
returns c = view_list c.loop-item.list _ (c.loop-item.invariant ∙ ap (flat_map (asked_data c.args.is_open_only)) (take_all c.loop-item.item-index c.args.items.now (omega arith)))
