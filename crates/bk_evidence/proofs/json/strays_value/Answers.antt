use Rattle.std.proofs.Common.{◌∙◌, ap, map, arith}
use Rattle.std.proofs.lemmas.List.{take_all}
use Rattle.bk_evidence.specs.Json.{stray_data}
use Rattle.bk_evidence.proofs.Views.{view_list}
use Rattle.bk_evidence.proofs.json.strays_value.Goals as goal

pub returns : goal.returns
returns c = view_list c.loop-stray.list _ (c.loop-stray.invariant ∙ ap (map stray_data) (take_all c.loop-stray.stray-index c.args.strays.now (omega arith)))
