use Rattle.std.proofs.Common.{◌∙◌, ap, map, arith}
use Rattle.std.proofs.lemmas.List.{take_all}
use Rattle.bk_evidence.specs.Json.{input_data}
use Rattle.bk_evidence.proofs.Views.{view_list}
use Rattle.bk_evidence.proofs.json.inputs_value.Goals as goal

pub returns : goal.returns
returns c = view_list c.loop-input.list _ (c.loop-input.invariant ∙ ap (map input_data) (take_all c.loop-input.input-index c.args.inputs.now (omega arith)))
