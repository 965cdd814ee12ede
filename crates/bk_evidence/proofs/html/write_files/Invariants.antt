use Rattle.std.proofs.Common.{◌≡◌, ◌++◌, take}
use Rattle.std.specs.List.{flat_map}
use Rattle.bk_evidence.specs.Html.{input_part}
use Rattle.bk_evidence.proofs.html.write_files.Given as goal

abbrev pub invariant-loop-input : goal.invariant-loop-input
invariant-loop-input l = l.page.items ≡ l.fn.page.items ++ flat_map input_part (take l.input-index l.inputs)
