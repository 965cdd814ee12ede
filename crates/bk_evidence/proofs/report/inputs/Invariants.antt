use Rattle.std.proofs.Common.{◌≡◌, map, take}
use Rattle.bk_evidence.specs.Items.{parts_of, parts_of_file}
use Rattle.bk_evidence.proofs.report.inputs.Given as goal

abbrev pub invariant-loop-file : goal.invariant-loop-file
invariant-loop-file l = map parts_of l.all.items ≡ map parts_of_file (take l.file-index l.files)
