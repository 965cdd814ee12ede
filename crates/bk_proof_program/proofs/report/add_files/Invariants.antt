use Rattle.std.proofs.Common.{◌≡◌, ◌++◌, map, take}
use Rattle.bk_evidence.specs.Items.{pair_of}
use Rattle.bk_proof_program.specs.Texts.{file_of}
use Rattle.bk_proof_program.proofs.report.add_files.Given as goal

abbrev pub invariant-loop-file : goal.invariant-loop-file
invariant-loop-file l = map pair_of l.files.items ≡ map pair_of l.fn.files.items ++ map file_of (take l.file-index l.texts)
