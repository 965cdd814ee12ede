use Rattle.std.proofs.Common.{◌↔◌, length}
use Rattle.bk_io.specs.Files.{files_of, HasDistinctNames}
use Rattle.bk_io.proofs.mem_shelf.have_distinct_names.Given as goal

-- the files so far make no difference
abbrev pub invariant-loop-file : goal.invariant-loop-file
invariant-loop-file l = HasDistinctNames (files_of l.rest) ↔ HasDistinctNames (files_of l.files)

abbrev pub decreases-loop-file : goal.decreases-loop-file
decreases-loop-file l = length l.rest
