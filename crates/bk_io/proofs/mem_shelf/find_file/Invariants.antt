use Rattle.std.proofs.Common.{◌≡◌, drop}
use Rattle.bk_io.specs.Files.{files_of, file_named}
use Rattle.bk_io.proofs.mem_shelf.find_file.Given as goal

-- the file is none of those before
abbrev pub invariant-loop-file : goal.invariant-loop-file
invariant-loop-file l = file_named (files_of (drop l.file-index l.files)) l.name ≡ file_named (files_of l.files) l.name
