-- What contracts see of the devices over the system.
use Rattle.std.specs.Prelude.{ℕ}
use Rattle.bk_io.specs.declared.edge.FileShelf.{FileShelf}
use Rattle.bk_io.specs.declared.edge.StdSink.{StdSink}

-- how many fetches of a shelf over the system's files failed
abbrev pub file_faults : {R : Type 0} → FileShelf R → ℕ
file_faults shelf = shelf.faults

-- how many found no file
abbrev pub file_absences : {R : Type 0} → FileShelf R → ℕ
file_absences shelf = shelf.absences

-- how many puts to standard output failed
abbrev pub std_faults : {P : Type 0} → StdSink P → ℕ
std_faults sink = sink.faults
