-- What contracts see of the devices in memory.
use Rattle.std.specs.Prelude.{ℕ, List}
use Rattle.bk_io.specs.Files.{Files, files_of}
use Rattle.bk_io.specs.Parts.{pieces_in}
use Rattle.bk_io.specs.Pieces.{Piece}
use Rattle.bk_io.specs.declared.mem_shelf.MemShelf.{MemShelf}
use Rattle.bk_io.specs.declared.mem_shelf.SureShelf.{SureShelf}
use Rattle.bk_io.specs.declared.mem_sink.MemSink.{MemSink}
use Rattle.bk_io.specs.declared.mem_sink.SureSink.{SureSink}

-- a memory shelf's files
abbrev pub shelf_files : MemShelf → Files
shelf_files shelf = files_of shelf.files.items

-- the numbers of its fetches that fail, from 1
abbrev pub shelf_failing : MemShelf → List ℕ
shelf_failing shelf = shelf.schedule.failing.items

-- how many fetches there were
abbrev pub shelf_calls : MemShelf → ℕ
shelf_calls shelf = shelf.schedule.calls

-- how many of them failed
abbrev pub shelf_faults : MemShelf → ℕ
shelf_faults shelf = shelf.schedule.faults

-- how many found no file
abbrev pub shelf_absences : MemShelf → ℕ
shelf_absences shelf = shelf.absences

-- a sure shelf's files
abbrev pub sure_files : SureShelf → Files
sure_files shelf = files_of shelf.files.items

-- how many of its fetches found no file
abbrev pub sure_absences : SureShelf → ℕ
sure_absences shelf = shelf.absences

-- what a memory sink has taken
abbrev pub sink_written : MemSink → List ℕ
sink_written sink = sink.store.bytes.items

-- in which pieces
abbrev pub sink_pieces : MemSink → List Piece
sink_pieces sink = pieces_in sink.store.parts.items sink.store.bytes.items

-- how many bytes it takes with no further memory
abbrev pub sink_room : MemSink → ℕ
sink_room sink = sink.store.room

-- how many bytes of a piece it takes
abbrev pub sink_step : MemSink → ℕ
sink_step sink = sink.step

-- the numbers of its puts that fail, from 1
abbrev pub sink_failing : MemSink → List ℕ
sink_failing sink = sink.schedule.failing.items

-- how many puts there were
abbrev pub sink_calls : MemSink → ℕ
sink_calls sink = sink.schedule.calls

-- how many of them failed
abbrev pub sink_faults : MemSink → ℕ
sink_faults sink = sink.schedule.faults

-- what a sure sink has taken
abbrev pub sure_written : SureSink → List ℕ
sure_written sink = sink.store.bytes.items

-- in which pieces
abbrev pub sure_pieces : SureSink → List Piece
sure_pieces sink = pieces_in sink.store.parts.items sink.store.bytes.items

-- how many bytes it takes with no further memory
abbrev pub sure_room : SureSink → ℕ
sure_room sink = sink.store.room
