-- Which stops the parts of the program may answer, and the causes of faults outside it.
use Rattle.std.specs.Prelude.{◌≡◌, ℕ, ◌≤◌, List, Result, Err}
use Rattle.bk_io.specs.Counts.{Rose}
use Rattle.bk_io.specs.declared.sink.SinkFault.{SinkFault}
use Rattle.bk_io.specs.declared.sink.SinkFault.TheVariants.{Failed, Memory as NoRoom}
use Rattle.bk_cli.specs.declared.words.WordsFault.{WordsFault}
use Rattle.bk_cli.specs.declared.words.WordsFault.TheVariants.{Refused as WordsRefused, Memory as NoRoomForWords}
use Rattle.bk_verbs.specs.declared.stop.Stop.{Stop}
use Rattle.bk_verbs.specs.declared.stop.Stop.TheVariants.{Usage, Missing, Refused, Limit, Unproved, Incomplete}
use Rattle.bk_verbs.specs.declared.stop.Stop.TheVariants.{BadCalls, BadImage, WriteFault, Memory}

-- what a fault of the sink stops the program with
abbrev pub stop_of_sink : SinkFault → Stop
stop_of_sink Failed = WriteFault
stop_of_sink NoRoom = Memory

-- what refused words, or want of memory to read them, stop the program with
abbrev pub stop_of_words : WordsFault → Stop
stop_of_words WordsRefused = Usage
stop_of_words NoRoomForWords = Memory

-- what reading files and checking what they hold may stop with: neither wrong words nor a fault of the sink
abbrev pub IsOfReading : Stop → Type 0
IsOfReading Usage = ⊥
IsOfReading WriteFault = ⊥
IsOfReading _ = Unit {0}

-- what checks of texts already read may stop with: no device has a part in it
abbrev pub IsOfChecks : Stop → Type 0
IsOfChecks (Refused fault at name) = Unit {0}
IsOfChecks (Limit limit name) = Unit {0}
IsOfChecks (Unproved name) = Unit {0}
IsOfChecks (Incomplete name) = Unit {0}
IsOfChecks (BadCalls line) = Unit {0}
IsOfChecks (BadImage fault) = Unit {0}
IsOfChecks Memory = Unit {0}
IsOfChecks _ = ⊥

-- what writing may stop with: a fault of the sink, or want of memory
abbrev pub IsOfPlaying : Stop → Type 0
IsOfPlaying WriteFault = Unit {0}
IsOfPlaying Memory = Unit {0}
IsOfPlaying _ = ⊥

-- the count of missing files never falls, and rose in a call that stops at one
pub record CountsAbsence {T : Type 0} (before now : ℕ) (result : Result T Stop) : Type 0 where
  pub later : before ≤ now
  pub rose : (name : List ℕ) → result ≡ Err (Missing name) → Rose before now
