-- What a fault of reading a script tells.
use Rattle.std.specs.Prelude.{◌≡◌, ℕ, List, Result, Err}
use Rattle.std.specs.Str.Lines.{lines}
use Rattle.bk_code.specs.declared.image.Image.{Image}
use Rattle.bk_code.specs.Session.{Request}
use Rattle.bk_calls.specs.declared.script.CallsFault.{CallsFault}
use Rattle.bk_calls.specs.declared.script.CallsFault.TheVariants.{Line, NoOperation, Arguments, Number, Limit, Memory}
use Rattle.bk_calls.specs.Script.{Cause, NoCall, UnknownName, WrongArguments, OutOfRange}
use Rattle.bk_calls.specs.Reading.{AtFault, AtLimit, read_lines}

-- the fault that tells a line with that number and cause
abbrev pub fault_of : Cause → ℕ → CallsFault
fault_of NoCall number = Line number
fault_of UnknownName number = NoOperation number
fault_of WrongArguments number = Arguments number
fault_of OutOfRange number = Number number

-- reading the lines stops at the line that is told, or at the limit; want of memory tells nothing
abbrev pub IsFaultOf : Image → List ℕ → CallsFault → Type 0
IsFaultOf image text (Line number) = read_lines image 0 0 (lines text) ≡ Err (AtFault number NoCall)
IsFaultOf image text (NoOperation number) = read_lines image 0 0 (lines text) ≡ Err (AtFault number UnknownName)
IsFaultOf image text (Arguments number) = read_lines image 0 0 (lines text) ≡ Err (AtFault number WrongArguments)
IsFaultOf image text (Number number) = read_lines image 0 0 (lines text) ≡ Err (AtFault number OutOfRange)
IsFaultOf image text Limit = read_lines image 0 0 (lines text) ≡ Err AtLimit
IsFaultOf image text Memory = Unit {0}

-- the same of one line, with its number
abbrev pub IsFaultOfLine : Result Request Cause → ℕ → CallsFault → Type 0
IsFaultOfLine read number (Line n) = (n ≡ number) × (read ≡ Err NoCall)
IsFaultOfLine read number (NoOperation n) = (n ≡ number) × (read ≡ Err UnknownName)
IsFaultOfLine read number (Arguments n) = (n ≡ number) × (read ≡ Err WrongArguments)
IsFaultOfLine read number (Number n) = (n ≡ number) × (read ≡ Err OutOfRange)
IsFaultOfLine read number Limit = ⊥
IsFaultOfLine read number Memory = Unit {0}
