-- Call scripts: which texts ask for which calls of an image.
use Rattle.std.specs.Prelude.{◌≡◌, ◌≢◌, ℕ, zero, suc, ◌<◌, ◌≤◌, ℤ, pos, false, not, List, [], ◌∷◌, length}
use Rattle.std.specs.Prelude.{take, filter, position, All, slice_get, slice_index_or, Option, Some, None}
use Rattle.std.specs.List.{AllZip}
use Rattle.std.specs.Option.{option_map}
use Rattle.std.specs.Str.{bytes_eq}
use Rattle.std.specs.Str.Lines.{lines}
use Rattle.bk_limits.specs.declared.TheConstants.{MOST_CALLS}
use Rattle.bk_code.specs.declared.image.Image.{Image}
use Rattle.bk_code.specs.declared.image.OpEntry.{OpEntry}
use Rattle.bk_code.specs.declared.image.Parameter.{Parameter}
use Rattle.bk_code.specs.declared.image.CellKind.{CellKind}
use Rattle.bk_code.specs.declared.image.CellKind.TheVariants.{Integer, Bool, Set}
use Rattle.bk_code.specs.Numbers.{int_max, IsWithin, truth_number}
use Rattle.bk_code.specs.Session.{Request}
use Rattle.bk_lines.specs.Lines.{is_skipped, kept_lines}
use Rattle.bk_calls.specs.CallLine.{Argument, Number, Truth, Element, IsCallLine}
use Rattle.bk_calls.specs.declared.script.Call.{Call}

-- ---- what a line asks for
-- the number is that of the first of the image's operations with that name, and this is its entry
pub record IsFirstNamed (image : Image) (name : List ℕ) (op : ℕ) (entry : OpEntry) : Type 0 where
  pub stands : slice_get image.ops op ≡ Some entry
  pub named : entry.name ≡ name
  pub first : (earlier : ℕ) (other : OpEntry) → earlier < op → slice_get image.ops earlier ≡ Some other → other.name ≢ name

-- the number that an argument stands for as a value of some kind: an element's is its index, the first of its name in the
-- set; none where it is no value of that kind
abbrev pub value_of : Image → CellKind → Argument → Option ℤ
value_of image Integer (Number n) = Some n
value_of image Bool (Truth b) = Some (truth_number b)
value_of image (Set k) (Element name) = option_map pos (position (λ other. bytes_eq other name) (slice_index_or image.sets k []))
value_of image kind argument = None

-- arguments are as many as the inputs, each of the kind of its input, and these are the numbers that they stand for
abbrev pub AreValues : Image → List Parameter → List Argument → List ℤ → Type 0
AreValues image [] [] [] = Unit {0}
AreValues image (input ∷ inputs) (argument ∷ arguments) (n ∷ numbers) =
    (value_of image input.kind argument ≡ Some n) × AreValues image inputs arguments numbers
AreValues image inputs arguments numbers = ⊥

-- the line asks for this: a call of the operation that it names, with arguments within the range
pub record AsksFor (image : Image) (line : List ℕ) (request : Request) : Type 0 where
  pub name : List ℕ
  pub arguments : List Argument
  pub written : IsCallLine line name arguments
  pub entry : OpEntry
  pub meant : IsFirstNamed image name request.op entry
  pub values : AreValues image entry.inputs arguments request.args
  pub range : All (IsWithin (int_max image)) request.args

-- the text is a script of these requests: each line that is not skipped asks for one of them, in order
abbrev pub IsScript : Image → List ℕ → List Request → Type 0
IsScript image text requests = AllZip (AsksFor image) (kept_lines text) requests

-- the request that a call stands for
abbrev pub request_of : Call → Request
request_of call = record { op = call.op; args = call.args }

-- ---- faults
-- what can be wrong with a line
pub data Cause : Type 0 where
  NoCall : Cause
  UnknownName : Cause
  WrongArguments : Cause
  OutOfRange : Cause

-- the line is written as no call
abbrev pub IsNoCall : List ℕ → Type 0
IsNoCall line = (name : List ℕ) (arguments : List Argument) → IsCallLine line name arguments → ⊥

-- the line is a call of an operation that the image does not have
pub record NamesNone (image : Image) (line : List ℕ) : Type 0 where
  pub name : List ℕ
  pub arguments : List Argument
  pub written : IsCallLine line name arguments
  pub none : All (λ entry. entry.name ≢ name) image.ops

-- the line is a call of an operation with arguments that are too few or too many, or not of the kinds of its inputs
pub record HasWrongArguments (image : Image) (line : List ℕ) : Type 0 where
  pub name : List ℕ
  pub arguments : List Argument
  pub written : IsCallLine line name arguments
  pub op : ℕ
  pub entry : OpEntry
  pub meant : IsFirstNamed image name op entry
  pub wrong : (numbers : List ℤ) → AreValues image entry.inputs arguments numbers → ⊥

-- the line is a call of an operation with arguments of the right kinds, of which one stands for a number out of the range
pub record LeavesRange (image : Image) (line : List ℕ) : Type 0 where
  pub name : List ℕ
  pub arguments : List Argument
  pub written : IsCallLine line name arguments
  pub op : ℕ
  pub entry : OpEntry
  pub meant : IsFirstNamed image name op entry
  pub numbers : List ℤ
  pub values : AreValues image entry.inputs arguments numbers
  pub out : All (IsWithin (int_max image)) numbers → ⊥

-- that is wrong with the line
abbrev pub HasCause : Image → List ℕ → Cause → Type 0
HasCause image line NoCall = IsNoCall line
HasCause image line UnknownName = NamesNone image line
HasCause image line WrongArguments = HasWrongArguments image line
HasCause image line OutOfRange = LeavesRange image line

-- the line is not skipped, and that is wrong with it
pub record IsAtFault (image : Image) (line : List ℕ) (cause : Cause) : Type 0 where
  pub read : is_skipped line ≡ false
  pub wrong : HasCause image line cause

-- the line with that number of a text, the first line's being 1
abbrev pub line_at : List ℕ → ℕ → Option (List ℕ)
line_at text zero = None
line_at text (suc n) = slice_get (lines text) n

-- the number is that of the first line at fault, and that is its cause
pub record IsFirstFault (image : Image) (text : List ℕ) (number : ℕ) (cause : Cause) : Type 0 where
  pub line : List ℕ
  pub stands : line_at text number ≡ Some line
  pub fault : IsAtFault image line cause
  pub first : (earlier : ℕ) (other : List ℕ) (any : Cause) → earlier < number →
      line_at text earlier ≡ Some other → IsAtFault image other any → ⊥

-- ---- the limit of calls
-- the most calls that a script may ask for
abbrev pub most_calls : ℕ
most_calls = MOST_CALLS

-- those of some lines that are not skipped
abbrev pub counted : List (List ℕ) → List (List ℕ)
counted some_lines = filter (λ line. not (is_skipped line)) some_lines

-- the lines of a text that stand before the one with that number
abbrev pub lines_before : List ℕ → ℕ → List (List ℕ)
lines_before text zero = []
lines_before text (suc n) = take n (lines text)

-- how many calls these lines ask for where none of them is at fault: one for each that is not skipped
abbrev pub calls_before : List ℕ → ℕ → ℕ
calls_before text number = length (counted (lines_before text number))

-- the number is that of the first line at fault, that is its cause, and the lines before it ask for no more calls than a script may
pub record IsBadLine (image : Image) (text : List ℕ) (number : ℕ) (cause : Cause) : Type 0 where
  pub first : IsFirstFault image text number cause
  pub few : calls_before text number ≤ most_calls

-- some first lines of the text ask for more calls than a script may, and none of them is at fault
pub record PassesLimit (image : Image) (text : List ℕ) : Type 0 where
  pub count : ℕ
  pub requests : List Request
  pub asked : AllZip (AsksFor image) (counted (take count (lines text))) requests
  pub past : most_calls < length requests
