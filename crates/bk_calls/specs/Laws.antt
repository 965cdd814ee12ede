-- What holds of scripts and of the longest line of an image.
use Rattle.std.specs.Prelude.{◌≡◌, ◌↔◌, ◌⊎◌, false, ℕ, ◌^◌, ◌<◌, ◌≤◌, ℤ, List, length, All, Option, Some, FitsSigned}
use Rattle.std.specs.Int.{w64}
use Rattle.bk_code.specs.declared.image.Image.{Image}
use Rattle.bk_code.specs.Run.{End, Done, Trapped, OutOfFuel}
use Rattle.bk_code.specs.Session.{Request}
use Rattle.bk_calls.specs.Transcript.{AreOutputs, reply_text, closing_text}
use Rattle.bk_calls.specs.Room.{longest_line}
use Rattle.std.specs.Str.{IsUtf8}
use Rattle.bk_lines.specs.Lines.{is_skipped}
use Rattle.bk_calls.specs.CallLine.{Argument, IsCallLine}
use Rattle.bk_calls.specs.Script.{AsksFor, IsScript, Cause, IsAtFault, IsBadLine, PassesLimit, line_at, most_calls}

-- a text is a script of one list of requests at most
abbrev pub HasOneScript : Type 0
HasOneScript =
    (image : Image) (text : List ℕ) (requests others : List Request) → IsScript image text requests →
    IsScript image text others → requests ≡ others

-- a line that is a call is a text in UTF-8; so every other line of bytes is no call
abbrev pub CallsAreUtf8 : Type 0
CallsAreUtf8 = (line name : List ℕ) (arguments : List Argument) → IsCallLine line name arguments → IsUtf8 line

-- a line that is not skipped asks for a request or is at fault
abbrev pub AsksOrIsAtFault : Type 0
AsksOrIsAtFault =
    (image : Image) (line : List ℕ) → is_skipped line ≡ false →
    ((request : Request) × AsksFor image line request) ⊎ ((cause : Cause) × IsAtFault image line cause)

-- and not both, nor for two requests, nor with two causes
pub record IsReadOneWay : Type 0 where
  pub asks_or_fault : (image : Image) (line : List ℕ) (request : Request) (cause : Cause) →
      AsksFor image line request → IsAtFault image line cause → ⊥
  pub one_request : (image : Image) (line : List ℕ) (request other : Request) →
      AsksFor image line request → AsksFor image line other → request ≡ other
  pub one_cause : (image : Image) (line : List ℕ) (cause other : Cause) →
      IsAtFault image line cause → IsAtFault image line other → cause ≡ other

-- a text is a script exactly where none of its lines is at fault
abbrev pub IsScriptWithoutFault : Type 0
IsScriptWithoutFault =
    (image : Image) (text : List ℕ) →
    ((requests : List Request) × IsScript image text requests) ↔
    ((number : ℕ) (line : List ℕ) (cause : Cause) → line_at text number ≡ Some line → IsAtFault image line cause → ⊥)

-- a text is a script of no more calls than the limit, or has a bad line, or passes the limit
abbrev pub IsOneOfThree : Type 0
IsOneOfThree =
    (image : Image) (text : List ℕ) →
    ((requests : List Request) × IsScript image text requests × (length requests ≤ most_calls)) ⊎
    (((number : ℕ) × (cause : Cause) × IsBadLine image text number cause) ⊎ PassesLimit image text)

-- and no two of these, nor two bad lines or causes
pub record AreApart : Type 0 where
  pub script_or_line : (image : Image) (text : List ℕ) (requests : List Request) (number : ℕ) (cause : Cause) →
      IsScript image text requests → IsBadLine image text number cause → ⊥
  pub script_or_limit : (image : Image) (text : List ℕ) (requests : List Request) →
      IsScript image text requests → length requests ≤ most_calls → PassesLimit image text → ⊥
  pub line_or_limit : (image : Image) (text : List ℕ) (number : ℕ) (cause : Cause) →
      IsBadLine image text number cause → PassesLimit image text → ⊥
  pub one_line : (image : Image) (text : List ℕ) (number other : ℕ) (cause reason : Cause) →
      IsBadLine image text number cause → IsBadLine image text other reason → (number ≡ other) × (cause ≡ reason)

-- ---- the longest line of an image
-- the place of a trap is a number of 32 bits
abbrev pub IsPlaced : End → Type 0
IsPlaced (Done steps) = Unit {0}
IsPlaced (Trapped kind place steps) = place < 2 ^ 32
IsPlaced OutOfFuel = Unit {0}

-- the line is the reply to the initialisation or to a call of an operation of the image, with outputs of 64 bits
pub record IsReplyOf (image : Image) (line : List ℕ) : Type 0 where
  pub op : Option ℕ
  pub end : End
  pub outputs : List ℤ
  pub called : AreOutputs image op outputs
  pub placed : IsPlaced end
  pub words : All (FitsSigned w64) outputs
  pub left : line ≡ reply_text image op end outputs

-- the line is a last line, with a number of calls of 32 bits and one of steps of 64 bits
pub record IsClosing (line : List ℕ) : Type 0 where
  pub calls : ℕ
  pub steps : ℕ
  pub few_calls : calls < 2 ^ 32
  pub few_steps : steps < 2 ^ 64
  pub left : line ≡ closing_text calls steps

-- a line that a session of the image can leave
abbrev pub IsLineOf : Image → List ℕ → Type 0
IsLineOf image line = IsReplyOf image line ⊎ IsClosing line

-- no line is longer than the longest line
abbrev pub NoLineIsLonger : Type 0
NoLineIsLonger = (image : Image) (line : List ℕ) → IsLineOf image line → length line ≤ length (longest_line image)

-- the longest line is one of the lines, where no set has more elements than numbers of 64 bits tell apart
abbrev pub LongestIsLine : Type 0
LongestIsLine = (image : Image) → All (λ names. length names < 2 ^ 63) image.sets → IsLineOf image (longest_line image)
