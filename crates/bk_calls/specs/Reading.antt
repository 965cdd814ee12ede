-- How a script is read, line by line and part by part. Only the contracts of private functions name what stands here.
use Rattle.std.specs.Prelude.{ℕ, ◌+◌, ◌^◌, ◌-◌, nat_lt, ℤ, pos, negsuc, neg_ℤ, Bool, true, false, not, ◌&&◌, ◌||◌, ◌==◌, List, [], ◌∷◌}
use Rattle.std.specs.Prelude.{◌++◌, codes, map, Option, Some, None, Result, Ok, Err, if◌then◌else◌, position, option_and_then, slice_get}
use Rattle.std.specs.Int.Signed.{mag}
use Rattle.std.specs.List.{slice_split, list_all}
use Rattle.std.specs.Option.{option_map}
use Rattle.std.specs.Str.{bytes_eq, is_utf8, chars}
use Rattle.bk_lex.specs.Lexis.{is_identifier, is_numeral, numeral_from, word_number}
use Rattle.bk_code.specs.declared.image.Image.{Image}
use Rattle.bk_code.specs.declared.image.OpEntry.{OpEntry}
use Rattle.bk_code.specs.declared.image.Parameter.{Parameter}
use Rattle.bk_code.specs.Numbers.{int_max, is_within}
use Rattle.bk_code.specs.Session.{Request}
use Rattle.bk_lines.specs.Lines.{is_skipped}
use Rattle.bk_calls.specs.CallLine.{Argument, Number, Truth, Element}
use Rattle.bk_calls.specs.Script.{Cause, NoCall, UnknownName, WrongArguments, OutOfRange, value_of, most_calls}

-- ---- words of a line
-- a text after the spaces that it starts with
abbrev pub skip_spaces : List ℕ → List ℕ
skip_spaces [] = []
skip_spaces (b ∷ bs) = if b == 32 then skip_spaces bs else b ∷ bs

-- a byte of a name or an argument: no space, parenthesis or comma
abbrev pub is_plain : ℕ → Bool
is_plain b = not (b == 32 || (b == 40 || (b == 41 || b == 44)))

-- the longest front of a text that is all of such bytes, and what stands after it
abbrev pub front : List ℕ → List ℕ
front [] = []
front (b ∷ bs) = if is_plain b then b ∷ front bs else []

-- what stands after that front
abbrev pub behind : List ℕ → List ℕ
behind [] = []
behind (b ∷ bs) = if is_plain b then behind bs else b ∷ bs

-- there is no byte
abbrev pub is_empty : List ℕ → Bool
is_empty [] = true
is_empty (b ∷ bs) = false

-- whether a text is only spaces
abbrev pub is_spaces : List ℕ → Bool
is_spaces text = is_empty (skip_spaces text)

-- what stands before the first such byte, or all where there is none, and what stands after it
abbrev pub before_byte : ℕ → List ℕ → List ℕ
before_byte c [] = []
before_byte c (b ∷ bs) = if b == c then [] else b ∷ before_byte c bs

-- what stands after the first such byte, if there is one
abbrev pub after_byte : ℕ → List ℕ → Option (List ℕ)
after_byte c [] = None
after_byte c (b ∷ bs) = if b == c then Some bs else after_byte c bs

-- ---- names
-- there is no number
abbrev pub is_none : Option ℕ → Bool
is_none None = true
is_none (Some n) = false

-- whether a text is a name
abbrev pub is_name : List ℕ → Bool
is_name text = is_utf8 text && (is_identifier (chars text) && is_none (word_number text))

-- ---- arguments
-- the number that a text of digits is
abbrev pub digits_number : List ℕ → Option ℤ
digits_number text = if is_numeral text then Some (pos (numeral_from 0 text)) else None

-- the number that a text of digits is, with or without a minus in front
abbrev pub whole_number : List ℕ → Option ℤ
whole_number [] = None
whole_number (b ∷ bs) = if b == 45 then option_map neg_ℤ (digits_number bs) else digits_number (b ∷ bs)

-- the truth value or the name that a text is
abbrev pub word_argument : List ℕ → Option Argument
word_argument text =
    if bytes_eq text (codes "TRUE") then Some (Truth true)
    else if bytes_eq text (codes "FALSE") then Some (Truth false)
    else if is_name text then Some (Element text)
    else None

-- the number as an argument, or else what the text was found to be otherwise
abbrev pub number_or : Option ℤ → Option Argument → Option Argument
number_or (Some n) other = Some (Number n)
number_or None other = other

-- the argument that a text is
abbrev pub argument_of : List ℕ → Option Argument
argument_of text = number_or (whole_number text) (word_argument text)

-- the same where spaces stand around it
abbrev pub argument_in : List ℕ → Option Argument
argument_in text = if is_spaces (behind (skip_spaces text)) then argument_of (front (skip_spaces text)) else None

-- something in front of a list, where there are both
abbrev pub in_front_of : {X : Type 0} → Option X → Option (List X) → Option (List X)
in_front_of (Some x) (Some xs) = Some (x ∷ xs)
in_front_of (Some x) None = None
in_front_of None others = None

-- the arguments that texts are, one each; none where one of the texts is no argument
abbrev pub arguments_in : List (List ℕ) → Option (List Argument)
arguments_in [] = Some []
arguments_in (text ∷ texts) = in_front_of (argument_in text) (arguments_in texts)

-- the byte is a comma
abbrev pub is_comma : ℕ → Bool
is_comma b = b == 44

-- the texts between commas; none where the whole is only spaces
abbrev pub pieces : List ℕ → List (List ℕ)
pieces inside = if is_spaces inside then [] else slice_split is_comma inside

-- the pieces of what is left
abbrev pub pieces_left : Option (List ℕ) → List (List ℕ)
pieces_left None = []
pieces_left (Some text) = slice_split is_comma text

-- ---- numbers of 64 bits
-- the least number of 64 bits, which lies in no range whose greatest number has 64 bits
abbrev pub least : ℤ
least = negsuc (2 ^ 63 - 1)

-- a number of 64 bits, and that least one for each other number
abbrev pub kept : ℤ → ℤ
kept n = if nat_lt (mag n) (2 ^ 63) then n else least

-- an argument with its number so
abbrev pub kept_argument : Argument → Argument
kept_argument (Number n) = Number (kept n)
kept_argument (Truth b) = Truth b
kept_argument (Element name) = Element name

-- the arguments that stand in parentheses, as they are kept, where each piece is one
abbrev pub kept_arguments : List ℕ → Option (List Argument)
kept_arguments inside = option_map (map kept_argument) (arguments_in (pieces inside))

-- ---- calls
-- whether there is a closing parenthesis with only spaces after it, by what stands after the first one
abbrev pub closing : Option (List ℕ) → Bool
closing None = false
closing (Some rest) = is_spaces rest

-- what stands between the opening and the first closing parenthesis, or nothing where the line ends without them
abbrev pub inside_of : List ℕ → Option (List ℕ)
inside_of [] = Some []
inside_of (b ∷ bs) = if (b == 40) && closing (after_byte 41 bs) then Some (before_byte 41 bs) else None

-- a name, and what stands in the parentheses after it
abbrev pub named_with : List ℕ → Option (List ℕ) → Option (List ℕ × List ℕ)
named_with name (Some inside) = if is_name name then Some (name, inside) else None
named_with name None = None

-- the name with which a line begins, and what stands in its parentheses
abbrev pub call_parts : List ℕ → Option (List ℕ × List ℕ)
call_parts line = named_with (front (skip_spaces line)) (inside_of (skip_spaces (behind (skip_spaces line))))

-- the name that a line calls, and its arguments
abbrev pub with_arguments : List ℕ × List ℕ → Option (List ℕ × List Argument)
with_arguments parts = option_map (λ arguments. (parts.0, arguments)) (arguments_in (pieces (parts.1)))

-- the name of the operation that a line calls, and the arguments it gives
abbrev pub call_of : List ℕ → Option (List ℕ × List Argument)
call_of line = option_and_then with_arguments (call_parts line)

-- ---- requests
-- the number of the first operation with a name
abbrev pub named_op : Image → List ℕ → Option ℕ
named_op image name = position (λ entry. bytes_eq entry.name name) image.ops

-- the inputs of an operation, and none where there is no such operation
abbrev pub inputs_of : Option OpEntry → List Parameter
inputs_of None = []
inputs_of (Some entry) = entry.inputs

-- the numbers that arguments stand for
abbrev pub values_of : Image → List Parameter → List Argument → Option (List ℤ)
values_of image [] [] = Some []
values_of image [] (argument ∷ arguments) = None
values_of image (input ∷ inputs) [] = None
values_of image (input ∷ inputs) (argument ∷ arguments) =
    in_front_of (value_of image input.kind argument) (values_of image inputs arguments)

-- a request with these numbers, where each lies in MININT .. MAXINT
abbrev pub ranged : Image → ℕ → List ℤ → Result Request Cause
ranged image op numbers = if list_all (is_within (int_max image)) numbers then Ok (record { op = op; args = numbers }) else Err OutOfRange

-- the request, where each argument is a value of its input and there are as many
abbrev pub from_values : Image → ℕ → Option (List ℤ) → Result Request Cause
from_values image op (Some numbers) = ranged image op numbers
from_values image op None = Err WrongArguments

-- the request, where an operation has that name
abbrev pub from_op : Image → List Argument → Option ℕ → Result Request Cause
from_op image arguments (Some op) = from_values image op (values_of image (inputs_of (slice_get image.ops op)) arguments)
from_op image arguments None = Err UnknownName

-- the request, where the line is written as a call
abbrev pub from_call : Image → Option (List ℕ × List Argument) → Result Request Cause
from_call image (Some call) = from_op image call.1 (named_op image call.0)
from_call image None = Err NoCall

-- the request that a line asks for, or what is wrong with it
abbrev pub read_line : Image → List ℕ → Result Request Cause
read_line image line = from_call image (call_of line)

-- ---- lines
-- where reading stops: at the line with that number, which is at fault, or at a call past the limit
pub data Stop : Type 0 where
  AtFault : (number : ℕ) (cause : Cause) → Stop
  AtLimit : Stop

-- requests in front of those that are read of the other lines
abbrev pub in_front : List Request → Result (List Request) Stop → Result (List Request) Stop
in_front requests (Ok others) = Ok (requests ++ others)
in_front requests (Err stop) = Err stop

-- what is read from a line with that number on, after so many calls: its request before the others
abbrev pub from_line : Result Request Cause → ℕ → ℕ → Result (List Request) Stop → Result (List Request) Stop
from_line (Ok request) number asked rest = if asked == most_calls then Err AtLimit else in_front (request ∷ []) rest
from_line (Err cause) number asked rest = Err (AtFault number cause)

-- the requests of lines, so many lines and calls standing before them, or where reading stops
abbrev pub read_lines : Image → ℕ → ℕ → List (List ℕ) → Result (List Request) Stop
read_lines image before asked [] = Ok []
read_lines image before asked (line ∷ rest) =
    if is_skipped line then read_lines image (before + 1) asked rest
    else from_line (read_line image line) (before + 1) asked (read_lines image (before + 1) (asked + 1) rest)
