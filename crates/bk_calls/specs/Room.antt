-- A line in memory that was reserved for it, and the longest line of an image.
use Rattle.std.specs.Prelude.{ℕ, ◌+◌, ◌≤◌, List, [], ◌∷◌, ◌++◌, length, map, codes, slice_index_or, nat_le, if◌then◌else◌}
use Rattle.bk_code.specs.declared.image.Image.{Image}
use Rattle.bk_code.specs.declared.image.OpEntry.{OpEntry}
use Rattle.bk_code.specs.declared.image.Parameter.{Parameter}
use Rattle.bk_code.specs.declared.image.CellKind.{CellKind}
use Rattle.bk_code.specs.declared.image.CellKind.TheVariants.{Integer, Bool, Set}
use Rattle.bk_calls.specs.Transcript.{given_text}

-- a line: its present bytes, and how many bytes it has memory for
pub record Line : Type 0 where
  pub bytes : List ℕ
  pub room : ℕ

-- the line has memory for that text after its present bytes
abbrev pub HasRoom : Line → List ℕ → Type 0
HasRoom line text = length line.bytes + length text ≤ line.room

-- ---- the longest line
-- the longest of some texts
unfoldable pub longest_of : List (List ℕ) → List ℕ
longest_of [] = []
longest_of (text ∷ rest) = if nat_le (length (longest_of rest)) (length text) then text else longest_of rest

-- the longest text of a number of 64 bits, with its sign
abbrev pub longest_number : List ℕ
longest_number = codes "-9223372036854775808"

-- the longest text of a number of 64 bits in a cell of some kind: one that is no truth value and no element's index stays a number
abbrev pub longest_value : Image → CellKind → List ℕ
longest_value image Integer = longest_number
longest_value image Bool = longest_number
longest_value image (Set k) = longest_of (longest_number ∷ slice_index_or image.sets k [])

-- the longest text of outputs
abbrev pub longest_given : Image → List Parameter → List ℕ
longest_given image outputs = given_text (map (λ output. longest_value image output.kind) outputs)

-- the longest line of a call of an operation that is done
abbrev pub longest_done : Image → OpEntry → List ℕ
longest_done image entry = entry.name ++ longest_given image entry.outputs ++ codes "\n"

-- the longest text after the name of what was called where it is not done, the place being a number of 32 bits
abbrev pub longest_stop : List ℕ
longest_stop = codes " trapped Overflow at 4294967295\n"

-- the longest last line of a session, the calls being a number of 32 bits and the steps one of 64 bits
abbrev pub longest_closing : List ℕ
longest_closing = codes "end 4294967295 calls, 18446744073709551615 steps\n"

-- the longest line of a call of an operation
abbrev pub longest_reply : Image → OpEntry → List ℕ
longest_reply image entry = longest_of (longest_done image entry ∷ (entry.name ++ longest_stop) ∷ [])

-- the longest line of a session of the image: the last line, or the reply to the initialisation or to a call of an operation
unfoldable pub longest_line : Image → List ℕ
longest_line image = longest_of (longest_closing ∷ (codes "initialisation" ++ longest_stop) ∷ map (longest_reply image) image.ops)

-- the line was made for the image: it has memory for the longest line of the image
abbrev pub IsMadeFor : Image → Line → Type 0
IsMadeFor image line = length (longest_line image) ≤ line.room
