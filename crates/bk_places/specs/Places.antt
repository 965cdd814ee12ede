-- Lines and columns of a text, as editors count them: both from 1, a column being a character of UTF-8 (RFC 3629, section 3: all bytes of a
-- character but its first are 128 to 191).
use Rattle.std.specs.Prelude.{ℕ, zero, suc, ◌+◌, Bool, ◌||◌, nat_eq, nat_lt, cond, not, List, [], ◌∷◌, take, count_by, slice_index_or}
use Rattle.std.specs.Str.Lines.{lines}

-- how many lines end in a text
abbrev pub line_ends : List ℕ → ℕ
line_ends text = count_by (λ c. nat_eq c 10) text

-- whether a byte is the first of a character
abbrev pub begins_character : ℕ → Bool
begins_character c = nat_lt c 128 || not (nat_lt c 192)

-- how many characters there are
abbrev pub characters : List ℕ → ℕ
characters text = count_by begins_character text

-- what stands after the last line end, where this stands after the one before
abbrev pub last_line_from : List ℕ → List ℕ → List ℕ
last_line_from line [] = line
last_line_from line (c ∷ cs) = cond (nat_eq c 10) (last_line_from cs cs) (last_line_from line cs)

-- what stands after the last line end of a text
abbrev pub last_line : List ℕ → List ℕ
last_line text = last_line_from text text

-- the line of a byte
abbrev pub line_of : List ℕ → ℕ → ℕ
line_of text at = line_ends (take at text) + 1

-- its column: the characters before it in its line, and one
abbrev pub column_of : List ℕ → ℕ → ℕ
column_of text at = characters (last_line (take at text)) + 1

-- the n-th line, from 1, without its end
abbrev pub line_text : List ℕ → ℕ → List ℕ
line_text text zero = []
line_text text (suc n) = slice_index_or (lines text) n []
