-- What a sink takes of a piece.
use Rattle.std.specs.Prelude.{◌≡◌, ℕ, ◌≤◌, ◌<◌, Bool, cond, nat_eq, List, [], ◌∷◌, ◌++◌, take, drop, length, Option}
use Rattle.std.specs.Option.{option_map}

-- a count of the piece's bytes, and at least one of them where it has any
pub record IsTaken (piece : List ℕ) (count : ℕ) : Type 0 where
  pub within : count ≤ length piece
  pub some : 0 < length piece → 0 < count

-- what is written once these bytes are, where it is told
abbrev pub written_with : Option (List ℕ) → List ℕ → Option (List ℕ)
written_with told bytes = option_map (λ old. old ++ bytes) told

-- some front of the text was written
pub record WroteFront (text : List ℕ) (old new : Option (List ℕ)) : Type 0 where
  pub count : ℕ
  pub within : count ≤ length text
  pub front : new ≡ written_with old (take count text)

-- ---- pieces
-- a piece as it was taken: its first bytes, and whether they are all of it
pub record Piece : Type 0 where
  pub bytes : List ℕ
  pub is_whole : Bool

-- what a sink that takes the first n bytes of a piece has got; no piece where it takes none
abbrev pub taken_of : List ℕ → ℕ → List Piece
taken_of piece n = cond (nat_eq n 0) [] (record { bytes = take n piece; is_whole = nat_eq n (length piece) } ∷ [])

-- the pieces with these after them, where they are told
abbrev pub pieces_with : Option (List Piece) → List Piece → Option (List Piece)
pieces_with told pieces = option_map (λ old. old ++ pieces) told

-- ---- a text that is put as one piece: each time all that is left of it, of which the sink takes so many bytes
-- what it has got
abbrev pub pieces_of : List ℕ → List ℕ → List Piece
pieces_of text [] = []
pieces_of text (n ∷ counts) = taken_of text n ++ pieces_of (drop n text) counts

-- what is left
abbrev pub left_of : List ℕ → List ℕ → List ℕ
left_of text [] = text
left_of text (n ∷ counts) = left_of (drop n text) counts

-- each count is one of what is left in its turn
abbrev pub AreTaken : List ℕ → List ℕ → Type 0
AreTaken text [] = Unit {0}
AreTaken text (n ∷ counts) = IsTaken text n × AreTaken (drop n text) counts

-- the whole text was put as one piece
pub record PutWhole (text : List ℕ) (old new : Option (List Piece)) : Type 0 where
  pub counts : List ℕ
  pub taken : AreTaken text counts
  pub nothing_left : left_of text counts ≡ []
  pub pieces : new ≡ pieces_with old (pieces_of text counts)

-- a front of the text was put so, and something is left
pub record PutFront (text : List ℕ) (old new : Option (List Piece)) : Type 0 where
  pub counts : List ℕ
  pub taken : AreTaken text counts
  pub some_left : 0 < length (left_of text counts)
  pub pieces : new ≡ pieces_with old (pieces_of text counts)
