-- What pieces tell of the bytes, as statements.
use Rattle.std.specs.Prelude.{◌≡◌, ◌<◌, ℕ, Bool, true, false, List, [], ◌∷◌, ◌++◌, length, All}
use Rattle.bk_io.specs.Pieces.{Piece, pieces_of, left_of}

-- the bytes of some pieces, one after another
abbrev pub bytes_in : List Piece → List ℕ
bytes_in [] = []
bytes_in (piece ∷ pieces) = piece.bytes ++ bytes_in pieces

-- the piece is a front alone
abbrev pub IsFront : Piece → Type 0
IsFront piece = piece.is_whole ≡ false

-- a text that was put as one piece
pub record PiecesTell : Type 0 where
  -- with what is left, its pieces have its bytes
  pub bytes : (text counts : List ℕ) → bytes_in (pieces_of text counts) ++ left_of text counts ≡ text
  -- where something is left, no piece is whole
  pub fronts : (text counts : List ℕ) → 0 < length (left_of text counts) → All IsFront (pieces_of text counts)
  -- taken at once it is one whole piece
  pub at_once : (byte : ℕ) (bytes : List ℕ) →
      pieces_of (byte ∷ bytes) (length (byte ∷ bytes) ∷ []) ≡ record { bytes = byte ∷ bytes; is_whole = true } ∷ []
