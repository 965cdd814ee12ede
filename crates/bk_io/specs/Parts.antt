-- Pieces that are kept as their bytes, one after another, and the part that each has in them.
use Rattle.std.specs.Prelude.{ℕ, ◌+◌, List, [], ◌∷◌, take, drop}
use Rattle.bk_io.specs.declared.part.Part.{Part}
use Rattle.bk_io.specs.Pieces.{Piece}

-- how many bytes the parts have together
abbrev pub total : List Part → ℕ
total [] = 0
total (part ∷ parts) = part.count + total parts

-- the pieces, in order
abbrev pub pieces_in : List Part → List ℕ → List Piece
pieces_in [] bytes = []
pieces_in (part ∷ parts) bytes =
    record { bytes = take part.count bytes; is_whole = part.is_whole } ∷ pieces_in parts (drop part.count bytes)
