-- Texts that are put one after another, each as one piece.
use Rattle.std.specs.Prelude.{◌≡◌, ℕ, List, [], ◌∷◌, Option}
use Rattle.bk_io.specs.Pieces.{Piece, PutWhole}

-- each of these texts was put whole, as one piece, in order, and nothing else was put
abbrev pub PutsEach : List (List ℕ) → (old new : Option (List Piece)) → Type 0
PutsEach [] old new = new ≡ old
PutsEach (text ∷ texts) old new = (between : Option (List Piece)) × PutWhole text old between × PutsEach texts between new
