-- Names that stand twice.
use Rattle.std.proofs.Common.{ℕ, List, [], ◌∷◌}
use Rattle.bk_raw.specs.declared.term.RawName.{RawName}

-- the texts of names, the last one in front of those that were there
abbrev pub texts_onto : List (List ℕ) → List RawName → List (List ℕ)
texts_onto before [] = before
texts_onto before (x ∷ xs) = texts_onto (x.text ∷ before) xs
