-- The numbers on a stack.
use Rattle.std.specs.Prelude.{ℕ, zero, suc, ℤ, pos, List, [], ◌∷◌, slice_index_or}

-- the numbers on a stack with its top first: those of a list up to a depth, the last of them on top
abbrev pub tops : ℕ → List ℤ → List ℤ
tops zero numbers = []
tops (suc depth) numbers = slice_index_or numbers depth (pos 0) ∷ tops depth numbers
