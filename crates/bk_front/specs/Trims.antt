-- Spaces at the ends of a text.
use Rattle.std.specs.Prelude.{ℕ, Bool, true, false, ◌&&◌, cond, nat_eq, List, [], ◌∷◌}

-- a text without the spaces in front of it
abbrev pub trim_front : List ℕ → List ℕ
trim_front [] = []
trim_front (c ∷ cs) = cond (nat_eq c 32) (trim_front cs) (c ∷ cs)

-- there is no character
abbrev pub is_empty : List ℕ → Bool
is_empty [] = true
is_empty (c ∷ cs) = false

-- a text without the spaces after it
abbrev pub trim_back : List ℕ → List ℕ
trim_back [] = []
trim_back (c ∷ cs) = cond (nat_eq c 32 && is_empty (trim_back cs)) [] (c ∷ trim_back cs)
