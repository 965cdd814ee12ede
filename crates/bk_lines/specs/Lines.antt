-- Lines of project files and call scripts: which of them count. The lines of a text are those of `str::lines` in Rust's
-- library: each ends with a line feed, which the last may lack, and a carriage return before it is no part of the line.
use Rattle.std.specs.Prelude.{ℕ, Bool, true, not, nat_eq, List, [], ◌∷◌, filter}
use Rattle.std.specs.Str.Lines.{lines}

-- an empty line, or one that starts with #
abbrev pub is_skipped : List ℕ → Bool
is_skipped [] = true
is_skipped (c ∷ cs) = nat_eq c 35

-- the lines of a text that count
abbrev pub kept_lines : List ℕ → List (List ℕ)
kept_lines text = filter (λ line. not (is_skipped line)) (lines text)
