-- Lists of numbers: whether they differ, and the greatest.
use Rattle.std.specs.Prelude.{◌≢◌, ℕ, max, List, [], ◌∷◌, All}

-- each number differs from each later one
abbrev pub Differ : List ℕ → Type 0
Differ [] = Unit {0}
Differ (n ∷ ns) = All (λ m. n ≢ m) ns × Differ ns

-- the greatest of these numbers, or 0
abbrev pub greatest : List ℕ → ℕ
greatest [] = 0
greatest (n ∷ ns) = max n (greatest ns)
