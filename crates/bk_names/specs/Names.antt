-- Names are texts in the order in which they came, each a list of bytes. A name's number is its place.
use Rattle.std.specs.Prelude.{ℕ, List, [], ◌∷◌, ◌++◌, Option, if◌then◌else◌, position}
use Rattle.std.specs.List.{list_any}
use Rattle.std.specs.Str.{bytes_eq}

-- the place of a text among the names, from 0 on
abbrev pub place_among : List (List ℕ) → List ℕ → Option ℕ
place_among names text = position (bytes_eq text) names

-- the names once a text has its number: a name that is there keeps its place, and a new one goes last
abbrev pub with_name : List (List ℕ) → List ℕ → List (List ℕ)
with_name names text = if list_any (bytes_eq text) names then names else names ++ text ∷ []
