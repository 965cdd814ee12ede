-- Whether conjuncts define names, as it is tested.
use Rattle.std.specs.Prelude.{ℕ, Bool, true, false, not, ◌&&◌, ◌||◌, List, [], ◌∷◌, Option, None, Some}
use Rattle.std.specs.Str.{bytes_eq}
use Rattle.bk_raw.specs.Trees.FreeNames.{is_among}
use Rattle.bk_raw.specs.declared.term.RawName.{RawName}
use Rattle.bk_p_expr.specs.declared.free.Conjunct.{Conjunct}

-- whether one of the names is one of these
abbrev pub has_one_of : List RawName → List (List ℕ) → Bool
has_one_of all [] = false
has_one_of all (y ∷ ys) = is_among y all || has_one_of all ys

-- whether it is this name
abbrev pub is_named : List ℕ → Option (List ℕ) → Bool
is_named x None = false
is_named x (Some y) = bytes_eq y x

-- whether these conjuncts define these names, one each and in order, with none of all the names free in what they are
abbrev pub define_each : List RawName → List RawName → List Conjunct → Bool
define_each all [] [] = true
define_each all (x ∷ xs) (c ∷ cs) = is_named x.text c.name && not (has_one_of all c.free.items) && define_each all xs cs
define_each all _ _ = false
