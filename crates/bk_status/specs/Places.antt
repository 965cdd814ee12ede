-- Where the first script with a name stands. Only private contracts cite it.
use Rattle.std.specs.Prelude.{ℕ, suc, Bool, cond, List, [], ◌∷◌, Option, Some, None}
use Rattle.std.specs.Str.{bytes_eq}
use Rattle.bk_raw.specs.Trees.ScriptTree.{RawScript}
use Rattle.bk_status.specs.States.{name_text}

-- the place of the first script with the name, where the first of all has this place
abbrev pub place_from : ℕ → List RawScript → List ℕ → Option ℕ
place_from n [] name = None
place_from n (s ∷ scripts) name = cond (bytes_eq name (name_text s.name)) (Some n) (place_from (suc n) scripts name)

-- the place of the first script with a name
abbrev pub script_place : List RawScript → List ℕ → Option ℕ
script_place scripts name = place_from 0 scripts name

-- what is found already, or else this place, where it is the one
abbrev pub found_or : Option ℕ → Bool → ℕ → Option ℕ
found_or (Some n) is_one place = Some n
found_or None is_one place = cond is_one (Some place) None
