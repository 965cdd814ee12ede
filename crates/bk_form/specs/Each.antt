-- Facts of every element of a list.
use Rattle.std.specs.Prelude.{List, [], ◌∷◌}

-- each element of the list is as P says
abbrev pub Each : {A : Type 0} → (A → Type 0) → List A → Type 0
Each P [] = Unit {0}
Each P (x ∷ xs) = P x × Each P xs
