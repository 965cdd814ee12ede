-- What a clue that the program found is seen as.
use Rattle.std.specs.Prelude.{ℕ, nat_eq, Bool, false, List, [], ◌∷◌, Option, Some, None}
use Rattle.bk_form.specs.Formula.{Formula, variable}
use Rattle.bk_form.specs.declared.arrays.ArrayRow.{ArrayRow}
use Rattle.bk_dev.specs.Development.{Development}
use Rattle.bk_dev.specs.Layout.{Clue, in_domain, equals, silent, row_by, typing_clue, reversed}
use Rattle.bk_dev.specs.declared.clues.Found.{Found}
use Rattle.bk_dev.specs.declared.clues.Found.TheVariants.{InDomain, Equals, Silent}

abbrev pub clue_seen : Found → Clue
clue_seen (InDomain d) = in_domain d
clue_seen Equals = equals
clue_seen Silent = silent

-- whether a formula is this variable
abbrev pub is_this : ℕ → Formula → Bool
is_this x (variable y) = nat_eq x y
is_this x f = false

-- the list of the one variable, if there is one
abbrev pub spoken_list : Option ℕ → List ℕ
spoken_list (Some x) = x ∷ []
spoken_list None = []

-- the array that a variable is, if it is one
abbrev pub found_row : Development → ℕ → Option ArrayRow
found_row dev x = row_by dev x (typing_clue (Some x) (reversed dev.levels []))
