-- What is told of a term was made of names that are in scope and have types.
use Rattle.std.specs.Prelude.{◌≡◌, ℤ, ℕ, true, false, List, []}
use Rattle.std.specs.Str.{bytes_eq}
use Rattle.bk_raw.specs.Trees.RawTree.{RawTree}
use Rattle.bk_raw.specs.Trees.FreeNames.{stands_free}
use Rattle.bk_raw.specs.Meaning.Names.{Names, Sight, seen, found}
use Rattle.bk_raw.specs.Meaning.Speaking.{IsTold}
use Rattle.bk_raw.specs.Meaning.TermReading.{reading}

-- it is found with a type
abbrev pub IsSeen : Sight → Type 0
IsSeen (seen f t) = Unit {0}
IsSeen _ = ⊥

-- where something is told of a term, each name that stands free in it is in scope and has a type: so a conjunct tells nothing of a bound
-- name while a name without a type stands in its right side. (Printed bound variables have the empty text for a name)
abbrev pub ToldNamesAreSeen : Type 0
ToldNamesAreSeen = (max : ℤ) (names : Names) (t : RawTree) → IsTold (reading max names t).outcome →
    (x : List ℕ) → bytes_eq [] x ≡ false → stands_free x t ≡ true → IsSeen (found 0 names x)
