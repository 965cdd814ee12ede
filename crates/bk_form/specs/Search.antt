-- A search over tests, by which the truth of a quantifier is a truth value.
use Rattle.std.specs.Prelude.{◌≡◌, Bool, true, false, List, Option, Some, None, is_none}
use Rattle.bk_val.specs.Value.{MathValue}

-- A finder answers each test on lists of values with a list of values or with none.
abbrev pub Finder : Type 0
Finder = (List MathValue → Bool) → Option (List MathValue)

-- What is found passes the test, and where nothing is found nothing passes.
-- Classical mathematics has such a search, and no program is one: what is said of quantifiers is said for each search.
pub record IsSearch (find : Finder) : Type 0 where
  pub found : (test : List MathValue → Bool) (vs : List MathValue) → find test ≡ Some vs → test vs ≡ true
  pub none : (test : List MathValue → Bool) → find test ≡ None → (vs : List MathValue) → test vs ≡ false

-- whether no list of values passes the test
abbrev pub no_choice : Finder → (List MathValue → Bool) → Bool
no_choice find test = is_none (find test)
