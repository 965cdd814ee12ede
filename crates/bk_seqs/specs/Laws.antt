-- That the laws of sequences are true, as statements. What it is for one instance to be true is said once for all laws (bk_laws, Laws).
use Rattle.std.specs.Prelude.{◌≡◌, ℕ, List, [], ◌∷◌, Some}
use Rattle.bk_form.specs.Formula.{Formula}
use Rattle.bk_laws.specs.Rows.{Instance}
use Rattle.bk_laws.specs.Laws.{IsTrueLaw}
use Rattle.bk_seqs.specs.Rows.{Row, instance_at}

-- the row is true whatever is picked
abbrev pub IsTrueRow : Row → Type 0
IsTrueRow row = (picks : ℕ → Formula) → IsTrueLaw (row.at picks)

-- each row is
abbrev pub AreTrueRows : List Row → Type 0
AreTrueRows [] = Unit {0}
AreTrueRows (row ∷ rows) = IsTrueRow row × AreTrueRows rows

-- every instance of every row is true
abbrev pub IsTrueTable : List Row → Type 0
IsTrueTable rows = (name : ℕ) (picks : List Formula) (i : Instance) → instance_at rows name picks ≡ Some i → IsTrueLaw i
