-- That laws are true, as statements.
use Rattle.std.specs.Prelude.{◌≡◌, ◌≢◌, ℕ, true, List, [], ◌∷◌, Some}
use Rattle.bk_form.specs.Formula.{Formula, btrue, bfalse, binary}
use Rattle.bk_form.specs.declared.operator.BinOp.TheVariants.{And}
use Rattle.bk_form.specs.Role.{role, predicate, untyped}
use Rattle.bk_form.specs.Search.{Finder, IsSearch}
use Rattle.bk_form.specs.Environment.{Environment, bound_types}
use Rattle.bk_form.specs.Settings.{IsSetting}
use Rattle.bk_form.specs.Meaning.{meaning, truth}
use Rattle.bk_laws.specs.Rows.{Row, Instance, built, instance_at}

-- both type, and stand for the same kind of thing
pub record HaveOneRole (e : Environment) (a b : Formula) : Type 0 where
  pub types : role e.table (bound_types e) a ≢ untyped
  pub one_role : role e.table (bound_types e) a ≡ role e.table (bound_types e) b

-- each side is a predicate that is true
abbrev pub SidesHold : Finder → Environment → List Formula → Type 0
SidesHold find e [] = Unit {0}
SidesHold find e (p ∷ ps) = (role e.table (bound_types e) p ≡ predicate) × (truth find e p ≡ true) × SidesHold find e ps

-- in a typed environment over a well-formed table, in which left and right have one role and the sides are true, both mean the same
abbrev pub IsTrueLaw : Instance → Type 0
IsTrueLaw i = (find : Finder) (e : Environment) → IsSetting find e →
    HaveOneRole e i.left i.right → SidesHold find e i.sides → meaning find e i.left ≡ meaning find e i.right

-- the row is true whatever is picked
abbrev pub IsTrueRow : Row → Type 0
IsTrueRow row = (picks : ℕ → Formula) → IsTrueLaw (built row picks)

-- each row is
abbrev pub AreTrueRows : List Row → Type 0
AreTrueRows [] = Unit {0}
AreTrueRows (row ∷ rows) = IsTrueRow row × AreTrueRows rows

-- every instance of every row is true
abbrev pub IsTrueTable : List Row → Type 0
IsTrueTable rows = (name : ℕ) (picks : List Formula) (i : Instance) → instance_at rows name picks ≡ Some i → IsTrueLaw i

-- so where each row is true, so is every instance
abbrev pub TableIsTrue : Type 0
TableIsTrue = (rows : List Row) → AreTrueRows rows → IsTrueTable rows

-- the statement can fail: `P & Q` is not `P`
abbrev pub LeftAloneIsFalse : Type 0
LeftAloneIsFalse = (find : Finder) → IsSearch find → IsTrueLaw (record { sides = []; left = binary And btrue bfalse; right = btrue }) → ⊥
