-- A development: a machine, its chain of refinements and at most one implementation (B-Book, Theory of Abstract Machines and Refinement).
use Rattle.std.specs.Prelude.{ℕ, ◌-◌, ℤ, pos, ◌≤ℤ◌, Bool, true, false, cond, List, [], length, slice_index_or}
use Rattle.bk_limits.specs.declared.TheConstants.{MAXINT, GREATEST_MAXINT}
use Rattle.bk_form.specs.Table.{Table, SetEntry}
use Rattle.bk_form.specs.Sized.{sized_from, with_sizes}
use Rattle.bk_form.specs.Formula.{Formula, btrue}
use Rattle.bk_gsl.specs.Substitution.{Substitution, skip, pre}
use Rattle.bk_dev.specs.declared.kind.Kind.{Kind}
use Rattle.bk_dev.specs.declared.kind.Kind.TheVariants.{Refinement, Implementation}
use Rattle.bk_dev.specs.declared.kind.Home.{Home}

-- an operation's header, the same at every level
pub record Head : Type 0 where
  pub name : List ℕ
  pub inputs : List ℕ
  -- how many outputs it has
  pub outputs : ℕ

-- an operation at one level: its outermost precondition, which is btrue where there is none, and the rest
pub record Body : Type 0 where
  pub condition : Formula
  pub sub : Substitution
  pub outputs : List ℕ

-- a component
pub record Level : Type 0 where
  pub name : List ℕ
  pub kind : Kind
  pub vars : List ℕ
  pub properties : Formula
  pub invariant : Formula
  -- a variable of this level, and the one of the level above that stands under its name
  pub links : List (ℕ × ℕ)
  pub assertions : List Formula
  pub init : Substitution
  -- in the order of the headers
  pub bodies : List Body

-- the components from the machine down, over one table of variables, with the sets, headers and constants they share
pub record Development : Type 0 where
  -- MAXINT
  pub max : ℤ
  pub table : Table
  -- where each variable of the table is at home
  pub homes : List Home
  pub sets : List SetEntry
  pub heads : List Head
  -- the machine first
  pub levels : List Level
  -- the constants' values, in the order of the VALUES clause
  pub values : List (ℕ × Formula)
  -- of each level, how many of the table's sets, from the first on, are of it and of the levels above, and how many of its variables
  pub extents : List (ℕ × ℕ)

-- MAXINT; MININT is its negation
abbrev pub int_max : Development → ℤ
int_max dev = dev.max

-- MAXINT where no range is said
abbrev pub default_max : ℤ
default_max = MAXINT

-- MAXINT may be each number from 1, since TRUE is 1, to the greatest with which a sum of two numbers of the range fits 64 bits
pub record IsRange (max : ℤ) : Type 0 where
  pub least : pos 1 ≤ℤ max
  pub greatest : max ≤ℤ GREATEST_MAXINT

-- what stands for a body that is not there: skip, with no precondition
abbrev pub blank_body : Body
blank_body = record { condition = btrue; sub = skip; outputs = [] }

-- what stands for a component that is not there: one that states nothing and does nothing
abbrev pub blank_level : Level
blank_level = record {
  name = [];
  kind = Refinement;
  vars = [];
  properties = btrue;
  invariant = btrue;
  links = [];
  assertions = [];
  init = skip;
  bodies = [];
}

-- the level of this number, 0 being the machine's
abbrev pub level_at : Development → ℕ → Level
level_at dev k = slice_index_or dev.levels k blank_level

-- how many of the table's sets and of its variables, from the first on, are of level k and of those above it; none where there is no such
-- level
abbrev pub extent_at : Development → ℕ → ℕ × ℕ
extent_at dev k = slice_index_or dev.extents k (0, 0)

-- operation o of the component
abbrev pub body_of : Level → ℕ → Body
body_of l o = slice_index_or l.bodies o blank_body

-- operation o at level k
abbrev pub body_at : Development → ℕ → ℕ → Body
body_at dev k o = body_of (level_at dev k) o

-- the input variables of operation o, which all levels share
abbrev pub inputs_of : Development → ℕ → List ℕ
inputs_of dev o = (slice_index_or dev.heads o (record { name = []; inputs = []; outputs = 0 })).inputs

-- the number of the last level
abbrev pub last : Development → ℕ
last dev = length dev.levels - 1

-- it is the kind of an implementation
abbrev pub is_implementing : Kind → Bool
is_implementing Implementation = true
is_implementing _ = false

-- the level is an implementation
abbrev pub is_implementation : Level → Bool
is_implementation l = is_implementing l.kind

-- whether the last level is an implementation
abbrev pub is_complete : Development → Bool
is_complete dev = is_implementation (level_at dev (last dev))

-- whether it is btrue, which stands where no precondition is written
abbrev pub is_btrue : Formula → Bool
is_btrue btrue = true
is_btrue _ = false

-- the whole body, with its outermost precondition where there is one
abbrev pub whole : Body → Substitution
whole b = cond (is_btrue b.condition) b.sub (pre b.condition b.sub)

-- ---- sizes
-- the development in which each set without a size has the one for its number
abbrev pub with_set_sizes : (ℕ → ℕ) → Development → Development
with_set_sizes sizes dev = record dev { table = with_sizes sizes dev.table; sets = sized_from sizes 0 dev.sets }
