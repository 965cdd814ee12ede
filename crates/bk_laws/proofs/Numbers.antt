-- Values that are numbers, and intervals.
use Rattle.std.proofs.Common.{◌≡◌, refl, sym, subst, true, ◌&&◌, ℤ, ◌≤ℤ◌, arith, ℕ}
use Rattle.std.specs.Prelude.{int_le}
use Rattle.std.proofs.lemmas.Int.{ints}
use Rattle.bk_val.specs.Value.{MathValue, int}
use Rattle.bk_val.specs.ValueType.{ValueType, int_type, set_type}
use Rattle.bk_form.specs.Table.{set_size}
use Rattle.bk_form.specs.Formula.{Formula, binary}
use Rattle.bk_form.specs.Search.{Finder}
use Rattle.bk_form.specs.Environment.{Environment, bound_types}
use Rattle.bk_form.specs.Role.{role}
use Rattle.bk_form.specs.Operators.{number_in}
use Rattle.bk_form.specs.Meaning.{value, within}
use Rattle.bk_form.specs.Settings.{IsSetting, GivesIn}
use Rattle.bk_form.specs.declared.operator.BinOp.TheVariants.{Range}
use Rattle.bk_form.proofs.Domains.{interval-members}
use Rattle.bk_form.proofs.Typed.{Of}
use Rattle.bk_form.proofs.Valued.{sound_typing}
use Rattle.bk_form.proofs.RoleParts.{interval-parts}

pub is-number : (sizes : ℕ → ℕ) (v : MathValue) → Of sizes int_type v → v ≡ int (number_in v)
is-number sizes (int z) h = refl
is-number sizes _ h = absurd (cc)

-- the value of a term of type INTEGER is a number
pub number-of : (find : Finder) (e : Environment) → IsSetting find e → (a : Formula) → GivesIn e a int_type → value find e a ≡ int (number_in (value find e a))
number-of find e c a h = is-number (set_size e.table) (value find e a) (sound_typing.typed find e c.well c.typed a int_type h)

pub le-then : (x y : ℤ) → int_le x y ≡ true → x ≤ℤ y
le-then x y h = grind (arith, ints)

pub le-if : (x y : ℤ) → x ≤ℤ y → int_le x y ≡ true
le-if x y h = grind (arith, ints)

set-same : (t u : ValueType) → set_type t ≡ set_type u → t ≡ u
set-same t u h = cc

-- a value of the type of an interval's elements is a number
pub range-number : (find : Finder) (e : Environment) (a b : Formula) (t : ValueType) → GivesIn e (binary Range a b) (set_type t) → (v : MathValue) → Of (set_size e.table) t v → v ≡ int (number_in v)
range-number find e a b t h v o =
    let int-type = set-same t int_type (interval-parts (role e.table (bound_types e) a) (role e.table (bound_types e) b) (set_type t) h).2 in
    is-number (set_size e.table) v (subst (λ x. Of (set_size e.table) x v) int-type o)

pub in-range : (find : Finder) (e : Environment) (a b : Formula) (v : MathValue) → v ≡ int (number_in v) → within find e v (binary Range a b) ≡ (int_le (number_in (value find e a)) (number_in v) && int_le (number_in v) (number_in (value find e b)))
in-range find e a b v number =
    subst (λ w. within find e w (binary Range a b) ≡ (int_le (number_in (value find e a)) (number_in w) && int_le (number_in w) (number_in (value find e b)))) (sym number) (interval-members.numbers find e a b (number_in v))
