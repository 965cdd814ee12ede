-- Quantifiers over the values of variables.
-- Source: B-Book.
use Rattle.std.specs.Prelude.{ℕ, List, [], ◌∷◌, map}
use Rattle.bk_val.specs.ValueType.{ValueType}
use Rattle.bk_form.specs.Table.{Table}
use Rattle.bk_form.specs.Formula.{Formula, for_all, for_some}
use Rattle.bk_gsl.specs.State.{declared_type}
use Rattle.bk_bind.specs.Closing.{closed_over_each}

-- the types of the variables
abbrev pub types_of : Table → List ℕ → List ValueType
types_of table zs = map (declared_type table) zs

-- !zs.f, also where nothing is bound
abbrev pub all_of : Table → List ℕ → Formula → Formula
all_of table zs f = for_all (types_of table zs) (closed_over_each zs f)

-- #zs.f, also where nothing is bound
abbrev pub some_of : Table → List ℕ → Formula → Formula
some_of table zs f = for_some (types_of table zs) (closed_over_each zs f)

-- !zs.f of what a loop writes: no quantifier where it writes nothing
abbrev pub all_written : Table → List ℕ → Formula → Formula
all_written table [] f = f
all_written table (z ∷ zs) f = all_of table (z ∷ zs) f
