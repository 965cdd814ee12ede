-- What the whole rewriting is asked.
use Rattle.std.proofs.Common.{◌≡◌, ℕ, ◌+◌, length, sym, ap, subst, arith}
use Rattle.std.specs.Prelude.{None}
use Rattle.bk_form.specs.Table.{Table, IsWellFormed}
use Rattle.bk_gsl.specs.Substitution.{Substitution}
use Rattle.bk_gsl.specs.Typed.{Types}
use Rattle.bk_gsl.specs.Flat.{flat_from, flat, IsFlat}
use Rattle.bk_par.specs.Overlaps.{overlaps, least_of}
use Rattle.bk_par.specs.Bindings.{BindsApart}
use Rattle.bk_par.specs.Laws.{DoesTheSame}
use Rattle.bk_par.proofs.OtherNames.{flat-flat}
use Rattle.bk_par.proofs.Least.{least_found, none_found}
use Rattle.bk_par.proofs.Entries.{wider_same, copies_of_all}
use Rattle.bk_par.proofs.FlatMeans.{flat_does_the_same}

-- no copies stand before it
pub from_the_first : (table : Table) (s : Substitution) → flat_from (length table.variables + 0) s ≡ flat table s
from_the_first table s = let e : length table.variables + 0 ≡ length table.variables = omega arith in ap (λ k. flat_from k s) e

pub flat_is : (k : ℕ) (s r : Substitution) → r ≡ flat_from k s → IsFlat r
flat_is k s r e = subst IsFlat (sym e) (flat-flat k s)

pub means : (table : Table) (s : Substitution) → IsWellFormed table → least_of (overlaps s) ≡ None → Types table s → BindsApart s → DoesTheSame table s
means table s well none w b = flat_does_the_same table well s w b (none_found (overlaps s) none)

pub ruleset flattening = (from_the_first, flat_is, means, wider_same, copies_of_all, least_found, none_found)
