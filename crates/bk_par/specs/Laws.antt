-- What the rewriting of || by copies keeps, as statements.
use Rattle.std.specs.Prelude.{◌≡◌, []}
use Rattle.bk_form.specs.Table.{Table, IsWellFormed}
use Rattle.bk_form.specs.Search.{Finder}
use Rattle.bk_form.specs.Environment.{State, IsTypedState}
use Rattle.bk_gsl.specs.Substitution.{Substitution}
use Rattle.bk_gsl.specs.Run.{Runs, Ends}
use Rattle.bk_gsl.specs.Typed.{Types}
use Rattle.bk_gsl.specs.Flat.{flat, flat_table, IsFlat}
use Rattle.bk_par.specs.Overlaps.{overlaps}
use Rattle.bk_par.specs.Bindings.{BindsApart}
use Rattle.bk_par.specs.Lefts.{LeftsRun}

-- the rewritten substitution, over the table with the copies, does what the substitution does over its own table; the copies may have any
-- values before
pub record DoesTheSame (table : Table) (s : Substitution) : Type 0 where
  -- from a typed state it runs to each state to which the substitution runs
  pub runs : (find : Finder) (e f : State) → IsTypedState table e →
      Runs find table s e f → Runs find (flat_table table s) (flat table s) e f
  -- and from no state to any other
  pub no_more : (find : Finder) (e f : State) → Runs find (flat_table table s) (flat table s) e f → Runs find table s e f
  -- it ends where the substitution ends
  pub ends : (find : Finder) (e : State) → Ends find table s e → Ends find (flat_table table s) (flat table s) e
  -- and where it ends, the substitution ends, if the left side of each ||
  -- that is met has a result: what stands right of one without is not met
  pub ends_back : (find : Finder) (e : State) → IsTypedState table e → LeftsRun find table s e →
      Ends find (flat_table table s) (flat table s) e → Ends find table s e

-- so it is of each substitution that types, whose || have sides that write different variables, and bind nothing that the other side writes
abbrev pub FlatDoesTheSame : Type 0
FlatDoesTheSame = (table : Table) → IsWellFormed table → (s : Substitution) →
    Types table s → BindsApart s → overlaps s ≡ [] → DoesTheSame table s

-- no || is left in it, and it types over the table with the copies
pub record FlatIsFlat : Type 0 where
  pub is_flat : (table : Table) (s : Substitution) → IsFlat (flat table s)
  pub types : (table : Table) → IsWellFormed table → (s : Substitution) → Types table s → Types (flat_table table s) (flat table s)
