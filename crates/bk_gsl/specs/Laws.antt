-- Laws of substitutions, as statements.
-- Source: B-Book.
use Rattle.std.specs.Prelude.{◌≡◌, ◌↔◌, ℕ, ℤ, pos, false, [], ◌∷◌, Option, Bool}
use Rattle.bk_val.specs.Value.{int}
use Rattle.bk_form.specs.Table.{Table, IsWellFormed}
use Rattle.bk_form.specs.Formula.{Formula, variable, literal, binary, btrue}
use Rattle.bk_form.specs.Search.{Finder}
use Rattle.bk_form.specs.Environment.{State, IsTypedState}
use Rattle.bk_form.specs.declared.operator.BinOp.TheVariants.{Lt, Sub}
use Rattle.bk_gsl.specs.Substitution.{Substitution, skip, assign, pre, any, par, loop}
use Rattle.bk_gsl.specs.State.{holds, among, over, AgreeOn}
use Rattle.bk_gsl.specs.Writes.{writes}
use Rattle.bk_gsl.specs.Reads.{read}
use Rattle.bk_gsl.specs.Run.{Runs, Ends}
use Rattle.bk_gsl.specs.Typed.{Types}
use Rattle.bk_form.specs.ArrayTable.{ArrayTable}
use Rattle.bk_gsl.specs.Clean.{Clean}
use Rattle.bk_form.specs.Wider.{IsWider}
use Rattle.bk_gsl.specs.Avoids.{Avoids}

-- outside what it writes a run changes nothing
abbrev pub ChangesOnlyWrites : Type 0
ChangesOnlyWrites = (find : Finder) (table : Table) (s : Substitution) (e f : State) → Runs find table s e f → (n : ℕ) →
    among (writes s) n ≡ false → f n ≡ e n

-- a run from a typed state ends in a typed state
abbrev pub KeepsTypes : Type 0
KeepsTypes = (find : Finder) (table : Table) → IsWellFormed table → (s : Substitution) → Types table s → (e f : State) →
    IsTypedState table e → Runs find table s e f → IsTypedState table f

-- a precondition changes no run, and nothing ends where it is false
pub record PreconditionMeans : Type 0 where
  pub runs : (find : Finder) (table : Table) (p : Formula) (s : Substitution) (e f : State) →
      Runs find table (pre p s) e f ↔ Runs find table s e f
  pub ends : (find : Finder) (table : Table) (p : Formula) (s : Substitution) (e : State) → holds find table e p ≡ false →
      Ends find table (pre p s) e → ⊥

-- x := y || y := x
abbrev pub swap : ℕ → ℕ → Substitution
swap x y = par (assign ((x, variable y) ∷ [])) (assign ((y, variable x) ∷ []))

-- it runs from everywhere, and swaps the two values
pub record Swaps : Type 0 where
  pub runs : (find : Finder) (table : Table) (e : State) → (f : State) × Runs find table (swap 0 1) e f
  pub values : (find : Finder) (table : Table) (e f : State) → Runs find table (swap 0 1) e f → (f 0 ≡ e 1) × (f 1 ≡ e 0)

-- a local variable has its old value after the run
abbrev pub PutsBack : Type 0
PutsBack = (find : Finder) (table : Table) (z : ℕ) (s : Substitution) (e f : State) → Runs find table (any (z ∷ []) s) e f → f z ≡ e z

-- WHILE 0 < x0 DO x0 := x0 - 1 END
abbrev pub count_down : Substitution
count_down =
    loop (binary Lt (literal (pos 0)) (variable 0)) (assign ((0, binary Sub (variable 0) (literal (pos 1))) ∷ [])) btrue (variable 0)

-- it ends from every number, and leaves 0 from one that is not negative
pub record CountsDown : Type 0 where
  pub ends : (find : Finder) (table : Table) (e : State) (z : ℤ) → e 0 ≡ int z → Ends find table count_down e
  pub runs : (find : Finder) (table : Table) (e f : State) (n : ℕ) → e 0 ≡ int (pos n) → Runs find table count_down e f → f 0 ≡ int (pos 0)

-- WHILE btrue DO skip END ends from nowhere
abbrev pub NeverEnds : Type 0
NeverEnds = (find : Finder) (table : Table) (e : State) → Ends find table (loop btrue skip btrue (literal (pos 0))) e → ⊥

-- ---- wider tables
-- a substitution that types runs, ends and is clean over the one table exactly where it does over the other
pub record WideningKeepsRuns : Type 0 where
  pub types : (small large : Table) → IsWellFormed small → IsWider small large → (s : Substitution) → Types small s → Types large s
  pub runs : (small large : Table) → IsWellFormed small → IsWider small large → (find : Finder) (s : Substitution) → Types small s →
      (e f : State) → Runs find large s e f ↔ Runs find small s e f
  pub ends : (small large : Table) → IsWellFormed small → IsWider small large → (find : Finder) (s : Substitution) → Types small s →
      (e : State) → Ends find large s e ↔ Ends find small s e
  pub clean : (small large : Table) → IsWellFormed small → IsWider small large →
      (find : Finder) (arrays : Option ArrayTable) (s : Substitution) → Types small s → (e : State) →
      Clean find large arrays s e ↔ Clean find small arrays s e

-- ---- what decides, and what does not matter
-- from a state that agrees with another in all that it reads it ends and is clean where it does from the other; and where it runs from the
-- other to some state, it runs from the one to a state that agrees with that wherever the two agreed before
pub record ReadDecides : Type 0 where
  pub runs : (find : Finder) (table : Table) (s : Substitution) (d e f : State) → AgreeOn (read s) d e → Runs find table s e f →
      (g : State) × Runs find table s d g × ((n : ℕ) → d n ≡ e n → g n ≡ f n)
  pub ends : (find : Finder) (table : Table) (s : Substitution) (d e : State) → AgreeOn (read s) d e → Ends find table s e →
      Ends find table s d
  pub clean : (find : Finder) (table : Table) (arrays : Option ArrayTable) (s : Substitution) (d e : State) → AgreeOn (read s) d e →
      Clean find table arrays s e → Clean find table arrays s d

-- from a state that differs only in variables which it avoids it runs as before and leaves them, and it ends and is clean from there too
pub record AvoidedDoesNotMatter : Type 0 where
  pub runs : (find : Finder) (table : Table) (off : ℕ → Bool) (s : Substitution) → Avoids off s → (d e f : State) → Runs find table s e f →
      Runs find table s (over off d e) (over off d f)
  pub ends : (find : Finder) (table : Table) (off : ℕ → Bool) (s : Substitution) → Avoids off s → (d e : State) → Ends find table s e →
      Ends find table s (over off d e)
  pub clean : (find : Finder) (table : Table) (off : ℕ → Bool) (arrays : Option ArrayTable) (s : Substitution) → Avoids off s →
      (d e : State) → Clean find table arrays s e → Clean find table arrays s (over off d e)
