-- Laws of box and diamond, as statements.
-- Source: B-Book.
use Rattle.std.specs.Prelude.{◌≡◌, ◌↔◌, ◌⊎◌, ◌<◌, ◌^◌, length, true, not, Option, Some}
use Rattle.bk_form.specs.Table.{Table, IsWellFormed}
use Rattle.bk_form.specs.Formula.{Formula, unary}
use Rattle.bk_form.specs.declared.operator.UnOp.TheVariants.{Not}
use Rattle.bk_form.specs.Search.{Finder, IsSearch}
use Rattle.bk_form.specs.ArrayTable.{ArrayTable}
use Rattle.bk_form.specs.Environment.{State, IsTypedState}
use Rattle.bk_gsl.specs.Substitution.{Substitution}
use Rattle.bk_gsl.specs.State.{holds}
use Rattle.bk_gsl.specs.Run.{Runs, Ends}
use Rattle.bk_gsl.specs.Typed.{Types}
use Rattle.bk_form.specs.Predicates.{IsPredicate}
use Rattle.bk_wd.specs.Laws.{AreTypedArrays}
use Rattle.bk_wp.specs.Box.{box, diamond}
use Rattle.bk_gsl.specs.Clean.{Clean}
use Rattle.bk_wp.specs.Guarded.{guarded}
use Rattle.bk_wp.specs.Shapes.{HasNoBinder, HasNoLoop}
use Rattle.bk_gsl.specs.Flat.{IsFlat}
use Rattle.bk_gsl.specs.Apart.{LocalsAreApart}
use Rattle.bk_form.specs.Replacement.{IsClosed}

-- the substitution ends from the state, and all its results meet the formula
abbrev pub AllMeet : Finder → Table → Substitution → Formula → State → Type 0
AllMeet find table s r e = Ends find table s e × ((f : State) → Runs find table s e f → holds find table f r ≡ true)

-- it does not end from the state, or some result meets the formula
abbrev pub SomeMeets : Finder → Table → Substitution → Formula → State → Type 0
SomeMeets find table s r e = (Ends find table s e → ⊥) ⊎ ((f : State) × Runs find table s e f × (holds find table f r ≡ true))

-- [S]R is true exactly where S ends and all its results meet R; here in every state, and for every finder, a search or not
abbrev pub BoxWithoutBinders : Type 0
BoxWithoutBinders = (find : Finder) (table : Table) (s : Substitution) → HasNoBinder s → Types table s →
    (r : Formula) (e : State) → (holds find table e (box table s r) ≡ true) ↔ AllMeet find table s r e

-- <S>R is true exactly where S does not end or some result meets R
abbrev pub DiamondWithoutBinders : Type 0
DiamondWithoutBinders = (find : Finder) (table : Table) (s : Substitution) → HasNoBinder s → Types table s →
    (r : Formula) (e : State) → (holds find table e (diamond table s r) ≡ true) ↔ SomeMeets find table s r e

-- <S>R is the conjugate of [S]R: not [S] not R
abbrev pub ConjugateWithoutBinders : Type 0
ConjugateWithoutBinders = (find : Finder) (table : Table) (s : Substitution) → HasNoBinder s → Types table s →
    (r : Formula) (e : State) → holds find table e (diamond table s r) ≡ not (holds find table e (box table s (unary Not r)))

-- ---- with locals and x :(P)
-- a search, a well-formed table, and a substitution without loops that types; R is a predicate, and no local is read after its scope
pub record IsExact (find : Finder) (table : Table) (s : Substitution) (r : Formula) : Type 0 where
  pub search : IsSearch find
  pub formed : IsWellFormed table
  pub loops : HasNoLoop s
  pub types : Types table s
  pub predicate : IsPredicate table r
  pub apart : LocalsAreApart s r

-- [S]R is true exactly where S ends and all its results meet R
abbrev pub BoxMeans : Type 0
BoxMeans = (find : Finder) (table : Table) (s : Substitution) (r : Formula) → IsExact find table s r → (e : State) →
    (holds find table e (box table s r) ≡ true) ↔ AllMeet find table s r e

-- <S>R is true exactly where S does not end or some result meets R
abbrev pub DiamondMeans : Type 0
DiamondMeans = (find : Finder) (table : Table) (s : Substitution) (r : Formula) → IsExact find table s r → (e : State) →
    (holds find table e (diamond table s r) ≡ true) ↔ SomeMeets find table s r e

-- <S>R is the conjugate of [S]R
abbrev pub DiamondIsConjugate : Type 0
DiamondIsConjugate = (find : Finder) (table : Table) (s : Substitution) (r : Formula) → IsExact find table s r → (e : State) →
    holds find table e (diamond table s r) ≡ not (holds find table e (box table s (unary Not r)))

-- ---- with loops
-- a search, a well-formed table, and a substitution without || that types; R has no loose bound number, no local is read after
-- its scope, and [S]R is true in a typed state
pub record HoldsBefore (find : Finder) (table : Table) (s : Substitution) (r : Formula) (e : State) : Type 0 where
  pub search : IsSearch find
  pub formed : IsWellFormed table
  pub flat : IsFlat s
  pub types : Types table s
  pub closed : IsClosed 0 r
  pub apart : LocalsAreApart s r
  pub state : IsTypedState table e
  pub box : holds find table e (box table s r) ≡ true

-- where [S]R is true in a typed state, S ends and all its results meet R; the other way is not so, since an invariant may
-- say too little
abbrev pub BoxIsSound : Type 0
BoxIsSound = (find : Finder) (table : Table) (s : Substitution) (r : Formula) (e : State) →
    HoldsBefore find table s r e → AllMeet find table s r e

-- ---- what is evaluated
-- where [S]R and W(S) are true in a typed state, S is clean: each formula that it meets is defined and, in an
-- implementation, what it executes fits the machine; with locals, x :(P), loops and arrays
abbrev pub GuardedIsClean : Type 0
GuardedIsClean = (find : Finder) (table : Table) (arrays : Option ArrayTable) (s : Substitution) (r : Formula) (e : State) →
    HoldsBefore find table s r e → holds find table e (guarded table arrays s) ≡ true → Clean find table arrays s e

-- a substitution without || that types over a well-formed table, where 32 bits number one variable more and the arrays are
-- functions from their indices
pub record IsGuardable (table : Table) (arrays : Option ArrayTable) (s : Substitution) : Type 0 where
  pub formed : IsWellFormed table
  pub numbered : length table.variables < 2 ^ 32
  pub arrays_typed : (a : ArrayTable) → arrays ≡ Some a → AreTypedArrays table a
  pub flat : IsFlat s
  pub types : Types table s

-- of a substitution that types, W(S) is a predicate, where 32 bits number one variable more and the arrays are functions
-- from their indices
abbrev pub GuardedIsPredicate : Type 0
GuardedIsPredicate = (table : Table) (arrays : Option ArrayTable) (s : Substitution) → IsGuardable table arrays s →
    IsPredicate table (guarded table arrays s)
