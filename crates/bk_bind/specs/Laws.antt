-- Laws of closing and opening, as statements.
use Rattle.std.specs.Prelude.{◌≡◌, ℕ, List, [], ◌∷◌, map}
use Rattle.bk_val.specs.ValueType.{ValueType}
use Rattle.bk_form.specs.Table.{Table, IsWellFormed}
use Rattle.bk_form.specs.Formula.{Formula, variable}
use Rattle.bk_form.specs.Search.{Finder}
use Rattle.bk_form.specs.Environment.{State, under, at_state}
use Rattle.bk_form.specs.Role.{gives, role, bind}
use Rattle.bk_form.specs.Replacement.{IsClosed}
use Rattle.bk_form.specs.Meaning.{meaning, value}
use Rattle.bk_bind.specs.Closing.{closed_over_each}
use Rattle.bk_bind.specs.Opening.{opened}

-- a formula with variables bound, opened by these variables, is the formula again
abbrev pub OpeningGivesBack : Type 0
OpeningGivesBack = (zs : List ℕ) (f : Formula) → IsClosed 0 f → opened (map variable zs) (closed_over_each zs f) ≡ f

-- one term for each type, which it gives under no binder
abbrev pub TermsGive : Table → List ValueType → List Formula → Type 0
TermsGive table [] [] = Unit {0}
TermsGive table (t ∷ ts) (f ∷ fs) = (role table [] f ≡ gives t) × TermsGive table ts fs
TermsGive table _ _ = ⊥

-- the opened body means what the body means where its bound variables
-- have the values of the terms: it has the same value and the same truth
abbrev pub OpeningMeans : Type 0
OpeningMeans = (find : Finder) (table : Table) → IsWellFormed table →
    (e : State) (ts : List ValueType) (terms : List Formula) → TermsGive table ts terms → (p : Formula) →
    meaning find (at_state table e) (opened terms p) ≡
    meaning find (under (at_state table e) ts (map (value find (at_state table e)) terms)) p

-- and it stands for the same kind of thing
abbrev pub OpeningKeepsRole : Type 0
OpeningKeepsRole = (table : Table) → IsWellFormed table → (ts : List ValueType) (terms : List Formula) →
    TermsGive table ts terms → (p : Formula) → role table [] (opened terms p) ≡ role table (bind ts []) p
