-- When a sequent is valid.
-- Source: B-Book, sequents.
use Rattle.std.specs.Prelude.{◌≡◌, true, List}
use Rattle.bk_form.specs.Table.{Table}
use Rattle.bk_form.specs.Formula.{Formula}
use Rattle.bk_form.specs.Search.{Finder, IsSearch}
use Rattle.bk_form.specs.Environment.{State, at_state, IsTypedState}
use Rattle.bk_form.specs.Meaning.{truth}
use Rattle.bk_form.specs.Predicates.{AllHold}

-- the goal is true in every typed state in which the hypotheses are
abbrev pub IsValid : Table → List Formula → Formula → Type 0
IsValid table hyps goal = (find : Finder) → IsSearch find → (e : State) → IsTypedState table e →
    AllHold find (at_state table e) hyps → truth find (at_state table e) goal ≡ true
