-- The law of obvious sequents, as a statement.
use Rattle.std.specs.Prelude.{◌≡◌, true, List, []}
use Rattle.bk_form.specs.Table.{Table, IsWellFormed}
use Rattle.bk_form.specs.Formula.{Formula}
use Rattle.bk_form.specs.Role.{role, predicate}
use Rattle.bk_bind.specs.Valid.{IsValid}
use Rattle.bk_seq.specs.Sequents.{IsValidForAllSizes}
use Rattle.bk_kernel.specs.Obvious.{is_obvious}

-- an obvious sequent whose goal is a predicate of the table is valid
abbrev pub ObviousIsValid : Type 0
ObviousIsValid = (table : Table) → IsWellFormed table → (hyps : List Formula) (goal : Formula) →
    role table [] goal ≡ predicate → is_obvious hyps goal ≡ true → IsValid table hyps goal

-- and for all sizes of the sets that have none
abbrev pub ObviousForAllSizes : Type 0
ObviousForAllSizes = (table : Table) → IsWellFormed table → (hyps : List Formula) (goal : Formula) →
    role table [] goal ≡ predicate → is_obvious hyps goal ≡ true → IsValidForAllSizes table (hyps, goal)
