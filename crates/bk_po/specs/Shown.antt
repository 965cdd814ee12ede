-- The named sequents that the program's obligations stand for.
use Rattle.std.specs.Prelude.{ℕ, List}
use Rattle.bk_seq.specs.Sequents.{Sequent, sequent_of}
use Rattle.bk_po.specs.declared.obligation.Obligation.{Obligation}

-- an obligation that the program holds: its name and its sequent
abbrev pub named_sequent : Obligation → List ℕ × Sequent
named_sequent o = (o.name, sequent_of o.sequent)
