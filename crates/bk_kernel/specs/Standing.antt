-- The open sequents as the program holds them: the first one last.
use Rattle.std.specs.Prelude.{ℕ, zero, suc, ◌-◌, ◌^◌, min, List, map, reverse}
use Rattle.bk_seq.specs.declared.sequent.Sequent.{Sequent as StoredSequent}
use Rattle.bk_kernel.specs.declared.replaying.Verdict.{Verdict}
use Rattle.bk_kernel.specs.declared.replaying.Verdict.TheVariants.{Closed, Open}
use Rattle.bk_seq.specs.Sequents.{Sequent, sequent_of}

-- the open sequents in order
abbrev pub in_order : List StoredSequent → List Sequent
in_order held = reverse (map sequent_of held)

-- the verdict where all rules are steps and this many sequents are left
abbrev pub at_end : ℕ → Verdict
at_end zero = Closed
at_end (suc n) = Open (min (suc n) (2 ^ 32 - 1))
