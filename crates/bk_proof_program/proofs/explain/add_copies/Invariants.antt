use Rattle.std.proofs.Common.{◌≤◌}
use Rattle.bk_proof_program.proofs.explain.add_copies.Given as goal

abbrev pub invariant-loop-line : goal.invariant-loop-line
invariant-loop-line g l = g.H.Shelf.faults l.fn.shelf ≤ g.H.Shelf.faults l.shelf
