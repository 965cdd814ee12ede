use Rattle.std.proofs.Common.{◌≡◌, ◌++◌, drop}
use Rattle.bk_gsl.specs.Flat.{copies_from}
use Rattle.bk_par.proofs.copies.numbered.Given as goal

abbrev pub invariant-loop-variable : goal.invariant-loop-variable
invariant-loop-variable l = l.pairs.items ++ copies_from l.copy (drop l.variable-index l.variables) ≡ copies_from l.next l.variables
