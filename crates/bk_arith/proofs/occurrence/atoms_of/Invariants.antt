use Rattle.std.proofs.Common.{◌≡◌, map, drop, []}
use Rattle.std.specs.List.{fold, flat_map}
use Rattle.bk_arith.specs.Reading.{occurrences, with_atom}
use Rattle.bk_arith.specs.Layout.{term_of}
use Rattle.bk_arith.proofs.occurrence.atoms_of.Given as goal

abbrev pub invariant-loop-term : goal.invariant-loop-term
invariant-loop-term l = fold with_atom l.atoms.items (flat_map occurrences (map term_of (drop l.term-index l.terms))) ≡ fold with_atom [] (flat_map occurrences (map term_of l.terms))
