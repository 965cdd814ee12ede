use Rattle.std.proofs.Common.{◌≡◌, ◌++◌, drop, map}
use Rattle.bk_form.specs.Table.{element_texts}
use Rattle.bk_gen.proofs.names.element_names.Given as goal

abbrev pub invariant-loop-set : goal.invariant-loop-set
invariant-loop-set l = l.names.items ++ map element_texts (drop l.set-index l.sets) ≡ map element_texts l.sets
