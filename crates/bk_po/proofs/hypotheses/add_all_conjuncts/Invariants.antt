use Rattle.std.proofs.Common.{◌≡◌, ◌++◌, drop}
use Rattle.std.specs.List.{flat_map}
use Rattle.bk_form.specs.Predicates.{conjuncts}
use Rattle.bk_po.proofs.hypotheses.add_all_conjuncts.Given as goal

abbrev pub invariant-loop-form : goal.invariant-loop-form
invariant-loop-form l = l.hyps.items ++ flat_map conjuncts (drop l.form-index l.forms) ≡ l.initial.hyps.items ++ flat_map conjuncts l.forms
