use Rattle.std.proofs.Common.{◌≡◌, ◌++◌, drop, map}
use Rattle.std.specs.List.{filter}
use Rattle.bk_form.specs.Table.{variable_type}
use Rattle.bk_dev.specs.Hypotheses.{is_number, in_machine_range}
use Rattle.bk_po.proofs.hypotheses.add_ranges_of.Given as goal

abbrev pub invariant-loop-input : goal.invariant-loop-input
invariant-loop-input l = l.hyps.items ++ map (in_machine_range l.dev) (filter (λ x. is_number (variable_type l.dev.table x)) (drop l.input-index l.inputs)) ≡ l.initial.hyps.items ++ map (in_machine_range l.dev) (filter (λ x. is_number (variable_type l.dev.table x)) l.inputs)
