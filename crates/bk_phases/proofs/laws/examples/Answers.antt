use Rattle.std.proofs.Common.{refl}
use Rattle.std.specs.Fmt.{digits}
use Rattle.bk_phases.proofs.laws.examples.Goals as goal

pub returns-clause-made : goal.returns-clause-made
unfolding digits
returns-clause-made c = record { counter = refl; counter_is_right = refl; refines = refl; machine_is_right = refl; refinement_is_right = refl }

pub returns-clause-words : goal.returns-clause-words
unfolding digits
returns-clause-words c = record { select = refl; choose = refl; choose_one = refl; elsif = refl; let_in = refl; member = refl; such_that = refl; begin_pre = refl; output = refl }

pub returns-clause-faults : goal.returns-clause-faults
unfolding digits
returns-clause-faults c = record { concrete_first = refl; concrete_again = refl; variable_above = refl; element_above = refl; both_clauses = refl; header = refl; component_twice = refl; unknown = refl; unknown_in_other = refl; old_value = refl; no_predicate = refl; longer = refl; constant = refl; variable_untyped = refl; set_alone = refl; untyped_name = refl; no_start = refl; sequence = refl; call = refl; inside = refl; shorter = refl; other_operation = refl; missing = refl; input = refl; twice = refl; lengths = refl; both_write = refl; no_value = refl; large_value = refl; other_value = refl; value_twice = refl; right_value = refl; no_size = refl; entry_of_set = refl; right_size = refl; not_code = refl; value_first = refl; power = refl; branches = refl; fill = refl; other_fill = refl; many = refl }

pub returns-clause-types : goal.returns-clause-types
unfolding digits
returns-clause-types c = record { right = refl; variable_by_constant = refl; left_to_right = refl; input_by_variable = refl; any_by_variable = refl; any_by_any = refl; output_waits = refl; circle = refl; domain_of_another = refl; no_place = refl; element_written = refl; no_term = refl }

pub returns-clause-kinds : goal.returns-clause-kinds
unfolding digits
returns-clause-kinds c = record { unknown_first = refl; sort_first = refl; twice_first = refl; type_first = refl; place_first = refl }
