use Rattle.std.proofs.Common.{refl}
use Rattle.bk_raw.proofs.readings.reading_examples.Goals as goal

pub returns : goal.returns
returns c = record { sum = refl; equal = refl; neither = refl; unequal = refl; greater = refl; difference = refl; product = refl; domains = refl; number_of_domains = refl; domain_of_numbers = refl; domain_of_truth = refl; domain_of_none = refl; product_of_fault = refl; extension = refl; successor = refl; least_of_none = refl; count_of_none = refl; finite_sets = refl; strict = refl; no_set = refl; greatest = refl; least = refl; naturals = refl; application = refl; image = refl; restriction = refl; composition = refl; couple = refl; no_function = refl; no_set_of_numbers = refl; no_argument = refl; no_type_within = refl; strict_within = refl; name = refl; domain = refl; kind = refl; silent = refl; judged = refl; quantifier = refl; untyped = refl; typed_by_subset = refl; twice = refl; typed_by_strict = refl; typed_by_domain = refl; ranged = refl; one_value = refl; function = refl; names_itself = refl; typed_empty = refl; numbered = refl; numbered_range = refl; variable_name = refl; set_name = refl; no_name = refl; hidden_variable = refl; hidden_element = refl; no_formula = refl }
