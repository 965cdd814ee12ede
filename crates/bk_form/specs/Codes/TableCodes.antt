-- A table as pairs of lists, by which a proof tells tables apart.
use Rattle.std.specs.Prelude.{ℕ, List, refl}
use Rattle.std.specs.Coded.{Coded, code_by, coded×, coded_ℕ, coded_list}
use Rattle.bk_val.specs.ValueType.{ValueType, coded_type}
use Rattle.bk_form.specs.Table.{SetEntry, VariableEntry, Table}

-- a set is told by its name, its elements' names and its size
abbrev pub coded_set : Coded SetEntry
coded_set = code_by (List ℕ × (List (List ℕ) × ℕ)) (coded× (coded_list coded_ℕ) (coded× (coded_list (coded_list coded_ℕ)) coded_ℕ))
    (λ s. (s.name, (s.elements, s.size))) (λ p. record { name = p.0; elements = p.1.0; size = p.1.1 }) (λ _. refl)

-- a variable is told by its name and its type
abbrev pub coded_variable : Coded VariableEntry
coded_variable = code_by (List ℕ × ValueType) (coded× (coded_list coded_ℕ) coded_type)
    (λ v. (v.text, v.of_type)) (λ p. record { text = p.0; of_type = p.1 }) (λ _. refl)

-- a table is told by its sets and its variables
abbrev pub coded_table : Coded Table
coded_table = code_by (List SetEntry × List VariableEntry) (coded× (coded_list coded_set) (coded_list coded_variable))
    (λ t. (t.sets, t.variables)) (λ p. record { sets = p.0; variables = p.1 }) (λ _. refl)
