-- The hypotheses of the obligations of a development.
-- Source: B-Book, proof obligations; the order is this project's.
use Rattle.std.specs.Prelude.{ℕ, zero, suc, pos, ◌-ℤ◌, Bool, true, false, cond, List, [], ◌∷◌, ◌++◌, map, take, Option, Some}
use Rattle.std.specs.List.{filter, flat_map}
use Rattle.bk_val.specs.ValueType.{ValueType, int_type}
use Rattle.bk_form.specs.Table.{SetEntry, variable_type}
use Rattle.bk_form.specs.Formula.{Formula, variable, literal, named, unary, binary}
use Rattle.bk_form.specs.declared.operator.UnOp.TheVariants.{Card}
use Rattle.bk_form.specs.declared.operator.BinOp.TheVariants.{Eq, In, Range}
use Rattle.bk_form.specs.declared.operator.Domain.TheVariants.{Enum}
use Rattle.bk_dev.specs.Development.{Level, Development, int_max, level_at, body_of, inputs_of, is_implementation}
use Rattle.bk_form.specs.Predicates.{conjuncts, equation}

-- c = value
abbrev pub value_equation : ℕ × Formula → Formula
value_equation p = binary Eq (variable p.0) p.1

-- the properties of the first levels, as many as n
abbrev pub properties_of : Development → ℕ → List Formula
properties_of dev n = flat_map (λ l. conjuncts l.properties) (take n dev.levels)

-- card(S) = n of set k, where it is deferred, as a set without elements' names is, and has a size
abbrev pub size_equations_of : ℕ → List (List ℕ) → ℕ → List Formula
size_equations_of k [] (suc n) = binary Eq (unary Card (named (Enum k))) (literal (pos (suc n))) ∷ []
size_equations_of k _ _ = []

-- those of sets one after another, from number k on
abbrev pub size_equations_from : ℕ → List SetEntry → List Formula
size_equations_from k [] = []
size_equations_from k (s ∷ ss) = size_equations_of k s.elements s.size ++ size_equations_from (suc k) ss

-- the sizes of the deferred sets
abbrev pub size_equations : Development → List Formula
size_equations dev = size_equations_from 0 dev.sets

-- the sets' sizes and the constants' values, at an implementation
abbrev pub values_at : Development → ℕ → List Formula
values_at dev k = cond (is_implementation (level_at dev k)) (size_equations dev ++ map value_equation dev.values) []

-- a level's invariant and links
abbrev pub joining : Level → List Formula
joining l = conjuncts l.invariant ++ map equation l.links

-- and its assertions
abbrev pub facts : Level → List Formula
facts l = joining l ++ flat_map conjuncts l.assertions

-- the invariants, links and assertions of the first levels, as many as n
abbrev pub facts_of : Development → ℕ → List Formula
facts_of dev n = flat_map facts (take n dev.levels)

-- without the assertions
abbrev pub joinings_of : Development → ℕ → List Formula
joinings_of dev n = flat_map joining (take n dev.levels)

-- the outermost preconditions of an operation at the first levels, as many as n
abbrev pub conditions_of : Development → ℕ → ℕ → List Formula
conditions_of dev n o = flat_map (λ l. conjuncts (body_of l o).condition) (take n dev.levels)

-- whether it is the type of the whole numbers
abbrev pub is_number : Option ValueType → Bool
is_number (Some int_type) = true
is_number _ = false

-- x : MININT..MAXINT
abbrev pub in_machine_range : Development → ℕ → Formula
in_machine_range dev x = binary In (variable x) (binary Range (literal (pos 0 -ℤ int_max dev)) (literal (int_max dev)))

-- the integer inputs of an operation at an implementation are numbers of the machine
abbrev pub input_ranges : Development → ℕ → ℕ → List Formula
input_ranges dev k o =
    cond (is_implementation (level_at dev k))
    (map (in_machine_range dev) (filter (λ x. is_number (variable_type dev.table x)) (inputs_of dev o))) []

-- ---- the hypotheses, by the obligation's row
-- of the definedness of a level's properties
abbrev pub properties_hypotheses : Development → ℕ → List Formula
properties_hypotheses dev k = properties_of dev k

-- of the definedness of a level's invariant
abbrev pub invariant_hypotheses : Development → ℕ → List Formula
invariant_hypotheses dev k = properties_of dev (suc k) ++ values_at dev k ++ facts_of dev k

-- of a level's assertions
abbrev pub assertion_hypotheses : Development → ℕ → List Formula
assertion_hypotheses dev k = invariant_hypotheses dev k ++ joining (level_at dev k)

-- of an initialisation
abbrev pub init_hypotheses : Development → ℕ → List Formula
init_hypotheses dev k = properties_of dev (suc k) ++ values_at dev k

-- of an operation, and of what its body meets: without the machine's own precondition
abbrev pub body_hypotheses : Development → ℕ → ℕ → List Formula
body_hypotheses dev k o = init_hypotheses dev k ++ facts_of dev (suc k) ++ conditions_of dev k o ++ input_ranges dev k o

-- of an operation's main obligation: at the machine with its own precondition
abbrev pub operation_hypotheses : Development → ℕ → ℕ → List Formula
operation_hypotheses dev zero o = init_hypotheses dev 0 ++ facts_of dev 1 ++ conditions_of dev 1 o ++ input_ranges dev 0 o
operation_hypotheses dev k o = body_hypotheses dev k o

-- of an operation, all assertions left aside
abbrev pub unasserted_hypotheses : Development → ℕ → ℕ → List Formula
unasserted_hypotheses dev k o = init_hypotheses dev k ++ joinings_of dev (suc k) ++ conditions_of dev k o ++ input_ranges dev k o
