-- What a script is for, and what its terms may name: sets, elements, constants and variables of its obligation's level and of those above,
-- and outputs and inputs of its operation. An obligation's name is that of its component, then that of an
-- operation or a word for a clause, perhaps wd or chk, and a number, with dots between.
-- Source: B Language Reference Manual, visibility.
use Rattle.std.specs.Prelude.{ℕ, zero, suc, List, [], ◌∷◌, ◌++◌, take, drop, map, Option, Some, None, decimal}
use Rattle.std.specs.List.{filter_map, flat_map, position}
use Rattle.std.specs.Option.{option_map}
use Rattle.std.specs.Str.{bytes_eq}
use Rattle.bk_form.specs.Table.{Table, SetEntry, variable_text}
use Rattle.bk_raw.specs.declared.script.NamePart.{NamePart}
use Rattle.bk_raw.specs.declared.script.NamePart.TheVariants.{Letters, Numeral}
use Rattle.bk_dev.specs.Development.{Development, extent_at, body_of, inputs_of}
use Rattle.bk_dev.specs.declared.kind.Home.{Home}
use Rattle.bk_dev.specs.declared.kind.Home.TheVariants.{Constant}

-- ---- names of scripts
-- the letters of a part of a name; those of a number are its digits
abbrev pub part_text : NamePart → List ℕ
part_text (Letters text) = text
part_text (Numeral n) = decimal n

-- those of the n-th part, from 0
abbrev pub part_at : List NamePart → ℕ → List ℕ
part_at [] n = []
part_at (p ∷ ps) zero = part_text p
part_at (p ∷ ps) (suc n) = part_at ps n

-- the level of the component that it begins with
abbrev pub level_of : Development → List NamePart → Option ℕ
level_of dev name = position (λ l. bytes_eq l.name (part_at name 0)) dev.levels

-- the operation that stands after it
abbrev pub operation_of : Development → List NamePart → Option ℕ
operation_of dev name = position (λ h. bytes_eq h.name (part_at name 1)) dev.heads

-- ---- variables
-- the constants from the n-th variable on
abbrev pub constants_from : ℕ → List Home → List ℕ
constants_from n [] = []
constants_from n (Constant ∷ hs) = n ∷ constants_from (suc n) hs
constants_from n (_ ∷ hs) = constants_from (suc n) hs

-- those of the levels down to k
abbrev pub constants_to : Development → ℕ → List ℕ
constants_to dev k = constants_from 0 (take (extent_at dev k).1 dev.homes)

-- the variables of the levels down to k
abbrev pub variables_to : Development → ℕ → List ℕ
variables_to dev k = flat_map (λ l. l.vars) (take (suc k) dev.levels)

-- the outputs of operation o at the levels down to k, and its inputs
abbrev pub parameters_to : Development → ℕ → Option ℕ → List ℕ
parameters_to dev k None = []
parameters_to dev k (Some o) = flat_map (λ l. (body_of l o).outputs) (take (suc k) dev.levels) ++ inputs_of dev o

-- ---- names that mean nothing
-- a number that no variable has in a table that is not full
abbrev pub no_variable : ℕ
no_variable = 4294967295

-- texts that mean nothing, and hide what they would mean else
abbrev pub hiding : List (List ℕ) → List (List ℕ × ℕ)
hiding texts = map (λ x. (x, no_variable)) texts

-- the names of sets and of their elements
abbrev pub set_texts : List SetEntry → List (List ℕ)
set_texts [] = []
set_texts (s ∷ ss) = (s.name ∷ s.elements) ++ set_texts ss

-- those of the levels below k
abbrev pub lower_sets : Development → ℕ → List (List ℕ)
lower_sets dev k = set_texts (drop (extent_at dev k).0 dev.sets)

-- ---- names for them
-- a variable under its text in the table: name$level for one of a level, the bare name for a constant or an input
abbrev pub entry : Table → ℕ → Option (List ℕ × ℕ)
entry table x = option_map (λ text. (text, x)) (variable_text table x)

-- constants and variables of the levels down to the script's own; sets and elements of those below are hidden
abbrev pub outer_scope : Table → Development → Option ℕ → List (List ℕ × ℕ)
outer_scope table dev None = []
outer_scope table dev (Some k) = hiding (lower_sets dev k) ++ filter_map (entry table) (constants_to dev k ++ variables_to dev k)

-- outputs and inputs of the script's operation. They stand after the others, since of two with one text the last is meant
abbrev pub parameter_scope : Table → Development → Option ℕ → Option ℕ → List (List ℕ × ℕ)
parameter_scope table dev None o = []
parameter_scope table dev (Some k) o = filter_map (entry table) (parameters_to dev k o)
