-- What stands above a component, and the names that it leaves in scope: sets, elements and constants of all levels, and the variables
-- of the last.
use Rattle.std.specs.Prelude.{ℕ, suc, ◌-◌, pos, Bool, true, false, List, [], ◌∷◌, ◌++◌, length, take, Option, None, Some}
use Rattle.bk_form.specs.Table.{Table, VariableEntry, variable_type, variable_text, empty_table}
use Rattle.bk_dev.specs.declared.kind.Home.{Home}
use Rattle.bk_dev.specs.declared.kind.Home.TheVariants.{Constant, Concrete}
use Rattle.bk_dev.specs.Development.{Development, Level, level_at, body_at, last}
use Rattle.bk_raw.specs.Meaning.Names.{Names, level_name}
use Rattle.bk_raw.specs.Meaning.ScopeReading.{set_names}
use Rattle.bk_statics.specs.Typings.{Typing, or_else, as_variable}

-- a development without a level, which stands above a machine; nothing is told of its MAXINT
abbrev pub no_development : Development
no_development = record { max = pos 0; table = empty_table; homes = []; sets = []; heads = []; levels = []; values = []; extents = [] }

-- the levels above
abbrev pub above_of : Option Development → Development
above_of above = or_else no_development above

-- ---- texts
-- the name x of x$k, which is how a variable of level k is written: the text without as many bytes as $k has
abbrev pub stem : ℕ → List ℕ → List ℕ
stem k text = take (length text - length (level_name [] k)) text

-- the text of variable n
abbrev pub text_of : Table → ℕ → List ℕ
text_of table n = or_else [] (variable_text table n)

-- ---- names
-- these variables of level k, by their names
abbrev pub names_at_level : ℕ → Table → List ℕ → Names
names_at_level k table [] = []
names_at_level k table (n ∷ ns) = as_variable (stem k (text_of table n)) n ∷ names_at_level k table ns

-- inputs, which are written with their names alone
abbrev pub inputs_named : Table → List ℕ → Names
inputs_named table [] = []
inputs_named table (n ∷ ns) = as_variable (text_of table n) n ∷ inputs_named table ns

-- the constants from number n on, by the homes of the variables
abbrev pub constants_from : ℕ → List Home → List VariableEntry → Names
constants_from n [] vs = []
constants_from n hs [] = []
constants_from n (Constant ∷ hs) (v ∷ vs) = as_variable v.text n ∷ constants_from (suc n) hs vs
constants_from n (_ ∷ hs) (v ∷ vs) = constants_from (suc n) hs vs

-- sets, elements and constants of all levels
abbrev pub globals_of : Development → Names
globals_of dev = set_names 0 dev.table.sets ++ constants_from 0 dev.homes dev.table.variables

-- the variables of the last level
abbrev pub upper_of : Development → Names
upper_of dev = names_at_level (last dev) dev.table (level_at dev (last dev)).vars

-- the machine's outputs of operation o
abbrev pub outputs_named : Development → ℕ → Names
outputs_named dev o = names_at_level 0 dev.table (body_at dev 0 o).outputs

-- the types of the variables
abbrev pub known : Development → Typing
known dev n = variable_type dev.table n

-- whether a variable is concrete
abbrev pub is_concrete : Option Home → Bool
is_concrete (Some (Concrete k)) = true
is_concrete _ = false
