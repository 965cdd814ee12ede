-- What is found among names, one by one.
use Rattle.std.proofs.Common.{ℕ}
use Rattle.std.specs.Prelude.{Option, None, Some}
use Rattle.bk_form.specs.Table.{Table, variable_type}
use Rattle.bk_raw.specs.Meaning.Names.{Sight, sight}
use Rattle.bk_raw.specs.Meaning.ScopeReading.{variable_meaning}

-- what is found where the last of the entries with a name has this variable, and else this is found
abbrev pub seen_last : Table → Option ℕ → Sight → Sight
seen_last table None other = other
seen_last table (Some n) other = sight 0 (variable_meaning n (variable_type table n))
