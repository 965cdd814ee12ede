-- What holds of the words, as statements.
use Rattle.std.specs.Prelude.{◌≡◌, ℕ, List, decimal}
use Rattle.bk_limits.specs.declared.TheConstants.{FUEL, FUEL_TEXT}
use Rattle.bk_cli.specs.Tasks.{Task, Asks}

-- words ask for one task at most
abbrev pub AskForOne : Type 0
AskForOne = (words : List (List ℕ)) (one other : Task) → Asks words one → Asks words other → one ≡ other

-- the text of the fuel, where none is asked for, is its number in decimal digits
abbrev pub FuelIsWritten : Type 0
FuelIsWritten = FUEL_TEXT.now ≡ decimal FUEL
