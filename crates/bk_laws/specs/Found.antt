-- What the program finds of a law at some picks.
use Rattle.std.specs.Prelude.{Option, Some, None}
use Rattle.bk_laws.specs.declared.instances.Found.{Found}
use Rattle.bk_laws.specs.declared.instances.Found.TheVariants.{NoLaw, WrongPicks, Made}
use Rattle.bk_laws.specs.Rows.{Instance}

-- the instance that the program holds, where it made one
abbrev pub found_instance : Found → Option Instance
found_instance NoLaw = None
found_instance (WrongPicks k) = None
found_instance (Made sides left right) = Some (record { sides = sides.items; left = left; right = right })
