-- What is shown of the fault that is told.
use Rattle.std.specs.Prelude.{◌≡◌, List, ◌++◌}
use Rattle.bk_raw.specs.Errors.Blame.{blame, earlier, IsBlameOf}
use Rattle.bk_raw.specs.Errors.Faults.{Fault}

-- the fault that is told is one of those that there are, and none is before it
abbrev pub BlameIsFirst : Type 0
BlameIsFirst = (fs : List Fault) → IsBlameOf (blame fs) fs

-- what is told of two lists of faults is the earlier of what is told of each: so one fault is kept on the way
abbrev pub BlameJoins : Type 0
BlameJoins = (fs gs : List Fault) → blame (fs ++ gs) ≡ earlier (blame fs) (blame gs)
