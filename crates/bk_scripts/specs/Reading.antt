-- What the program reads terms in.
use Rattle.bk_scripts.specs.declared.around.Around.{Around as Held}
use Rattle.bk_scripts.specs.Parts.{Around}

-- the table and the scope around a term
abbrev pub around_of : Held → Around
around_of a = record { table = a.table.now; scope = a.scope.now }
