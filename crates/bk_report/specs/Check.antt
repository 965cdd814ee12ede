-- What `check` writes: the machine's name and how many components the project has.
use Rattle.std.specs.Prelude.{ℕ, List, ◌++◌, length, codes, decimal}
use Rattle.bk_dev.specs.Development.{Development, level_at}

-- `ok Counter 2 components`
abbrev pub check_text : Development → List ℕ
check_text dev = codes "ok " ++ (level_at dev 0).name ++ codes " " ++ decimal (length dev.levels) ++ codes " components\n"
