-- The sample: the files that it has, the tasks that are done with them, and the last line of what these give.
use Rattle.std.specs.Prelude.{ℕ, Bool, false, cond, nat_eq, ◌||◌, List, [], ◌∷◌, codes}
use Rattle.bk_limits.specs.declared.TheConstants.{FUEL}
use Rattle.bk_io.specs.Files.{Files}
use Rattle.bk_calls.specs.Sample.{sample_of, shelved}
use Rattle.bk_cli.specs.Tasks.{Task, status_task, run_task}

-- ---- files
-- the files of the sample with so many variables, its call script among them
abbrev pub sample_files : ℕ → Files
sample_files variables = shelved (sample_of variables)

-- the name of each sample's project file
abbrev pub sample_project : List ℕ
sample_project = codes "sample.prj"

-- ---- tasks
-- the status table of a sample, on its own files
abbrev pub sample_table : Task
sample_table = status_task sample_project

-- its run, with FUEL steps for the initialisation and for each call
abbrev pub sample_run : Task
sample_run = run_task sample_project (codes "sample.calls") FUEL

-- ---- the last line
-- whether a line feed (10) stands in the text before its last byte
abbrev pub has_end_within : List ℕ → Bool
has_end_within [] = false
has_end_within (c ∷ []) = false
has_end_within (c ∷ d ∷ cs) = nat_eq c 10 || has_end_within (d ∷ cs)

-- the last line of a text, with the line feed that ends it: the text, or what stands after its first bytes, once no line ends within
abbrev pub last_line : List ℕ → List ℕ
last_line [] = []
last_line (c ∷ cs) = cond (has_end_within (c ∷ cs)) (last_line cs) (c ∷ cs)
