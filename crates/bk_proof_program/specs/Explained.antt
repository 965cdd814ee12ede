-- What `explain` asks bkit to do.
use Rattle.std.specs.Prelude.{ℕ, Bool, cond, List, Option, Some, None}
use Rattle.std.specs.Borrow.{Bor}
use Rattle.bk_limits.specs.declared.TheConstants.{FUEL}
use Rattle.bk_cli.specs.Tasks.{Task, status_task, run_task, exec_task}

-- of a project alone its status, with calls its run, and of an image its execution
abbrev pub task_with : (file : List ℕ) → (is_image : Bool) → Option (Bor (List ℕ)) → Task
task_with file is_image None = status_task file
task_with file is_image (Some calls) = cond is_image (exec_task file calls.now FUEL) (run_task file calls.now FUEL)
