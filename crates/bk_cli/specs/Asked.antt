-- The task that the command stands for, in the words of the definitions.
use Rattle.std.specs.Prelude.{◌≤◌}
use Rattle.bk_cli.specs.Tasks.{Task, check_task, status_task, po_task, find_task, code_task, build_task}
use Rattle.bk_cli.specs.Tasks.{run_task, exec_task, sample_task, most_fuel, most_variables}
use Rattle.bk_cli.specs.declared.command.Command.{Command}
use Rattle.bk_cli.specs.declared.command.Command.TheVariants.{Check, Status, Obligations, Find, Code, Build, Run, Exec, Sample}

-- with the files and the fuel that the command names
abbrev pub task_of : Command → Task
task_of (Check project) = check_task project.now
task_of (Status project) = status_task project.now
task_of (Obligations project) = po_task project.now
task_of (Find project) = find_task project.now
task_of (Code project) = code_task project.now
task_of (Build project) = build_task project.now
task_of (Run project calls fuel) = run_task project.now calls.now fuel
task_of (Exec image calls fuel) = exec_task image.now calls.now fuel
task_of (Sample variables) = sample_task variables

-- what executes code has no more fuel than may be asked for, and a sample as many variables as it may have
abbrev pub HasSmallNumbers : Command → Type 0
HasSmallNumbers (Run project calls fuel) = fuel ≤ most_fuel
HasSmallNumbers (Exec image calls fuel) = fuel ≤ most_fuel
HasSmallNumbers (Sample variables) = (1 ≤ variables) × (variables ≤ most_variables)
HasSmallNumbers _ = Unit {0}
