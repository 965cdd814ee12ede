-- What the words ask for: one of the program's verbs, with the files that it works on.
use Rattle.std.specs.Prelude.{◌≡◌, ◌≤◌, ℕ, Bool, true, false, List, [], ◌∷◌, codes, decimal}
use Rattle.bk_limits.specs.declared.TheConstants.{MOST_FUEL, MOST_SAMPLE_VARIABLES}
use Rattle.bk_cli.specs.Words.{AreWords}

-- what the program does. Files are named by their texts; fuel is how many steps the initialisation and each call may have; a sample has so
-- many variables
pub data Task : Type 0 where
  check_task : (project : List ℕ) → Task
  status_task : (project : List ℕ) → Task
  po_task : (project : List ℕ) → Task
  find_task : (project : List ℕ) → Task
  code_task : (project : List ℕ) → Task
  build_task : (project : List ℕ) → Task
  run_task : (project calls : List ℕ) (fuel : ℕ) → Task
  exec_task : (image calls : List ℕ) (fuel : ℕ) → Task
  sample_task : (variables : ℕ) → Task

-- ---- fuel
-- the most steps that may be asked for: 2 ^ 40
abbrev pub most_fuel : ℕ
most_fuel = MOST_FUEL

-- the text is that of a number of steps from 1 on, in decimal digits without a leading zero
pub record IsFuel (text : List ℕ) (fuel : ℕ) : Type 0 where
  pub written : text ≡ decimal fuel
  pub least : 1 ≤ fuel
  pub most : fuel ≤ most_fuel

-- ---- samples
-- the most variables that a sample may have
abbrev pub most_variables : ℕ
most_variables = MOST_SAMPLE_VARIABLES

-- ---- verbs
-- the verb with these files and this fuel is that of the task. What executes no code makes no use of the
-- fuel, nor does a sample, whose file is its number of variables in decimal digits without a leading zero
abbrev pub IsTaskOf : (verb : List ℕ) (files : List (List ℕ)) (fuel : ℕ) → Task → Type 0
IsTaskOf verb files fuel (check_task project) = (verb ≡ codes "check") × (files ≡ project ∷ [])
IsTaskOf verb files fuel (status_task project) = (verb ≡ codes "status") × (files ≡ project ∷ [])
IsTaskOf verb files fuel (po_task project) = (verb ≡ codes "po") × (files ≡ project ∷ [])
IsTaskOf verb files fuel (find_task project) = (verb ≡ codes "find") × (files ≡ project ∷ [])
IsTaskOf verb files fuel (code_task project) = (verb ≡ codes "code") × (files ≡ project ∷ [])
IsTaskOf verb files fuel (build_task project) = (verb ≡ codes "build") × (files ≡ project ∷ [])
IsTaskOf verb files fuel (run_task project calls steps) = (verb ≡ codes "run") × (files ≡ project ∷ calls ∷ []) × (steps ≡ fuel)
IsTaskOf verb files fuel (exec_task image calls steps) = (verb ≡ codes "exec") × (files ≡ image ∷ calls ∷ []) × (steps ≡ fuel)
IsTaskOf verb files fuel (sample_task variables) = (verb ≡ codes "sample")
    × (files ≡ decimal variables ∷ []) × (1 ≤ variables) × (variables ≤ most_variables)

-- the words ask for the task: the command takes them, and the task is that of their verb, their files and their fuel
pub record Asks (words : List (List ℕ)) (task : Task) : Type 0 where
  pub verb : List ℕ
  pub files : List (List ℕ)
  pub text : List ℕ
  pub are : AreWords words verb files text
  pub fuel : ℕ
  pub is_fuel : IsFuel text fuel
  pub meant : IsTaskOf verb files fuel task

-- the words ask for nothing: the command refuses them, or what stands after --fuel is no such number, or the verb is none of
-- the verbs, or it has too few files or too many
abbrev pub AskForNothing : List (List ℕ) → Type 0
AskForNothing words = (task : Task) → Asks words task → ⊥

-- ---- files
-- whether the task is done on what the proof files hold too
abbrev pub has_proofs : Task → Bool
has_proofs (check_task project) = false
has_proofs (status_task project) = true
has_proofs (po_task project) = false
has_proofs (find_task project) = true
has_proofs (code_task project) = false
has_proofs (build_task project) = true
has_proofs (run_task project calls fuel) = true
has_proofs (exec_task image calls fuel) = false
has_proofs (sample_task variables) = true
