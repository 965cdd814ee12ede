-- What the words ask for: one of the verbs of `bkproof`, with the files that it works on and its options.
use Rattle.std.specs.Prelude.{◌≡◌, ◌<◌, ◌^◌, ℕ, Bool, true, false, List, [], ◌∷◌, Option, Some, None, option_map, unwrap_or, codes, decimal}
use Rattle.std.specs.Borrow.{Bor}
use Rattle.clap.specs.Words.{Row, Text, all_of, first_of}
use Rattle.bk_proof_words.specs.Words.{found_rows, is_on, refusal_kinds}
use Rattle.bk_proof_words.specs.declared.task.ReportForm.{ReportForm}
use Rattle.bk_proof_words.specs.declared.task.ReportForm.TheVariants.{Text as TextForm, Json, Html}
use Rattle.bk_proof_words.specs.declared.task.Task.{Task}
use Rattle.bk_proof_words.specs.declared.task.Task.TheVariants.{Goal, List as ListTask, Explain, Prune, Report, Help, ManPage}
use Rattle.bk_proof_words.specs.declared.verbs.Options.{Options}

-- ---- options
-- the text after `--at`, and whether each of the other options is there
pub record Chosen : Type 0 where
  pub at : Option Text
  pub has_open : Bool
  pub has_json : Bool
  pub has_html : Bool
  pub has_image : Bool

-- of what the command finds
abbrev pub chosen_in : List Row → Chosen
chosen_in rows = record {
  at = first_of (codes "at") rows;
  has_open = is_on (codes "open") rows;
  has_json = is_on (codes "json") rows;
  has_html = is_on (codes "html") rows;
  has_image = is_on (codes "image") rows;
}

-- of what the program holds
abbrev pub chosen_by : Options → Chosen
chosen_by options = record {
  at = option_map (λ text. text.now) options.at;
  has_open = options.has_open;
  has_json = options.has_json;
  has_html = options.has_html;
  has_image = options.has_image;
}

-- no text and no number, or a number in decimal digits without a sign or a leading zero
abbrev pub IsPlace : Option Text → Option ℕ → Type 0
IsPlace None at = at ≡ None
IsPlace (Some text) None = ⊥
IsPlace (Some text) (Some n) = (n < 2 ^ 64) × (text ≡ decimal n)

-- whether `--json` asks for the form of a report
abbrev pub is_json : ReportForm → Bool
is_json TextForm = false
is_json Json = true
is_json Html = false

-- whether `--html` does
abbrev pub is_html : ReportForm → Bool
is_html TextForm = false
is_html Json = false
is_html Html = true

-- the files of `explain`, of which an image has to have calls
abbrev pub AreExplained : (files : List Text) → (file : Text) → Option (Bor Text) → (is_image : Bool) → Type 0
AreExplained files file None is_image = (files ≡ file ∷ []) × (is_image ≡ false)
AreExplained files file (Some calls) is_image = files ≡ file ∷ calls.now ∷ []

-- ---- verbs
-- the verb with these files and options is that of the task; an option that is none of the verb is none of its words
abbrev pub IsVerbTask : (verb : Text) → (files : List Text) → Chosen → Task → Type 0
IsVerbTask verb files chosen (Goal project name at) = (verb ≡ codes "goal") × (files ≡ project.now ∷ name.now ∷ []) × IsPlace chosen.at at
    × (chosen.has_open ≡ false) × (chosen.has_json ≡ false) × (chosen.has_html ≡ false) × (chosen.has_image ≡ false)
IsVerbTask verb files chosen (ListTask project is_open_only as_json) = (verb ≡ codes "list") × (files ≡ project.now ∷ [])
    × (chosen.has_open ≡ is_open_only) × (chosen.has_json ≡ as_json)
    × (chosen.at ≡ None) × (chosen.has_html ≡ false) × (chosen.has_image ≡ false)
IsVerbTask verb files chosen (Explain file calls is_image) = (verb ≡ codes "explain") × AreExplained files file.now calls is_image
    × (chosen.has_image ≡ is_image) × (chosen.at ≡ None) × (chosen.has_open ≡ false) × (chosen.has_json ≡ false) × (chosen.has_html ≡ false)
IsVerbTask verb files chosen (Prune project file) = (verb ≡ codes "prune") × (files ≡ project.now ∷ file.now ∷ []) × (chosen.at ≡ None)
    × (chosen.has_open ≡ false) × (chosen.has_json ≡ false) × (chosen.has_html ≡ false) × (chosen.has_image ≡ false)
IsVerbTask verb files chosen (Report project form) = (verb ≡ codes "report") × (files ≡ project.now ∷ [])
    × (chosen.has_json ≡ is_json form) × (chosen.has_html ≡ is_html form)
    × (chosen.at ≡ None) × (chosen.has_open ≡ false) × (chosen.has_image ≡ false)
IsVerbTask verb files chosen Help = ⊥
IsVerbTask verb files chosen ManPage = ⊥

-- ---- what is asked for
-- the files that the command finds
abbrev pub files_in : List Row → List Text
files_in rows = unwrap_or (all_of (codes "FILE") rows) []

-- a verb, where neither help nor the man page is asked for
pub record AsksVerb (rows : List Row) (task : Task) : Type 0 where
  pub no_help : is_on (codes "help") rows ≡ false
  pub no_man : is_on (codes "man") rows ≡ false
  pub verb : Text
  pub verb_is : first_of (codes "VERB") rows ≡ Some verb
  pub meant : IsVerbTask verb (files_in rows) (chosen_in rows) task

-- help where `--help` is there, whatever else is, or else the man page where `--man` is, or else the task of the verb
abbrev pub IsTaskOf : List Row → Task → Type 0
IsTaskOf rows Help = is_on (codes "help") rows ≡ true
IsTaskOf rows ManPage = (is_on (codes "help") rows ≡ false) × (is_on (codes "man") rows ≡ true)
IsTaskOf rows (Goal project name at) = AsksVerb rows (Goal project name at)
IsTaskOf rows (ListTask project is_open_only as_json) = AsksVerb rows (ListTask project is_open_only as_json)
IsTaskOf rows (Explain file calls is_image) = AsksVerb rows (Explain file calls is_image)
IsTaskOf rows (Prune project file) = AsksVerb rows (Prune project file)
IsTaskOf rows (Report project form) = AsksVerb rows (Report project form)

-- the words ask for the task: the command takes them, and the task is that of what it finds
abbrev pub Asks : List Text → Task → Type 0
Asks words task = (refusal_kinds words ≡ []) × IsTaskOf (found_rows words) task

-- the words ask for nothing: the command refuses them, or they have no verb or one that is none of the table, or too few files or too
-- many, or an option that is none of the verb, or no number after `--at`
abbrev pub AskForNothing : List Text → Type 0
AskForNothing words = (task : Task) → Asks words task → ⊥
