-- What `list` and `report` write.
use Rattle.std.specs.Prelude.{◌≡◌, ℕ, Bool, true, false, cond, List, [], ◌∷◌, ◌++◌, Some, map, codes, find, is_some, option_map, slice_get, unwrap_or}
use Rattle.std.specs.Str.{bytes_eq}
use Rattle.serde_json.specs.Read.{read}
use Rattle.bk_io.specs.Files.{Files}
use Rattle.bk_dev.specs.Development.{Development, Level}
use Rattle.bk_po.specs.Obligations.{numbered_obligations}
use Rattle.bk_po.specs.Shown.{named_sequent}
use Rattle.bk_po.specs.declared.obligation.Obligation.{Obligation}
use Rattle.bk_raw.specs.Trees.ScriptTree.{RawScript}
use Rattle.bk_status.specs.Rows.{HasRows}
use Rattle.bk_status.specs.States.{name_text}
use Rattle.bk_verbs.specs.Project.{ReadsProject}
use Rattle.bk_evidence.specs.Html.{page_text}
use Rattle.bk_evidence.specs.Items.{AreStated, row_of, parts_of, parts_of_pair}
use Rattle.bk_evidence.specs.Json.{list_data, report_data}
use Rattle.bk_evidence.specs.Lines.{list_lines, stray_lines, report_lines}
use Rattle.bk_evidence.specs.declared.item.Item.{Item}
use Rattle.bk_evidence.specs.declared.report.Report.{Report}
use Rattle.bk_evidence.specs.declared.report.Stray.{Stray}
use Rattle.bk_proof_program.specs.Texts.{AreTextsOf, files_read}
use Rattle.bk_proof_program.specs.declared.project.ProjectTexts.{ProjectTexts}
use Rattle.bk_proof_program.specs.declared.report.TheConstants.{VERSION, TOOLCHAIN}
use Rattle.bk_proof_words.specs.declared.task.ReportForm.{ReportForm}
use Rattle.bk_proof_words.specs.declared.task.ReportForm.TheVariants.{Text, Json, Html}

-- ---- texts
-- as JSON a line that reads back as the obligations and the scripts for none, else their lines
abbrev pub WritesList : (as_json is_open_only : Bool) → List Item → List Stray → List ℕ → Type 0
WritesList true is_open_only items strays text =
    (written : List ℕ) × (text ≡ written ++ codes "\n") × (read written ≡ Some (list_data is_open_only items strays))
WritesList false is_open_only items strays text = text ≡ list_lines is_open_only items ++ stray_lines strays

-- the report's lines, a line of JSON that reads back as the report, or its page of HTML
abbrev pub WritesReport : ReportForm → Report → List ℕ → Type 0
WritesReport Text report text = text ≡ report_lines report
WritesReport Json report text = (written : List ℕ) × (text ≡ written ++ codes "\n") × (read written ≡ Some (report_data report))
WritesReport Html report text = text ≡ page_text report

-- ---- of a development
-- the name of its machine
abbrev pub machine_name : List Level → List ℕ
machine_name levels = unwrap_or (option_map (λ level. level.name) (slice_get levels 0)) []

-- one more name, unless an obligation has it
abbrev pub stray_before : (is_found : Bool) → List ℕ → List (List ℕ) → List (List ℕ)
stray_before is_found name names = cond is_found names (name ∷ names)

-- the names of the scripts that are for no obligation of the list
abbrev pub stray_names : List Obligation → List RawScript → List (List ℕ)
stray_names list [] = []
stray_names list (s ∷ ss) =
    stray_before (is_some (find (λ o. bytes_eq (name_text s.name) o.name) list)) (name_text s.name) (stray_names list ss)

-- scripts that are for no obligation of the development
abbrev pub AreStraysOf : Development → List RawScript → List Stray → Type 0
AreStraysOf dev scripts strays =
    (list : List Obligation) × (map named_sequent list ≡ numbered_obligations dev) × (map (λ s. s.name) strays ≡ stray_names list scripts)

-- a report names the machine, the program and the toolchain, and claims what each report claims
pub record IsMade (dev : Development) (report : Report) : Type 0 where
  pub version : report.version.now ≡ VERSION.now
  pub toolchain : report.toolchain.now ≡ TOOLCHAIN.now
  pub stated : AreStated report.claims
  pub machine : report.machine ≡ machine_name dev.levels

-- ---- of the project that the files tell
-- the items are the rows of the status table of what the files tell
pub record AreItemsOf (files : Files) (project : List ℕ) (items : List Item) : Type 0 where
  pub development : Development
  pub scripts : List RawScript
  pub reads : ReadsProject true files project development scripts
  pub states : HasRows development scripts (map row_of items)

-- a list of these
pub record IsListOf (files : Files) (project : List ℕ) (as_json is_open_only : Bool) (text : List ℕ) : Type 0 where
  pub items : List Item
  pub are : AreItemsOf files project items
  pub strays : List Stray
  pub strays_are : AreStraysOf are.development are.scripts strays
  pub writes : WritesList as_json is_open_only items strays text

-- a report of these and of the files, each with its length and its sum
pub record IsReportOf (files : Files) (project : List ℕ) (form : ReportForm) (text : List ℕ) : Type 0 where
  pub report : Report
  pub are : AreItemsOf files project report.items.items
  pub texts : ProjectTexts
  pub texts_are : AreTextsOf files project texts
  pub inputs : map parts_of report.inputs.items ≡ map parts_of_pair (files_read project texts)
  pub made : IsMade are.development report
  pub strays_are : AreStraysOf are.development are.scripts report.strays.items
  pub writes : WritesReport form report text
