-- What `list` and `report` write as lines.
use Rattle.std.specs.Prelude.{ℕ, nat_eq, Bool, false, cond, ◌&&◌, List, [], ◌++◌, Option, Some, None, codes, decimal, string_bytes}
use Rattle.std.specs.List.{flat_map}
use Rattle.bk_status.specs.Rows.{is_settled}
use Rattle.bk_report.specs.Table.{state_text}
use Rattle.bk_evidence.specs.declared.claim.Claims.{Claims}
use Rattle.bk_evidence.specs.declared.item.Item.{Item}
use Rattle.bk_evidence.specs.declared.item.Script.{Script}
use Rattle.bk_evidence.specs.declared.report.Input.{Input}
use Rattle.bk_evidence.specs.declared.report.Report.{Report}
use Rattle.bk_evidence.specs.declared.report.Stray.{Stray}
use Rattle.bk_evidence.specs.declared.sums.Sums.{Sums}
use Rattle.bk_evidence.specs.Items.{sums_over, sums_with}
use Rattle.bk_origins.specs.declared.concern.Concern.{Concern}
use Rattle.bk_origins.specs.declared.concern.Concern.TheVariants.{Initialisation, Operation, Assertion, Values, Definedness, Other}

-- ---- obligations
-- `T.inc.1  invariant conjunct 1 is preserved by inc  `: the name, and what is asked
abbrev pub question_text : Item → List ℕ
question_text item = item.name ++ codes "  " ++ item.words ++ codes "  "

-- `T.mch:3:11`: where it comes from
abbrev pub place_text : Item → List ℕ
place_text item = item.file ++ (codes ":" ++ decimal item.line) ++ (codes ":" ++ decimal item.column)

-- `, rules 4 (T.prf:1:7)`: how many rules a script has, and where it stands
abbrev pub rules_text : Script → List ℕ
rules_text script = (codes ", rules " ++ decimal script.rules) ++ codes " (" ++ script.place ++ codes ")"

-- the same, where there is a script
abbrev pub script_text : Option Script → List ℕ
script_text None = []
script_text (Some script) = rules_text script

-- `  proved, rules 4 (T.prf:1:7)`: the state that the status table has, and the script
abbrev pub answer_text : Item → List ℕ
answer_text item = codes "  " ++ state_text item.state ++ script_text item.script ++ codes "\n"

-- the line of an obligation
abbrev pub item_line : Item → List ℕ
item_line item = question_text item ++ place_text item ++ answer_text item

-- none of one that is settled, where those are asked that are open
abbrev pub asked_line : (is_open_only : Bool) → Item → List ℕ
asked_line is_open_only item = cond (is_open_only && is_settled item.state) [] (item_line item)

-- all lines, in order
abbrev pub list_lines : (is_open_only : Bool) → List Item → List ℕ
list_lines is_open_only items = flat_map (asked_line is_open_only) items

-- ---- scripts for no obligation
-- ` (nearest: T.inc.1)`: the obligation's name that is most like it, where there is one
abbrev pub nearest_text : Option (List ℕ) → List ℕ
nearest_text None = []
nearest_text (Some name) = codes " (nearest: " ++ name ++ codes ")"

-- `no obligation has the name of the script T.ink.1 (nearest: T.inc.1)`
abbrev pub stray_line : Stray → List ℕ
stray_line stray = codes "no obligation has the name of the script " ++ stray.name ++ nearest_text stray.nearest ++ codes "\n"

-- those of all, in order
abbrev pub stray_lines : List Stray → List ℕ
stray_lines strays = flat_map stray_line strays

-- ---- reports
-- `status of T`: of which machine it is
abbrev pub title_line : List ℕ → List ℕ
title_line machine = codes "status of " ++ machine ++ codes "\n"

-- `12 obligations: 7 obvious, 5 proved, 0 open`
abbrev pub sums_line : Sums → List ℕ
sums_line sums = decimal sums.obligations ++ (codes " obligations: " ++ decimal sums.obvious) ++ (codes " obvious, " ++ decimal sums.proved)
    ++ (codes " proved, " ++ decimal sums.left) ++ codes " open\n"

-- what a kind of obligations is called
abbrev pub concern_text : Concern → List ℕ
concern_text Initialisation = codes "initialisation"
concern_text Operation = codes "operations"
concern_text Assertion = codes "assertions"
concern_text Values = codes "values"
concern_text Definedness = codes "definedness"
concern_text Other = codes "others"

-- `operations: 8 obligations: 4 obvious, 4 proved, 0 open`
abbrev pub concern_sums : Concern → Sums → List ℕ
concern_sums concern sums = (concern_text concern ++ codes ": ") ++ sums_line sums

-- the same, where there are some
abbrev pub concern_line : Concern → Sums → List ℕ
concern_line concern sums = cond (nat_eq sums.obligations 0) [] (concern_sums concern sums)

-- those of all kinds
abbrev pub concern_lines : List Item → List ℕ
concern_lines items =
    concern_line Initialisation (sums_with Initialisation items) ++ concern_line Operation (sums_with Operation items)
    ++ concern_line Assertion (sums_with Assertion items) ++ concern_line Values (sums_with Values items)
    ++ concern_line Definedness (sums_with Definedness items) ++ concern_line Other (sums_with Other items)

-- `T.mch 161 7efacaf9..`: a file, how many bytes it has, and its SHA-256
abbrev pub input_line : Input → List ℕ
input_line input = input.name ++ (codes " " ++ decimal input.length) ++ codes " " ++ string_bytes input.digest ++ codes "\n"

-- those of all files
abbrev pub input_lines : List Input → List ℕ
input_lines inputs = flat_map input_line inputs

-- `written by bkproof of bkit 1, proved with rattle-kit-13f logic ..`: who wrote it
abbrev pub tool_line : Report → List ℕ
tool_line report = (codes "written by bkproof of bkit " ++ report.version.now) ++ (codes ", proved with " ++ report.toolchain.now) ++ codes "\n"

-- what is proved, trusted and not claimed, a line each
abbrev pub claims_lines : Claims → List ℕ
claims_lines claims = (codes "proved: " ++ claims.proved.now) ++ (codes "\ntrusted: " ++ claims.trusted.now)
    ++ (codes "\nnot claimed: " ++ claims.not_claimed.now) ++ codes "\n"

-- the machine, all obligations, the sums, those by kinds, the scripts for none, the files, who wrote it, and the claims
abbrev pub report_lines : Report → List ℕ
report_lines report = title_line report.machine ++ list_lines false report.items.items ++ sums_line (sums_over report.items.items)
    ++ concern_lines report.items.items ++ stray_lines report.strays.items ++ input_lines report.inputs.items
    ++ tool_line report ++ claims_lines report.claims
