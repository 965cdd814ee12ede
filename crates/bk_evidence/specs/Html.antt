-- The page that a report is written as in HTML. A text that comes from files stands escaped, so that none of its bytes is read as a mark.
use Rattle.std.specs.Prelude.{◌≡◌, ℕ, nat_eq, Bool, true, false, not, ◌||◌, cond, List, [], ◌∷◌, ◌++◌, length, Option, Some, None, codes, decimal, string_bytes}
use Rattle.std.specs.List.{flat_map, list_all}
use Rattle.bk_status.specs.Rows.{is_settled}
use Rattle.bk_status.specs.declared.state.State.{State}
use Rattle.bk_report.specs.Table.{state_text}
use Rattle.bk_evidence.specs.declared.claim.Claims.{Claims}
use Rattle.bk_evidence.specs.declared.item.Item.{Item}
use Rattle.bk_evidence.specs.declared.item.Script.{Script}
use Rattle.bk_evidence.specs.declared.page.TheConstants.{HEAD, STYLE, FOOT}
use Rattle.bk_evidence.specs.declared.report.Input.{Input}
use Rattle.bk_evidence.specs.declared.report.Report.{Report}
use Rattle.bk_evidence.specs.declared.report.Stray.{Stray}
use Rattle.bk_evidence.specs.declared.sums.Sums.{Sums}
use Rattle.bk_evidence.specs.Items.{sums_over, sums_with}
use Rattle.bk_evidence.specs.Lines.{concern_text}
use Rattle.bk_origins.specs.declared.concern.Concern.{Concern}
use Rattle.bk_origins.specs.declared.concern.Concern.TheVariants.{Initialisation, Operation, Assertion, Values, Definedness, Other}

-- ---- texts
-- a byte; a mark of HTML stands as its name
abbrev pub escaped_byte : ℕ → List ℕ
escaped_byte byte = cond (nat_eq byte 60) (codes "&lt;") (cond (nat_eq byte 62) (codes "&gt;") (cond (nat_eq byte 38) (codes "&amp;")
    (cond (nat_eq byte 34) (codes "&quot;") (cond (nat_eq byte 39) (codes "&#39;") (byte ∷ [])))))

-- all bytes of a text
abbrev pub escaped : List ℕ → List ℕ
escaped text = flat_map escaped_byte text

-- a byte that HTML reads as the begin or end of a mark, or of a quoted value
abbrev pub is_mark : ℕ → Bool
is_mark byte = nat_eq byte 60 || nat_eq byte 62 || nat_eq byte 34 || nat_eq byte 39

-- none of an escaped text is one
abbrev pub EscapedIsBare : Type 0
EscapedIsBare = (text : List ℕ) → list_all (λ byte. not (is_mark byte)) (escaped text) ≡ true

-- a text between marks
abbrev pub text_within : (before text after : List ℕ) → List ℕ
text_within before text after = before ++ escaped text ++ after

-- a count between marks
abbrev pub count_within : (before : List ℕ) → ℕ → (after : List ℕ) → List ℕ
count_within before count after = (before ++ decimal count) ++ after

-- ---- obligations
-- a row of what is open of an obligation, folded
abbrev pub shown_row : List ℕ → List ℕ
shown_row shown = text_within (codes "<tr class=\"shown\"><td colspan=\"4\"><details><summary>sequents</summary><pre>") shown
    (codes "</pre></details></td></tr>\n")

-- the same; nothing where nothing is said
abbrev pub shown_part : List ℕ → List ℕ
shown_part shown = cond (nat_eq (length shown) 0) [] (shown_row shown)

-- its name, and what it asks
abbrev pub question_part : Item → List ℕ
question_part item = text_within (codes "<tr><td><code>") item.name (codes "</code></td><td>") ++ escaped item.words

-- where it comes from
abbrev pub place_part : Item → List ℕ
place_part item = text_within (codes "</td><td><code>") item.file [] ++ (codes ":" ++ decimal item.line)
    ++ count_within (codes ":") item.column (codes "</code></td>")

-- the cell of its state
abbrev pub state_mark : State → List ℕ
state_mark state = cond (is_settled state) (codes "<td class=\"settled\">") (codes "<td class=\"open\">")

-- where its script stands, and how many rules that has
abbrev pub rules_part : Script → List ℕ
rules_part script = text_within (codes "<br><code>") script.place (codes "</code>") ++ (codes ", rules " ++ decimal script.rules)

-- the same, where there is a script
abbrev pub script_part : Option Script → List ℕ
script_part None = []
script_part (Some script) = rules_part script

-- its state as the status table has it, and its script
abbrev pub answer_part : Item → List ℕ
answer_part item = state_mark item.state ++ state_text item.state ++ script_part item.script ++ codes "</td></tr>\n"

-- the row of an obligation, and after it what is open of it
abbrev pub row_part : Item → List ℕ
row_part item = question_part item ++ place_part item ++ answer_part item ++ shown_part item.shown

-- whether it is one of those that are settled, or of those that are not
abbrev pub is_asked : (settled : Bool) → State → Bool
is_asked true state = is_settled state
is_asked false state = not (is_settled state)

-- its row, where it is one of these
abbrev pub asked_row : (settled : Bool) → Item → List ℕ
asked_row settled item = cond (is_asked settled item.state) (row_part item) []

-- what stands above these rows
abbrev pub heading : (settled : Bool) → List ℕ
heading true = codes "<h2>Settled</h2>\n"
heading false = codes "<h2>Open</h2>\n"

-- rows as a table with such a heading
abbrev pub whole_table : (settled : Bool) → List ℕ → List ℕ
whole_table settled rows = heading settled
    ++ codes "<table>\n<thead><tr><th>Obligation</th><th>What it asks</th><th>Where</th><th>State</th></tr></thead>\n<tbody>\n"
    ++ rows ++ codes "</tbody>\n</table>\n"

-- the same; nothing where there are none
abbrev pub table_part : (settled : Bool) → List ℕ → List ℕ
table_part settled rows = cond (nat_eq (length rows) 0) [] (whole_table settled rows)

-- the obligations that are settled, or those that are not
abbrev pub rows_part : (settled : Bool) → List Item → List ℕ
rows_part settled items = table_part settled (flat_map (asked_row settled) items)

-- ---- sums
-- over all obligations
abbrev pub sums_part : Sums → List ℕ
sums_part sums = count_within (codes "<ul class=\"sums\">\n<li><b>") sums.obligations (codes "</b>obligations</li>\n")
    ++ count_within (codes "<li><b>") sums.obvious (codes "</b>obvious</li>\n")
    ++ count_within (codes "<li><b>") sums.proved (codes "</b>proved</li>\n")
    ++ count_within (codes "<li><b>") sums.left (codes "</b>open</li>\n</ul>\n")

-- the cells of sums
abbrev pub cells_part : Sums → List ℕ
cells_part sums = count_within (codes "<td>") sums.obligations (codes "</td>") ++ count_within (codes "<td>") sums.obvious (codes "</td>")
    ++ count_within (codes "<td>") sums.proved (codes "</td>") ++ count_within (codes "<td>") sums.left (codes "</td></tr>\n")

-- the row of a kind of obligations
abbrev pub concern_row : Concern → Sums → List ℕ
concern_row concern sums = text_within (codes "<tr><td>") (concern_text concern) (codes "</td>") ++ cells_part sums

-- the same, where there are some
abbrev pub concern_part : Concern → Sums → List ℕ
concern_part concern sums = cond (nat_eq sums.obligations 0) [] (concern_row concern sums)

-- the rows of the first kinds, and of the others
abbrev pub first_concerns_part : List Item → List ℕ
first_concerns_part items = concern_part Initialisation (sums_with Initialisation items)
    ++ concern_part Operation (sums_with Operation items) ++ concern_part Assertion (sums_with Assertion items)

abbrev pub last_concerns_part : List Item → List ℕ
last_concerns_part items = concern_part Values (sums_with Values items)
    ++ concern_part Definedness (sums_with Definedness items) ++ concern_part Other (sums_with Other items)

-- those of all kinds
abbrev pub concerns_part : List Item → List ℕ
concerns_part items =
    codes "<table>\n<thead><tr><th>Kind</th><th>Obligations</th><th>Obvious</th><th>Proved</th><th>Open</th></tr></thead>\n<tbody>\n"
    ++ first_concerns_part items ++ last_concerns_part items ++ codes "</tbody>\n</table>\n"

-- ---- what else is known
-- the name of a script that belongs to no obligation
abbrev pub stray_part : Stray → List ℕ
stray_part stray = text_within (codes "<li><code>") stray.name (codes "</code></li>\n")

-- their list
abbrev pub stray_list : List Stray → List ℕ
stray_list strays = codes "<h2>Scripts that belong to no obligation</h2>\n<ul>\n" ++ flat_map stray_part strays ++ codes "</ul>\n"

-- the same; nothing where there are none
abbrev pub strays_part : List Stray → List ℕ
strays_part strays = cond (nat_eq (length strays) 0) [] (stray_list strays)

-- a file, how many bytes it has, and its SHA-256
abbrev pub input_part : Input → List ℕ
input_part input = text_within (codes "<tr><td><code>") input.name (codes "</code></td>")
    ++ count_within (codes "<td>") input.length (codes "</td>")
    ++ text_within (codes "<td><code>") (string_bytes input.digest) (codes "</code></td></tr>\n")

-- all files
abbrev pub inputs_part : List Input → List ℕ
inputs_part inputs =
    codes "<h2>Files that were read</h2>\n<table>\n<thead><tr><th>File</th><th>Bytes</th><th>SHA-256</th></tr></thead>\n<tbody>\n"
    ++ flat_map input_part inputs ++ codes "</tbody>\n</table>\n"

-- who wrote it
abbrev pub tool_part : Report → List ℕ
tool_part report = text_within (codes "<h2>Written by</h2>\n<p>bkproof of bkit ") report.version.now []
    ++ text_within (codes ", proved with ") report.toolchain.now (codes "</p>\n")

-- what is claimed, and what is not
abbrev pub claims_part : Claims → List ℕ
claims_part claims = text_within (codes "<h2>What this says</h2>\n<p><b>Proved</b>: ") claims.proved.now (codes "</p>\n")
    ++ text_within (codes "<p><b>Trusted</b>: ") claims.trusted.now (codes "</p>\n")
    ++ text_within (codes "<p><b>Not claimed</b>: ") claims.not_claimed.now (codes "</p>\n")

-- ---- the page
-- its begin: of which machine it is, and how it is laid out
abbrev pub begin_part : Report → List ℕ
begin_part report = text_within HEAD.now report.machine STYLE.now ++ text_within (codes "<h1>Status of ") report.machine (codes "</h1>\n")

-- sums, those of each kind, and the obligations, those that are open first
abbrev pub status_part : List Item → List ℕ
status_part items = sums_part (sums_over items) ++ concerns_part items ++ rows_part false items ++ rows_part true items

-- scripts for none, the files, and what the report is
abbrev pub about_part : Report → List ℕ
about_part report = strays_part report.strays.items ++ inputs_part report.inputs.items ++ tool_part report ++ claims_part report.claims

-- the whole page
abbrev pub page_text : Report → List ℕ
page_text report = begin_part report ++ status_part report.items.items ++ about_part report ++ FOOT.now
