-- The data that a report is written as in JSON (RFC 8259). Members are put one after another; JSON has them in the order of their names.
use Rattle.std.specs.Prelude.{ℕ, Bool, false, cond, ◌&&◌, List, [], ◌∷◌, map, Option, Some, None, codes, string_bytes}
use Rattle.std.specs.List.{flat_map}
use Rattle.std.specs.Str.Lossy.{utf8_lossy}
use Rattle.serde_json.specs.Data.{Data, null, number, unsigned, string, array, object, Members, no_members, put}
use Rattle.serde_json.specs.View.{items_of}
use Rattle.bk_status.specs.Rows.{is_settled}
use Rattle.bk_report.specs.Table.{state_text}
use Rattle.bk_evidence.specs.declared.claim.Claims.{Claims}
use Rattle.bk_evidence.specs.declared.item.Item.{Item}
use Rattle.bk_evidence.specs.declared.item.Script.{Script}
use Rattle.bk_evidence.specs.declared.report.Input.{Input}
use Rattle.bk_evidence.specs.declared.report.Report.{Report}
use Rattle.bk_evidence.specs.declared.report.Stray.{Stray}
use Rattle.bk_evidence.specs.declared.sums.Sums.{Sums}
use Rattle.bk_evidence.specs.Items.{sums_over, sums_with}
use Rattle.bk_origins.specs.declared.concern.Concern.TheVariants.{Initialisation, Operation, Assertion, Values, Definedness, Other}

-- bytes as text; what is no UTF-8 stands as U+FFFD
abbrev pub text_data : List ℕ → Data
text_data bytes = string (utf8_lossy bytes)

-- a count
abbrev pub count_data : ℕ → Data
count_data n = number (unsigned n)

-- ---- parts of a report
-- how many rules a script has, and where it stands
abbrev pub script_data : Option Script → Data
script_data None = null
script_data (Some script) = object (put (codes "place") (text_data script.place) (put (codes "rules") (count_data script.rules) no_members))

-- where an obligation comes from
abbrev pub place_members : Item → Members
place_members item = put (codes "column") (count_data item.column)
    (put (codes "line") (count_data item.line) (put (codes "file") (text_data item.file) no_members))

-- an obligation with the state that the status table has
abbrev pub item_data : Item → Data
item_data item = object (put (codes "script") (script_data item.script) (put (codes "state") (text_data (state_text item.state))
    (put (codes "asks") (text_data item.words) (put (codes "name") (text_data item.name) (place_members item)))))

-- a file that was read
abbrev pub input_data : Input → Data
input_data input = object (put (codes "sha256") (string (string_bytes input.digest)) (put (codes "bytes") (count_data input.length)
    (put (codes "name") (text_data input.name) no_members)))

-- a name, where there is one
abbrev pub nearest_data : Option (List ℕ) → Data
nearest_data None = null
nearest_data (Some name) = text_data name

-- a script for no obligation, and the obligation's name that is most like its name
abbrev pub stray_data : Stray → Data
stray_data stray = object (put (codes "nearest") (nearest_data stray.nearest) (put (codes "name") (text_data stray.name) no_members))

-- how many obligations there are, and how many are obvious, proved and neither
abbrev pub sums_data : Sums → Data
sums_data sums = object (put (codes "open") (count_data sums.left) (put (codes "proved") (count_data sums.proved)
    (put (codes "obvious") (count_data sums.obvious) (put (codes "obligations") (count_data sums.obligations) no_members))))

-- the same of each kind of obligations
abbrev pub kinds_data : List Item → Data
kinds_data items = object (put (codes "others") (sums_data (sums_with Other items))
    (put (codes "definedness") (sums_data (sums_with Definedness items)) (put (codes "values") (sums_data (sums_with Values items))
    (put (codes "assertions") (sums_data (sums_with Assertion items)) (put (codes "operations") (sums_data (sums_with Operation items))
    (put (codes "initialisation") (sums_data (sums_with Initialisation items)) no_members))))))

-- what a report claims, and what it does not
abbrev pub claims_data : Claims → Data
claims_data claims = object (put (codes "not_claimed") (string claims.not_claimed.now) (put (codes "trusted") (string claims.trusted.now)
    (put (codes "proved") (string claims.proved.now) no_members)))

-- ---- lists of them
-- an obligation, and nothing of one that is settled, where those are asked that are open
abbrev pub asked_data : (is_open_only : Bool) → Item → List Data
asked_data is_open_only item = cond (is_open_only && is_settled item.state) [] (item_data item ∷ [])

-- the obligations, or those that are open
abbrev pub items_data : (is_open_only : Bool) → List Item → Data
items_data is_open_only items = array (items_of (flat_map (asked_data is_open_only) items))

-- the files
abbrev pub inputs_data : List Input → Data
inputs_data inputs = array (items_of (map input_data inputs))

-- the scripts for no obligation
abbrev pub strays_data : List Stray → Data
strays_data strays = array (items_of (map stray_data strays))

-- what a list has: the obligations, or those that are open, and the scripts for none
abbrev pub list_data : (is_open_only : Bool) → List Item → List Stray → Data
list_data is_open_only items strays = object (put (codes "scripts_for_no_obligation") (strays_data strays)
    (put (codes "obligations") (items_data is_open_only items) no_members))

-- ---- the report
-- who wrote it, and what it is of
abbrev pub about_members : Report → Members
about_members report = put (codes "machine") (text_data report.machine)
    (put (codes "toolchain") (string report.toolchain.now) (put (codes "version") (string report.version.now) no_members))

-- then the files, the obligations, and the scripts for none
abbrev pub listed_members : Report → Members
listed_members report = put (codes "scripts_for_no_obligation") (strays_data report.strays.items)
    (put (codes "obligations") (items_data false report.items.items)
    (put (codes "inputs") (inputs_data report.inputs.items) (about_members report)))

-- all these, the sums, and what is claimed
abbrev pub report_data : Report → Data
report_data report = object (put (codes "claims") (claims_data report.claims) (put (codes "sums_by_kind") (kinds_data report.items.items)
    (put (codes "sums") (sums_data (sums_over report.items.items)) (listed_members report))))
