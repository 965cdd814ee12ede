-- How deep the data of reports nest.
use Rattle.std.proofs.Common.{◌≡◌, ℕ, suc, ◌≤◌, Bool, true, false, cond, ◌&&◌, List, [], ◌∷◌, ◌++◌, map, arith, refl, sym, subst, codes, string_bytes, Ordering, Less, Equal, Greater, nat_cmp, Option, Some, None}
use Rattle.std.specs.List.{flat_map}
use Rattle.std.specs.Ordering.{match_ordering}
use Rattle.std.specs.Cmp.Lexicographic.{slice_cmp}
use Rattle.serde_json.specs.Data.{Data, string, object, Members, no_members, member, put, depth, items_depth, members_depth}
use Rattle.serde_json.specs.View.{items_of}
use Rattle.serde_json.specs.Read.{max_depth}
use Rattle.bk_status.specs.Rows.{is_settled}
use Rattle.bk_report.specs.Table.{state_text}
use Rattle.bk_evidence.specs.declared.claim.Claims.{Claims}
use Rattle.bk_evidence.specs.declared.item.Item.{Item}
use Rattle.bk_evidence.specs.declared.item.Script.{Script}
use Rattle.bk_evidence.specs.declared.report.Input.{Input}
use Rattle.bk_evidence.specs.declared.report.Report.{Report}
use Rattle.bk_evidence.specs.declared.report.Stray.{Stray}
use Rattle.bk_evidence.specs.declared.sums.Sums.{Sums}
use Rattle.bk_evidence.specs.Items.{sums_over, sums_with}
use Rattle.bk_origins.specs.declared.concern.Concern.TheVariants.{Initialisation, Operation, Assertion, Values, Definedness, Other}
use Rattle.bk_evidence.specs.Json.{text_data, count_data, script_data, place_members, item_data, input_data, sums_data, kinds_data, claims_data, asked_data, items_data, inputs_data, nearest_data, stray_data, strays_data, list_data, report_data}

-- ---- members and items
by-order : (n : ℕ) (o : Ordering) (a b c : Members) → members_depth a ≤ n → members_depth b ≤ n → members_depth c ≤ n → members_depth (match_ordering o a b c) ≤ n
by-order n Less a b c h g f = h
by-order n Equal a b c h g f = g
by-order n Greater a b c h g f = f

member-within : (k : List ℕ) (d : Data) (ms : Members) (n : ℕ) → depth d ≤ n → members_depth ms ≤ n → members_depth (member k d ms) ≤ n
member-within k d ms n h g = omega arith

put-within : (k : List ℕ) (d : Data) (ms : Members) (n : ℕ) → depth d ≤ n → members_depth ms ≤ n → members_depth (put k d ms) ≤ n
put-within k d no_members n h g = member-within k d no_members n h g
put-within k d (member l e ms) n h g =
    let first : depth e ≤ n = omega arith in
    let others : members_depth ms ≤ n = omega arith in
    by-order n (slice_cmp nat_cmp k l) (member k d (member l e ms)) (member l d ms) (member l e (put k d ms)) (member-within k d (member l e ms) n h g) (member-within l d ms n h others) (member-within l e (put k d ms) n first (put-within k d ms n h others))

list-within : {A : Type 0} (f : A → Data) (n : ℕ) → ((x : A) → depth (f x) ≤ n) → (xs : List A) → items_depth (items_of (map f xs)) ≤ n
list-within f n h [] = omega arith
list-within f n h (x ∷ xs) = let first = h x in let others = list-within f n h xs in omega arith

one-more : (ms : Members) (n : ℕ) → members_depth ms ≤ n → depth (object ms) ≤ suc n
one-more ms n h = omega arith

none : (n : ℕ) → members_depth no_members ≤ n
none n = omega arith

flat : (n : ℕ) → 0 ≤ n
flat n = omega arith

-- members whose values are flat, put one after another
one-flat : (k : List ℕ) (d : Data) (ms : Members) (n : ℕ) → depth d ≡ 0 → members_depth ms ≤ n → members_depth (put k d ms) ≤ n
one-flat k d ms n e h = put-within k d ms n (omega arith) h

-- ---- parts of a report
script-within : (script : Option Script) → depth (script_data script) ≤ 1
script-within None = omega arith
script-within (Some script) =
    let first = one-flat (codes "rules") (count_data script.rules) no_members 0 refl (none 0) in
    one-more (put (codes "place") (text_data script.place) (put (codes "rules") (count_data script.rules) no_members)) 0 (one-flat (codes "place") (text_data script.place) (put (codes "rules") (count_data script.rules) no_members) 0 refl first)

abbrev file-member : Item → Members
file-member item = put (codes "file") (text_data item.file) no_members

abbrev line-member : Item → Members
line-member item = put (codes "line") (count_data item.line) (file-member item)

place-within : (item : Item) → members_depth (place_members item) ≤ 1
place-within item =
    one-flat (codes "column") (count_data item.column) (line-member item) 1 refl
    (one-flat (codes "line") (count_data item.line) (file-member item) 1 refl (one-flat (codes "file") (text_data item.file) no_members 1 refl (none 1)))

abbrev name-member : Item → Members
name-member item = put (codes "name") (text_data item.name) (place_members item)

abbrev asks-member : Item → Members
asks-member item = put (codes "asks") (text_data item.words) (name-member item)

abbrev state-member : Item → Members
state-member item = put (codes "state") (text_data (state_text item.state)) (asks-member item)

item-within : (item : Item) → depth (item_data item) ≤ 2
item-within item =
    one-more (put (codes "script") (script_data item.script) (state-member item)) 1 (put-within (codes "script") (script_data item.script) (state-member item) 1 (script-within item.script)
    (one-flat (codes "state") (text_data (state_text item.state)) (asks-member item) 1 refl (one-flat (codes "asks") (text_data item.words) (name-member item) 1 refl (one-flat (codes "name") (text_data item.name) (place_members item) 1 refl (place-within item)))))

abbrev named-member : Input → Members
named-member input = put (codes "name") (text_data input.name) no_members

abbrev sized-member : Input → Members
sized-member input = put (codes "bytes") (count_data input.length) (named-member input)

input-within : (input : Input) → depth (input_data input) ≤ 2
input-within input =
    one-more (put (codes "sha256") (string (string_bytes input.digest)) (sized-member input)) 1 (one-flat (codes "sha256") (string (string_bytes input.digest)) (sized-member input) 1 refl
    (one-flat (codes "bytes") (count_data input.length) (named-member input) 1 refl (one-flat (codes "name") (text_data input.name) no_members 1 refl (none 1))))

abbrev all-member : Sums → Members
all-member sums = put (codes "obligations") (count_data sums.obligations) no_members

abbrev obvious-member : Sums → Members
obvious-member sums = put (codes "obvious") (count_data sums.obvious) (all-member sums)

abbrev proved-member : Sums → Members
proved-member sums = put (codes "proved") (count_data sums.proved) (obvious-member sums)

sums-within : (sums : Sums) → depth (sums_data sums) ≤ 1
sums-within sums =
    one-more (put (codes "open") (count_data sums.left) (proved-member sums)) 0 (one-flat (codes "open") (count_data sums.left) (proved-member sums) 0 refl (one-flat (codes "proved") (count_data sums.proved) (obvious-member sums) 0 refl
    (one-flat (codes "obvious") (count_data sums.obvious) (all-member sums) 0 refl (one-flat (codes "obligations") (count_data sums.obligations) no_members 0 refl (none 0)))))

-- sums one after another
one-sums : (k : List ℕ) (sums : Sums) (ms : Members) → members_depth ms ≤ 1 → members_depth (put k (sums_data sums) ms) ≤ 1
one-sums k sums ms h = put-within k (sums_data sums) ms 1 (sums-within sums) h

kinds-within : (items : List Item) → depth (kinds_data items) ≤ 2
kinds-within items =
    let first = put (codes "initialisation") (sums_data (sums_with Initialisation items)) no_members in
    let second = put (codes "operations") (sums_data (sums_with Operation items)) first in
    let third = put (codes "assertions") (sums_data (sums_with Assertion items)) second in
    let fourth = put (codes "values") (sums_data (sums_with Values items)) third in
    let fifth = put (codes "definedness") (sums_data (sums_with Definedness items)) fourth in
    one-more (put (codes "others") (sums_data (sums_with Other items)) fifth) 1 (one-sums (codes "others") (sums_with Other items) fifth (one-sums (codes "definedness") (sums_with Definedness items) fourth
    (one-sums (codes "values") (sums_with Values items) third (one-sums (codes "assertions") (sums_with Assertion items) second
    (one-sums (codes "operations") (sums_with Operation items) first (one-sums (codes "initialisation") (sums_with Initialisation items) no_members (none 1)))))))

one-asked : (b : Bool) (d : Data) (ds : List Data) → depth d ≤ 2 → items_depth (items_of ds) ≤ 2 → items_depth (items_of (cond b [] (d ∷ []) ++ ds)) ≤ 2
one-asked true d ds h g = g
one-asked false d ds h g = omega arith

asked-within : (only : Bool) (items : List Item) → items_depth (items_of (flat_map (asked_data only) items)) ≤ 2
asked-within only [] = omega arith
asked-within only (i ∷ is) = one-asked (only && is_settled i.state) (item_data i) (flat_map (asked_data only) is) (item-within i) (asked-within only is)

items-within : (only : Bool) (items : List Item) → depth (items_data only items) ≤ 3
items-within only items = let each = asked-within only items in omega arith

inputs-within : (inputs : List Input) → depth (inputs_data inputs) ≤ 3
inputs-within inputs = let each = list-within input_data 2 input-within inputs in omega arith

nearest-within : (nearest : Option (List ℕ)) → depth (nearest_data nearest) ≡ 0
nearest-within None = refl
nearest-within (Some name) = refl

abbrev called-member : Stray → Members
called-member stray = put (codes "name") (text_data stray.name) no_members

stray-within : (stray : Stray) → depth (stray_data stray) ≤ 1
stray-within stray =
    one-more (put (codes "nearest") (nearest_data stray.nearest) (called-member stray)) 0 (one-flat (codes "nearest") (nearest_data stray.nearest) (called-member stray) 0 (nearest-within stray.nearest)
    (one-flat (codes "name") (text_data stray.name) no_members 0 refl (none 0)))

strays-within : (strays : List Stray) → depth (strays_data strays) ≤ 2
strays-within strays = let each = list-within stray_data 1 stray-within strays in omega arith

list-fits : (only : Bool) (items : List Item) (strays : List Stray) → depth (list_data only items strays) ≤ 4
list-fits only items strays =
    let first = put (codes "obligations") (items_data only items) no_members in
    let few = strays-within strays in
    let obligations = put-within (codes "obligations") (items_data only items) no_members 3 (items-within only items) (none 3) in
    one-more (put (codes "scripts_for_no_obligation") (strays_data strays) first) 3 (put-within (codes "scripts_for_no_obligation") (strays_data strays) first 3 (omega arith) obligations)

claims-within : (claims : Claims) → depth (claims_data claims) ≤ 1
claims-within claims =
    let first = put (codes "proved") (string claims.proved.now) no_members in
    let second = put (codes "trusted") (string claims.trusted.now) first in
    one-more (put (codes "not_claimed") (string claims.not_claimed.now) second) 0 (one-flat (codes "not_claimed") (string claims.not_claimed.now) second 0 refl
    (one-flat (codes "trusted") (string claims.trusted.now) first 0 refl (one-flat (codes "proved") (string claims.proved.now) no_members 0 refl (none 0))))

abbrev version-member : Report → Members
version-member report = put (codes "version") (string report.version.now) no_members

abbrev toolchain-member : Report → Members
toolchain-member report = put (codes "toolchain") (string report.toolchain.now) (version-member report)

abbrev machine-member : Report → Members
machine-member report = put (codes "machine") (text_data report.machine) (toolchain-member report)

abbrev inputs-member : Report → Members
inputs-member report = put (codes "inputs") (inputs_data report.inputs.items) (machine-member report)

abbrev obligations-member : Report → Members
obligations-member report = put (codes "obligations") (items_data false report.items.items) (inputs-member report)

abbrev strays-member : Report → Members
strays-member report = put (codes "scripts_for_no_obligation") (strays_data report.strays.items) (obligations-member report)

abbrev sums-member : Report → Members
sums-member report = put (codes "sums") (sums_data (sums_over report.items.items)) (strays-member report)

abbrev kinds-member : Report → Members
kinds-member report = put (codes "sums_by_kind") (kinds_data report.items.items) (sums-member report)

report-within : (report : Report) → depth (report_data report) ≤ 4
report-within report =
    let machine = one-flat (codes "machine") (text_data report.machine) (toolchain-member report) 3 refl (one-flat (codes "toolchain") (string report.toolchain.now) (version-member report) 3 refl (one-flat (codes "version") (string report.version.now) no_members 3 refl (none 3))) in
    let inputs = put-within (codes "inputs") (inputs_data report.inputs.items) (machine-member report) 3 (inputs-within report.inputs.items) machine in
    let obligations = put-within (codes "obligations") (items_data false report.items.items) (inputs-member report) 3 (items-within false report.items.items) inputs in
    let few-strays = strays-within report.strays.items in
    let strays = put-within (codes "scripts_for_no_obligation") (strays_data report.strays.items) (obligations-member report) 3 (omega arith) obligations in
    let flat-sums = sums-within (sums_over report.items.items) in
    let few-kinds = kinds-within report.items.items in
    let sums = put-within (codes "sums") (sums_data (sums_over report.items.items)) (strays-member report) 3 (omega arith) strays in
    let few-claims = claims-within report.claims in
    let kinds = put-within (codes "sums_by_kind") (kinds_data report.items.items) (sums-member report) 3 (omega arith) sums in
    one-more (put (codes "claims") (claims_data report.claims) (kinds-member report)) 3 (put-within (codes "claims") (claims_data report.claims) (kinds-member report) 3 (omega arith) kinds)

pub report_nests : (report : Report) (d : Data) → d ≡ report_data report → depth d ≤ max_depth
report_nests report d e = subst (λ x. depth x ≤ max_depth) (sym e) (let few = report-within report in omega arith)

pub list_nests : (only : Bool) (items : List Item) (strays : List Stray) (d : Data) → d ≡ list_data only items strays → depth d ≤ max_depth
list_nests only items strays d e = subst (λ x. depth x ≤ max_depth) (sym e) (let few = list-fits only items strays in omega arith)
